use Rattle.std.proofs.Common.{◌≡◌, ◌∙◌, rules}
use Rattle.std.specs.Prelude.{nat_lt}
use Rattle.balance_rule.specs.Rewards.{passes}
use Rattle.balance_rule.proofs.SumLemmas.{passes_are}
use Rattle.balance_rule.proofs.rewards.rewarded.Goals as goal

pub returns-then-count_on-purchases-clause-customer : goal.returns-then-count_on-purchases-clause-customer
returns-then-count_on-purchases-clause-customer c shop customer days is by =
    let sum : nat_lt c.from.result c.cents_on.result ≡ passes c.args.month c.args.purchases c.args.cents c.args.payments.now = search rules in
    sum ∙ passes_are shop customer days c.args.month c.args.purchases c.args.cents c.args.payments.now is by

pub returns-else-count_on-purchases-clause-customer : goal.returns-else-count_on-purchases-clause-customer
returns-else-count_on-purchases-clause-customer c shop customer days is by =
    let sum : nat_lt c.args.purchases c.count_on.result ≡ passes c.args.month c.args.purchases c.args.cents c.args.payments.now = search rules in
    sum ∙ passes_are shop customer days c.args.month c.args.purchases c.args.cents c.args.payments.now is by
