use Rattle.shop_types.proofs.Common.{◌≡◌, ◌∙◌, rules, seen_rule}
use Rattle.balance_rule.specs.Balance.{owed_at}
use Rattle.balance_rule.proofs.SumLemmas.{owed_is}
use Rattle.balance_rule.proofs.fees.balance.Goals as goal

pub returns-clause-balance : goal.returns-clause-balance
returns-clause-balance c shop customer of by =
    let sum : c.new.result ≡ owed_at (seen_rule c.args.rule) c.args.rentals.now c.args.payments.now c.args.at = search rules in
    sum ∙ owed_is (seen_rule c.args.rule) shop customer c.args.at c.args.rentals.now c.args.payments.now of by
