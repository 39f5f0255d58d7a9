use Rattle.std.proofs.Common.{◌≡◌, ◌≤◌, ◌*◌, take}
use Rattle.std.specs.Prelude.{filter, sum_by}
use Rattle.balance_rule.specs.Balance.{amount_of}
use Rattle.balance_rule.specs.Rewards.{is_on}
use Rattle.balance_rule.proofs.rewards.cents_on.Given as goal

abbrev pub invariant-loop-payment : goal.invariant-loop-payment
invariant-loop-payment l = record {
  value : l.total ≡ sum_by amount_of (filter (is_on l.month) (take l.payment-index l.payments));
  bound : l.total ≤ 99999 * l.payment-index;
}
