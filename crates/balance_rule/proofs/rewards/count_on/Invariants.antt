use Rattle.std.proofs.Common.{◌≡◌, ◌≤◌, take, length}
use Rattle.std.specs.Prelude.{filter}
use Rattle.balance_rule.specs.Rewards.{is_on}
use Rattle.balance_rule.proofs.rewards.count_on.Given as goal

abbrev pub invariant-loop-payment : goal.invariant-loop-payment
invariant-loop-payment l = record {
  value : l.count ≡ length (filter (is_on l.month) (take l.payment-index l.payments));
  bound : l.count ≤ l.payment-index;
}
