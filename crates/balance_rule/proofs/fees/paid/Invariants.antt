use Rattle.std.proofs.Common.{◌≡◌, ◌≤◌, ◌*◌, take}
use Rattle.balance_rule.specs.Balance.{paid_by}
use Rattle.balance_rule.proofs.fees.paid.Given as goal

abbrev pub invariant-loop-payment : goal.invariant-loop-payment
invariant-loop-payment l = record {
  value : l.total ≡ paid_by l.at (take l.payment-index l.payments);
  bound : l.total ≤ 99999 * l.payment-index;
}
