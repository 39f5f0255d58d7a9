use Rattle.shop_types.proofs.Common.{◌≡◌, ◌≤◌, ◌*◌, take, seen_rule}
use Rattle.balance_rule.specs.Balance.{fees_by}
use Rattle.balance_rule.proofs.fees.fees.Given as goal

abbrev pub invariant-loop-rental : goal.invariant-loop-rental
invariant-loop-rental l = record {
  value : l.total ≡ fees_by (seen_rule l.rule) l.at (take l.rental-index l.rentals);
  bound : l.total ≤ 293399598 * l.rental-index;
}
