use Rattle.shop_types.proofs.Common.{◌≡◌, ◌+◌, drop, has_double}
use Rattle.branch_core.proofs.consignments.has_double.Given as goal

-- none of the copies so far is listed twice
abbrev pub invariant-loop-copy : goal.invariant-loop-copy
invariant-loop-copy l = record {
  later : l.later ≡ l.copy-index + 1;
  none : has_double l.copies ≡ has_double (drop l.copy-index l.copies);
}
