use Rattle.shop_types.proofs.Common.{◌≡◌, length, drop, list_any, lacks, Shop}
use Rattle.branch_core.proofs.consignments.has_unknown_copy.Given as goal

-- a branch with so many copies has all copies so far
abbrev pub invariant-loop-copy : goal.invariant-loop-copy
invariant-loop-copy l =
    (shop : Shop) → l.count ≡ length shop.copies → list_any (lacks shop.copies) l.copies ≡ list_any (lacks shop.copies) (drop l.copy-index l.copies)
