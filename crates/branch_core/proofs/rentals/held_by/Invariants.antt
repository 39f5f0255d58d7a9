use Rattle.shop_types.proofs.Common.{◌≡◌, drop, head, held_by, map, seen_rental}
use Rattle.branch_core.proofs.rentals.held_by.Given as goal

-- none of the rentals so far is an open rental of the copy
abbrev pub invariant-loop-rental : goal.invariant-loop-rental
invariant-loop-rental l = head (held_by l.copy (map seen_rental l.rentals)) ≡ head (held_by l.copy (map seen_rental (drop l.rental-index l.rentals)))
