use Rattle.shop_types.proofs.Common.{◌≡◌, ◌++◌, ◌∷◌, map, drop, AllByRecursion, IsMoment, seen_rental}
use Rattle.audit_rows.specs.Shops.{rental_key}
use Rattle.audit_rows.proofs.shop.rental_keys.Given as goal

abbrev pub invariant-loop-row : goal.invariant-loop-row
invariant-loop-row l = record {
  keys : map (λ row. row.copy ∷ row.customer ∷ row.rented) l.keys.items ++ map (λ row. rental_key (seen_rental row.it)) (drop l.row-index l.rentals)
      ≡ map (λ row. rental_key (seen_rental row.it)) l.rentals;
  moments : AllByRecursion (λ row. IsMoment row.it.rented) (drop l.row-index l.rentals) → AllByRecursion (λ row. IsMoment row.it.rented) l.rentals;
}
