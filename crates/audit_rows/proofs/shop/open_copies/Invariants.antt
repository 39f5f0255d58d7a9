use Rattle.shop_types.proofs.Common.{◌≡◌, ◌++◌, [], ◌∷◌, map, drop, seen_rental}
use Rattle.audit_rows.specs.Shops.{open_keys}
use Rattle.audit_rows.proofs.shop.open_copies.Given as goal

abbrev pub invariant-loop-row : goal.invariant-loop-row
invariant-loop-row l =
    map (λ row. row.copy ∷ []) l.keys.items ++ open_keys (map (λ row. seen_rental row.it) (drop l.row-index l.rentals))
    ≡ open_keys (map (λ row. seen_rental row.it) l.rentals)
