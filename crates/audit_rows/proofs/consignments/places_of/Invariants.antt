use Rattle.std.proofs.Common.{◌≡◌, ◌++◌, map, drop}
use Rattle.audit_rows.proofs.consignments.places_of.Given as goal

abbrev pub invariant-loop-row : goal.invariant-loop-row
invariant-loop-row l = l.places.items ++ map (λ row. row.place) (drop l.row-index l.headers) ≡ map (λ row. row.place) l.headers
