use Rattle.shop_types.proofs.Common.{◌≡◌, ◌++◌, map, drop, seen_mark}
use Rattle.audit_rows.specs.Seen.{seen_copy}
use Rattle.audit_rows.specs.Marked.{film_key, rows_placed}
use Rattle.audit_rows.proofs.places.rows_placed.Given as goal

abbrev pub invariant-loop-row : goal.invariant-loop-row
invariant-loop-row l =
    map (λ row. film_key row.film (seen_mark row.mark)) l.placed.items ++ rows_placed (map seen_copy (drop l.row-index l.copies))
    ≡ rows_placed (map seen_copy l.copies)
