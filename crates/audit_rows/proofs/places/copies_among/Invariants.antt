use Rattle.shop_types.proofs.Common.{◌≡◌, map, drop, list_any, list_all, bytes_eq, seen_mark}
use Rattle.audit_rows.specs.Seen.{seen_copy}
use Rattle.audit_rows.specs.Marked.{film_key}
use Rattle.audit_rows.proofs.places.copies_among.Given as goal

abbrev pub invariant-loop-row : goal.invariant-loop-row
invariant-loop-row l =
    list_all (λ row. list_any (bytes_eq (film_key row.it.film row.it.mark)) (map (λ row. film_key row.film (seen_mark row.mark)) l.placed))
    (map seen_copy (drop l.row-index l.copies))
    ≡ list_all (λ row. list_any (bytes_eq (film_key row.it.film row.it.mark)) (map (λ row. film_key row.film (seen_mark row.mark)) l.placed))
    (map seen_copy l.copies)
