use Rattle.shop_types.proofs.Common.{◌≡◌, map, drop, list_any, list_all, bytes_eq, seen_mark}
use Rattle.audit_rows.specs.Seen.{seen_line}
use Rattle.audit_rows.specs.Marked.{film_key}
use Rattle.audit_rows.proofs.places.lines_among.Given as goal

abbrev pub invariant-loop-row : goal.invariant-loop-row
invariant-loop-row l =
    list_all (λ line. list_any (bytes_eq (film_key line.film line.mark)) (map (λ row. film_key row.film (seen_mark row.mark)) l.placed))
    (map seen_line (drop l.row-index l.lines))
    ≡ list_all (λ line. list_any (bytes_eq (film_key line.film line.mark)) (map (λ row. film_key row.film (seen_mark row.mark)) l.placed))
    (map seen_line l.lines)
