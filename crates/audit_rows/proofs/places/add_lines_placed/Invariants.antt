use Rattle.shop_types.proofs.Common.{◌≡◌, ◌++◌, map, drop, seen_mark}
use Rattle.audit_rows.specs.Seen.{seen_line}
use Rattle.audit_rows.specs.Marked.{film_key, lines_placed}
use Rattle.audit_rows.proofs.places.add_lines_placed.Given as goal

abbrev pub invariant-loop-row : goal.invariant-loop-row
invariant-loop-row l =
    map (λ row. film_key row.film (seen_mark row.mark)) l.placed.items ++ lines_placed (map seen_line (drop l.row-index l.lines))
    ≡ map (λ row. film_key row.film (seen_mark row.mark)) l.fn.placed.items ++ lines_placed (map seen_line l.lines)
