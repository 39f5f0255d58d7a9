use Rattle.shop_types.proofs.Common.{◌≡◌, ◌++◌, map, drop, seen_mark}
use Rattle.audit_rows.specs.Marked.{mark_key}
use Rattle.audit_rows.proofs.places.marks_of.Given as goal

abbrev pub invariant-loop-row : goal.invariant-loop-row
invariant-loop-row l =
    map (λ row. mark_key (seen_mark row.mark)) l.marks.items ++ map (λ row. mark_key (seen_mark row.mark)) (drop l.row-index l.placed)
    ≡ map (λ row. mark_key (seen_mark row.mark)) l.placed
