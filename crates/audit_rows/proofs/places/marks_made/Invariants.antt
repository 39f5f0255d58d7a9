use Rattle.shop_types.proofs.Common.{◌≡◌, ◌++◌, map, drop, seen_mark}
use Rattle.audit_rows.specs.Seen.{seen_copy}
use Rattle.audit_rows.specs.Marked.{mark_key, made_keys}
use Rattle.audit_rows.proofs.places.marks_made.Given as goal

abbrev pub invariant-loop-row : goal.invariant-loop-row
invariant-loop-row l =
    map (λ row. mark_key (seen_mark row.mark)) l.marks.items ++ made_keys (map seen_copy (drop l.row-index l.copies)) ≡ made_keys (map seen_copy l.copies)
