use Rattle.shop_types.proofs.Common.{◌≡◌, ◌+◌, ◌≤◌, map, drop, rows_in, seen_state}
use Rattle.audit_rows.specs.Seen.{seen_copy}
use Rattle.audit_rows.specs.Marked.{any_mark}
use Rattle.audit_rows.proofs.custody_counts.copies_under.Given as goal

abbrev pub invariant-loop-row : goal.invariant-loop-row
invariant-loop-row l = record {
  counted : l.found + rows_in (seen_state l.state) any_mark (map seen_copy (drop l.row-index l.copies))
      ≡ rows_in (seen_state l.state) any_mark (map seen_copy l.copies);
  fits : l.found ≤ l.row-index;
}
