use Rattle.shop_types.proofs.Common.{◌≡◌, ◌+◌, ◌≤◌, map, drop, rows_made}
use Rattle.audit_rows.specs.Seen.{seen_copy}
use Rattle.audit_rows.specs.Marked.{any_mark}
use Rattle.audit_rows.proofs.custody_counts.copies_made.Given as goal

abbrev pub invariant-loop-row : goal.invariant-loop-row
invariant-loop-row l = record {
  counted : l.made + rows_made any_mark (map seen_copy (drop l.row-index l.copies)) ≡ rows_made any_mark (map seen_copy l.copies);
  fits : l.made ≤ l.row-index;
}
