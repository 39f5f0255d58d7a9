use Rattle.shop_types.proofs.Common.{◌≡◌, ◌+◌, ◌≤◌, map, drop, lines_in, seen_line_state}
use Rattle.audit_rows.specs.Seen.{seen_line}
use Rattle.audit_rows.specs.Marked.{any_mark}
use Rattle.audit_rows.proofs.custody_counts.lines_under.Given as goal

abbrev pub invariant-loop-row : goal.invariant-loop-row
invariant-loop-row l = record {
  counted : l.found + lines_in (seen_line_state l.state) any_mark (map seen_line (drop l.row-index l.lines))
      ≡ lines_in (seen_line_state l.state) any_mark (map seen_line l.lines);
  fits : l.found ≤ l.row-index;
}
