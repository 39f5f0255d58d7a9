use Rattle.std.proofs.Common.{◌≡◌, ◌+◌, map, drop}
use Rattle.audit_rows.specs.Lists.{counts_from}
use Rattle.audit_rows.proofs.order.are_counted.Given as goal

abbrev pub invariant-loop-row : goal.invariant-loop-row
invariant-loop-row g l = record {
  next : l.next ≡ l.row-index + 1;
  rest : counts_from l.next (map g.T.Numbered.number (drop l.row-index l.rows)) ≡ counts_from 1 (map g.T.Numbered.number l.rows);
}
