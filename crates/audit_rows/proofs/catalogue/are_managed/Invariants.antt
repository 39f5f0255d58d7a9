use Rattle.std.proofs.Common.{◌≡◌, ◌+◌, drop}
use Rattle.audit_rows.specs.Catalogues.{managers_from}
use Rattle.audit_rows.proofs.catalogue.are_managed.Given as goal

abbrev pub invariant-loop-row : goal.invariant-loop-row
invariant-loop-row l = record {
  branch : l.branch ≡ l.row-index + 1;
  rest : managers_from l.branch l.staff (drop l.row-index l.branches) ≡ managers_from 1 l.staff l.branches;
}
