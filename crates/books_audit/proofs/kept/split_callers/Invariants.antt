use Rattle.shop_schema.proofs.Common.{◌++◌, map, IsPermutation, AllByRecursion, IsNumber}
use Rattle.audit_rows.specs.declared.rows.CheckedKept.{CheckedKept}
use Rattle.books_audit.specs.Keys.{office_caller, branch_caller}
use Rattle.books_audit.proofs.kept.split_callers.Given as goal

abbrev pub invariant-loop-row : goal.invariant-loop-row
invariant-loop-row l = record {
  same : IsPermutation l.fn.rows.items (l.row-iterator.rest.items ++ (map office_caller l.office.items ++ map branch_caller l.kept.items));
  branches : AllByRecursion (λ (x : CheckedKept). IsNumber x.branch) l.kept.items;
}
