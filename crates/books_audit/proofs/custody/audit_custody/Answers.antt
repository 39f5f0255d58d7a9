use Rattle.shop_schema.proofs.Common.{ap, subst, ◌∙◌, map, IsPermutation, columns_of, clean_before, inside_as, inside_then, within_of, copy_table}
use Rattle.shop_schema.proofs.Common.{⊤, Err, IsShop, consignment_line_table}
use Rattle.sql_rows.proofs.CallFaults.{fails_behind}
use Rattle.books_audit.proofs.Places.{copies, lines}
use Rattle.books_audit.proofs.ReadFaults.{passed_on}
use Rattle.books_audit.proofs.CustodyAudits.{audit_moved}
use Rattle.books_audit.proofs.custody.audit_custody.Goals as goal
use Rattle.shop_schema.specs.Trees.{consignment_line_tree}

pub returns-in-Ok-clause-does : goal.returns-in-Ok-clause-does
returns-in-Ok-clause-does g c = record {
  inside = inside_as (inside_then c.in_ok-copies.ensures.does.inside (within_of c.in_ok-lines.ensures.does.inside));
  says = λ clean has.
      let first = c.in_ok-copies.ensures.does.says (clean_before c.in_ok-lines.ensures.does.inside clean) has copy_table copies.means in
      let second = c.in_ok-lines.ensures.does.says clean (ap (λ d. d.schema) first.1 ∙ has) consignment_line_table lines.means in
      let trees = ap (λ d. map (columns_of 8) (d.trees consignment_line_tree)) first.1 in
      let same = audit_moved _ _ _ _ first.0 (subst (λ l. IsPermutation l c.in_ok-lines.lines.items) trees second.0) c.in-Ok.audit
      (rw (c.as_slice.ensures.value, c.as_slice-2.ensures.value) at c.in-Ok.ensures) in
      (same, second.1 ∙ first.1);
}

pub returns-in_err-copies-clause-fails : goal.returns-in_err-copies-clause-fails
returns-in_err-copies-clause-fails g c clean ready has =
    passed_on c.from_residual.result c.in_err-copies.field-0.0 (c.in_err-copies.ensures.fails copy_table copies clean ready has) c.from_residual.ensures.1

pub returns-in_err-lines-clause-fails : goal.returns-in_err-lines-clause-fails
returns-in_err-lines-clause-fails g c clean ready has =
    let e = c.in_err-lines.field-0.0 in
    passed_on c.from_residual-in_err-lines.result e
    (fails_behind {Y = ⊤} c.read_whole-2.new.tx.conn (Err e) IsShop IsShop (within_of c.in_ok-copies.ensures.does.inside)
    (λ clean has. ap (λ d. d.schema) (c.in_ok-copies.ensures.does.says clean has copy_table copies.means).1 ∙ has)
    c.in_err-lines.ensures.does.inside.survives (c.in_err-lines.ensures.fails consignment_line_table lines) clean ready has)
    c.from_residual-in_err-lines.ensures.1
