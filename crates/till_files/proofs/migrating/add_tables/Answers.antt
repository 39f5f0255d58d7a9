use Rattle.sql_rows.proofs.Common.{IfOk-weaker}
use Rattle.sql_rows.proofs.Stays.{clean_before, inside_then, within_of, within_then}
use Rattle.till_files.proofs.Filled.{tables_added}
use Rattle.till_files.proofs.migrating.add_tables.Goals as goal

pub returns : goal.returns
returns g c = record {
  inside =
      inside_then c.in_ok-execute.ensures.inside
      (within_then (within_of c.in_ok-execute-2.ensures.inside)
      (within_then (within_of c.in_ok-execute-3.ensures.inside) (within_of c.execute-4.ensures.inside)));
  says = λ clean.
      let clean_three = clean_before c.execute-4.ensures.inside clean in
      let clean_two = clean_before c.in_ok-execute-3.ensures.inside clean_three in
      let clean_one = clean_before c.in_ok-execute-2.ensures.inside clean_two in
      let one = c.in_ok-execute.ensures.ran clean_one in
      let two = c.in_ok-execute-2.ensures.ran clean_two in
      let three = c.in_ok-execute-3.ensures.ran clean_three in
      IfOk-weaker c.execute-4.result _ _
      (λ _ four. tables_added _ _ _ _ _ one.0 two.0 three.0 four.0 one.1 two.1 three.1 four.1) (c.execute-4.ensures.ran clean);
}
