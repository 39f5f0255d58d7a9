use Rattle.sql_rows.proofs.Chaining.{and_then, done, one_call, some_calls}
use Rattle.branch_work.proofs.Writings.{writes_then, writes_as, one_copy, all_copies}
use Rattle.branch_work.proofs.importing.put_copies.Goals as goal

pub loop-row-preserved : goal.loop-row-preserved
loop-row-preserved g c = done (and_then (some_calls c.loop-row.invariant) (one_call c.in_ok-put_copy.ensures)) (λ said.
    writes_as _ _ _ _ (λ books. one_copy books c.args.copies.now c.loop-row.row-index c.row-item.result c.loop-row-test.true c.row-item.is)
    (writes_then _ _ _ _ _ said.0 said.1))

pub returns : goal.returns
returns g c =
    done (some_calls c.loop-row.invariant)
    (λ said. writes_as _ _ _ _ (λ books. all_copies books c.args.copies.now c.loop-row.row-index c.loop-row-test.false) said)
