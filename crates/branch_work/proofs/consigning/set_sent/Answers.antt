use Rattle.shop_schema.proofs.Common.{and_then, done, some_calls, within_none, Sent, put_state}
use Rattle.sql_rows.proofs.Chaining.{one_call}
use Rattle.branch_work.proofs.ConsignLemmas.{none_set, one_set, all_set}
use Rattle.branch_work.proofs.consigning.set_sent.Goals as goal

pub loop-copy-init : goal.loop-copy-init
loop-copy-init g c = record { inside = within_none; says = λ clean. none_set c.args.branch (put_state Sent) _ }

pub loop-copy-preserved : goal.loop-copy-preserved
loop-copy-preserved g c = done (and_then (some_calls c.loop-copy.invariant) (one_call c.in_ok-set_state.ensures)) (λ said.
    one_set c.args.branch (put_state Sent) _ _ _ c.args.copies.now c.loop-copy.copy-index c.copy-item.result c.loop-copy-test.true c.copy-item.is said.0 said.1)

pub returns : goal.returns
returns g c =
    done (some_calls c.loop-copy.invariant)
    (λ said. all_set c.args.branch (put_state Sent) _ _ c.args.copies.now c.loop-copy.copy-index c.loop-copy-test.false said)
