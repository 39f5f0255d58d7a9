use Rattle.shop_schema.proofs.Common.{arith, ◌≡◌, ◌+◌, and_then, done, some_calls, within_none, seen_line_state}
use Rattle.sql_rows.proofs.Chaining.{one_call}
use Rattle.consign_store.proofs.ParcelLemmas.{none_checked_yet, writes_nothing}
use Rattle.consign_store.proofs.ParcelSteps.{number_is, one_state}
use Rattle.consign_store.proofs.parcels.check_lines.Goals as goal

pub loop-done-init : goal.loop-done-init
loop-done-init g c =
    let key = c.args.key.now in
    record { inside = within_none; says = λ clean. writes_nothing _ _ _ (none_checked_yet c.args.missing.now key.source key.addressee key.number) }

pub loop-done-preserved : goal.loop-done-preserved
loop-done-preserved g c =
    let key = c.args.key.now in
    let i = c.loop-done.done in
    let number : c.unwrap-line.result ≡ i + 1 = number_is (i + 1) c.unwrap-line.result c.new.result (omega arith) c.new.ensures c.unwrap-line.ensures in
    done (and_then (some_calls c.loop-done.invariant) (one_call c.in_ok-set_line.ensures)) (λ said.
    one_state key.source key.addressee key.number _ _ _ c.args.missing.now i c.unwrap-line.result
    (seen_line_state c.state_after.result) number c.state_after.ensures said.0 said.1)

pub returns : goal.returns
returns g c = done (some_calls c.loop-done.invariant) (λ said.
    let all : c.loop-done.done ≡ c.args.count = omega (arith, c.loop-done-test.false, c.loop-done.auto.done-end) in
    rw all at said)
