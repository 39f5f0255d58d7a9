use Rattle.shop_schema.proofs.Common.{◌≤◌, arith, map, length, and_then, done, some_calls, within_none}
use Rattle.till_book.specs.Seen.{seen_settlement}
use Rattle.till_files.proofs.Played.{at_place, length_mapped, marks_none, one_settlement, all_settled}
use Rattle.till_files.proofs.migrating.mark_settlements.Goals as goal

pub loop-row-init : goal.loop-row-init
loop-row-init g c = record { inside = within_none; says = λ clean apart. marks_none _ _ }

pub loop-row-preserved : goal.loop-row-preserved
loop-row-preserved g c =
    let i = c.loop-row.row-index in
    let row = c.row-item.result in
    done (and_then (some_calls c.loop-row.invariant) (some_calls c.in_ok-mark_settlement.ensures)) (λ said.
    one_settlement _ _ (map seen_settlement c.args.settled.now) i (seen_settlement row) _ _ _
    (at_place seen_settlement c.args.settled.now i row c.loop-row-test.true c.row-item.is) said.0 said.1)

pub returns : goal.returns
returns g c =
    let all : length (map seen_settlement c.args.settled.now) ≤ c.loop-row.row-index =
    omega (arith, length_mapped seen_settlement c.args.settled.now, c.loop-row-test.false) in
    done (some_calls c.loop-row.invariant) (λ said. all_settled _ _ (map seen_settlement c.args.settled.now) c.loop-row.row-index _ _ all said)
