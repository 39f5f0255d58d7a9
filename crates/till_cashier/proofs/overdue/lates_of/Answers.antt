use Rattle.std.proofs.Common.{◌∙◌, List, ℕ, Option, map, sym}
use Rattle.std.proofs.lemmas.List.{map_push}
use Rattle.serde_json.specs.View.{view}
use Rattle.serde_json.specs.declared.value.Value.{Value}
use Rattle.till_shows.specs.Bodies.{each}
use Rattle.till_shows.proofs.EachLemmas.{behind_all, turn, whole, each-map}
use Rattle.till_cashier.specs.Late.{late_of, seen_late}
use Rattle.till_cashier.proofs.overdue.lates_of.Goals as goal

abbrev late_in : Value → Option (List (List ℕ))
late_in v = late_of (view v)

pub loop-row-preserved : goal.loop-row-preserved
loop-row-preserved c =
    let i = c.loop-row.row-index in
    let rows = c.args.rows.now in
    let before = c.loop-row.lates.items in
    let late = c.in_ok-late.late in
    rw c.in-Ok.ensures.items
    (rw (map_push seen_late before late)
    (sym (turn late_in (map seen_late before) rows i c.row-item.result (seen_late late) c.loop-row-test.true c.row-item.is c.in_ok-late.ensures)
    ∙ c.loop-row.invariant))

pub returns : goal.returns
returns c =
    let rows = c.args.rows.now in
    each-map view late_of rows ∙ sym (behind_all (each late_in rows)) ∙ sym c.loop-row.invariant
    ∙ whole late_in (map seen_late c.loop-row.lates.items) rows c.loop-row.row-index c.loop-row-test.false
