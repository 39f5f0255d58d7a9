use Rattle.std.proofs.Common.{◌≡◌, ◌∙◌, ℕ, Option, Some, None, sym}
use Rattle.serde_json.specs.View.{view}
use Rattle.serde_json.specs.declared.value.Value.{Value}
use Rattle.till_shows.specs.Bodies.{each, whole_number}
use Rattle.till_shows.proofs.EachLemmas.{behind_all, turn, stop, whole, each-map}
use Rattle.till_shows.proofs.bodies.numbers_of.Goals as goal

abbrev number_in : Value → Option ℕ
number_in v = whole_number (view v)

pub loop-item-preserved : goal.loop-item-preserved
loop-item-preserved c =
    let i = c.loop-item.item-index in
    let items = c.args.items.now in
    let before = c.loop-item.numbers.items in
    let value : whole_number (view c.item-item.result) ≡ Some c.in-Some.number = cc in
    rw c.in-Ok.ensures.items
    (sym (turn number_in before items i c.item-item.result c.in-Some.number c.loop-item-test.true c.item-item.is value) ∙ c.loop-item.invariant)

pub returns-in_default-clause-other : goal.returns-in_default-clause-other
returns-in_default-clause-other c = λ _.
    let i = c.loop-item.item-index in
    let items = c.args.items.now in
    let value : whole_number (view c.item-item.result) ≡ None = cc in
    each-map view whole_number items ∙ sym (behind_all (each number_in items)) ∙ sym c.loop-item.invariant
    ∙ stop number_in c.loop-item.numbers.items items i c.item-item.result c.loop-item-test.true c.item-item.is value

pub returns-clause-shown : goal.returns-clause-shown
returns-clause-shown c =
    let items = c.args.items.now in
    each-map view whole_number items ∙ sym (behind_all (each number_in items)) ∙ sym c.loop-item.invariant
    ∙ whole number_in c.loop-item.numbers.items items c.loop-item.item-index c.loop-item-test.false
