use Rattle.shop_types.proofs.Common.{◌∙◌, ◌+◌, Some, sym, ap, map, drop, option_map}
use Rattle.serde_json.specs.View.{view}
use Rattle.till_shows.specs.Lists.{first_named}
use Rattle.till_shows.proofs.FoundLemmas.{handed_on}
use Rattle.till_shows.proofs.ListLemmas.{front_of, none_left, named_here, named_later}
use Rattle.till_shows.proofs.lists.first_named.Goals as goal

pub loop-row-preserved : goal.loop-row-preserved
loop-row-preserved c =
    let rows = c.args.rows.now in
    let i = c.loop-row.row-index in
    let by = c.args.by.now in
    let front = front_of view rows i c.row-item.result c.loop-row-test.true c.row-item.is in
    sym
    (named_later by c.args.number c.args.name.now (view c.row-item.result) (map view (drop (i + 1) rows)) (sym c.has_number.ensures ∙ c.if-has_number.false))
    ∙ ap (first_named by c.args.number c.args.name.now) (sym front) ∙ c.loop-row.invariant

pub returns-in_err-text-clause-other : goal.returns-in_err-text-clause-other
returns-in_err-text-clause-other c =
    let rows = c.args.rows.now in
    let i = c.loop-row.row-index in
    let by = c.args.by.now in
    let front = front_of view rows i c.row-item.result c.loop-row-test.true c.row-item.is in
    handed_on _ _ c.from_residual.ensures.1 (λ e.
    sym c.loop-row.invariant ∙ ap (first_named by c.args.number c.args.name.now) front
    ∙ named_here by c.args.number c.args.name.now (view c.row-item.result) (map view (drop (i + 1) rows)) (sym c.has_number.ensures ∙ c.if-has_number.true)
    ∙ ap (option_map (λ t. Some t)) (c.in_err-text.ensures.other e))

pub returns-then-has_number-clause-shown : goal.returns-then-has_number-clause-shown
returns-then-has_number-clause-shown c =
    let rows = c.args.rows.now in
    let i = c.loop-row.row-index in
    let by = c.args.by.now in
    let front = front_of view rows i c.row-item.result c.loop-row-test.true c.row-item.is in
    sym c.loop-row.invariant ∙ ap (first_named by c.args.number c.args.name.now) front
    ∙ named_here by c.args.number c.args.name.now (view c.row-item.result) (map view (drop (i + 1) rows)) (sym c.has_number.ensures ∙ c.if-has_number.true)
    ∙ ap (option_map (λ t. Some t)) c.in_ok-text.ensures.shown

pub returns-clause-shown : goal.returns-clause-shown
returns-clause-shown c =
    sym c.loop-row.invariant
    ∙ ap (first_named c.args.by.now c.args.number c.args.name.now) (none_left view c.args.rows.now c.loop-row.row-index c.loop-row-test.false)
