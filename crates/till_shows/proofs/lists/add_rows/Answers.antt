use Rattle.shop_types.proofs.Common.{◌∙◌, List, Some, sym, ap, drop, map, ◌+◌, option_map}
use Rattle.serde_json.specs.Data.{Data}
use Rattle.serde_json.specs.View.{view}
use Rattle.till_shows.specs.Lines.{Table}
use Rattle.till_shows.specs.Lists.{more_rows, found_rows}
use Rattle.till_shows.proofs.FoundLemmas.{handed_on}
use Rattle.till_shows.proofs.ListLemmas.{front_of, none_left, none_of, nothing_more, found_more, found_none}
use Rattle.till_shows.proofs.lists.add_rows.Goals as goal

pub loop-row-preserved : goal.loop-row-preserved
loop-row-preserved c =
    let fields = c.args.parts.now in
    let part = c.args.part.now in
    let rows = c.args.rows.now in
    let i = c.loop-row.row-index in
    let front = front_of view rows i c.row-item.result c.loop-row-test.true c.row-item.is in
    sym (found_more fields part c.loop-row.table _ (view c.row-item.result) (map view (drop (i + 1) rows)) c.in_ok-add_found.ensures.shown)
    ∙ ap (λ (ds : List Data). option_map (more_rows c.loop-row.table) (found_rows fields part ds)) (sym front) ∙ c.loop-row.invariant

pub returns-in_err-add_found-clause-other : goal.returns-in_err-add_found-clause-other
returns-in_err-add_found-clause-other c =
    let fields = c.args.parts.now in
    let part = c.args.part.now in
    let rows = c.args.rows.now in
    let i = c.loop-row.row-index in
    let front = front_of view rows i c.row-item.result c.loop-row-test.true c.row-item.is in
    handed_on _ _ c.from_residual.ensures.1 (λ e.
    none_of (more_rows c.args.table.now) (found_rows fields part (map view rows))
    (sym c.loop-row.invariant ∙ ap (λ (ds : List Data). option_map (more_rows c.loop-row.table) (found_rows fields part ds)) front
    ∙ ap (option_map (more_rows c.loop-row.table))
    (found_none fields part (view c.row-item.result) (map view (drop (i + 1) rows)) (c.in_err-add_found.ensures.other e))))

pub returns-clause-shown : goal.returns-clause-shown
returns-clause-shown c =
    let fields = c.args.parts.now in
    let part = c.args.part.now in
    sym c.loop-row.invariant
    ∙ ap (λ (ds : List Data). option_map (more_rows c.loop-row.table) (found_rows fields part ds))
    (none_left view c.args.rows.now c.loop-row.row-index c.loop-row-test.false)
    ∙ ap (λ (t : Table). Some t) (nothing_more c.loop-row.table)
