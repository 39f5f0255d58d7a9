use Rattle.shop_types.proofs.Common.{◌∙◌, ap, map, option_map, IfOk-weaker}
use Rattle.serde_json.specs.View.{view}
use Rattle.till_shows.specs.Lists.{more_rows, headed}
use Rattle.till_shows.proofs.FoundLemmas.{handed_on, if_err}
use Rattle.till_shows.proofs.ListLemmas.{table_rows, table_no_body, table_no_list}
use Rattle.till_shows.proofs.lists.table_of.Goals as goal

pub returns-in_err-value-clause-other : goal.returns-in_err-value-clause-other
returns-in_err-value-clause-other c =
    handed_on _ _ c.from_residual.ensures.1 (λ e. table_no_body c.args.parts.now c.args.part.now c.args.body.now (c.in_err-value.ensures.other e))

pub returns-clause-other : goal.returns-clause-other
returns-clause-other c =
    λ _. table_no_list c.args.parts.now c.args.part.now c.args.body.now (view c.in_ok-value.value) c.in_ok-value.ensures.shown c.in-None.ensures

pub returns-in-Some-clause-shown : goal.returns-in-Some-clause-shown
returns-in-Some-clause-shown c =
    let same =
    table_rows c.args.parts.now c.args.part.now c.args.body.now (view c.in_ok-value.value)
    (map view c.in-Some.rows.now) c.in_ok-value.ensures.shown c.in-Some.ensures in
    IfOk-weaker c.table_of_rows.result _ _ (λ table is. same ∙ is) c.table_of_rows.ensures.shown

pub returns-in-Some-clause-other : goal.returns-in-Some-clause-other
returns-in-Some-clause-other c =
    let same =
    table_rows c.args.parts.now c.args.part.now c.args.body.now (view c.in_ok-value.value)
    (map view c.in-Some.rows.now) c.in_ok-value.ensures.shown c.in-Some.ensures in
    if_err c.table_of_rows.result _ _ (λ fault is e. same ∙ ap (option_map (more_rows (headed c.args.parts.now))) (is e)) c.table_of_rows.ensures.other
