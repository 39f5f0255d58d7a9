use Rattle.shop_types.proofs.Common.{◌∙◌, map, IfOk-weaker}
use Rattle.serde_json.specs.View.{view}
use Rattle.till_shows.proofs.FoundLemmas.{handed_on, if_err}
use Rattle.till_shows.proofs.ListLemmas.{named_told, named_no_body, named_no_list}
use Rattle.till_shows.proofs.lists.named.Goals as goal

pub returns-in_err-value-clause-other : goal.returns-in_err-value-clause-other
returns-in_err-value-clause-other c =
    handed_on _ _ c.from_residual.ensures.1 (λ e. named_no_body c.args.by.now c.args.number c.args.name.now c.args.body.now (c.in_err-value.ensures.other e))

pub returns-clause-other : goal.returns-clause-other
returns-clause-other c = λ _.
    named_no_list c.args.by.now c.args.number c.args.name.now c.args.body.now (view c.in_ok-value.value) c.in_ok-value.ensures.shown c.in-None.ensures

pub returns-in-Some-clause-shown : goal.returns-in-Some-clause-shown
returns-in-Some-clause-shown c =
    let same =
    named_told c.args.by.now c.args.number c.args.name.now c.args.body.now (view c.in_ok-value.value)
    (map view c.in-Some.rows.now) c.in_ok-value.ensures.shown c.in-Some.ensures in
    IfOk-weaker c.first_named.result _ _ (λ text is. same ∙ is) c.first_named.ensures.shown

pub returns-in-Some-clause-other : goal.returns-in-Some-clause-other
returns-in-Some-clause-other c =
    let same =
    named_told c.args.by.now c.args.number c.args.name.now c.args.body.now (view c.in_ok-value.value)
    (map view c.in-Some.rows.now) c.in_ok-value.ensures.shown c.in-Some.ensures in
    if_err c.first_named.result _ _ (λ fault is e. same ∙ is e) c.first_named.ensures.other
