use Rattle.shop_types.proofs.Common.{◌∙◌, ◌+◌, List, drop, sym, ap, at_drop_more, at_drop_all}
use Rattle.serde_json.specs.Data.{object}
use Rattle.serde_json.specs.View.{members_view}
use Rattle.serde_json.proofs.Views.{view-Object}
use Rattle.shop_views.specs.declared.fields.Field.{Field}
use Rattle.shop_views.specs.Fields.{with_field, with_fields}
use Rattle.shop_views.proofs.fields.object_of.Goals as goal

pub loop-field-preserved : goal.loop-field-preserved
loop-field-preserved c =
    let fields = c.args.fields.now in
    let i = c.loop-field.field-index in
    let put = λ (fs : List Field). with_fields fs (members_view c.loop-field.map.entries) in
    ap (with_fields (drop (i + 1) fields))
    (c.in_ok-add.ensures ∙ ap (λ (field : Field). with_field field (members_view c.loop-field.map.entries)) c.field-item.is)
    ∙ sym (at_drop_more put fields i _ c.loop-field-test.true) ∙ c.loop-field.invariant

pub returns : goal.returns
returns c =
    let put = λ (fs : List Field). with_fields fs (members_view c.loop-field.map.entries) in
    let all = at_drop_all put c.args.fields.now c.loop-field.field-index c.loop-field-test.false in
    view-Object c.loop-field.map ∙ ap object (sym all ∙ c.loop-field.invariant)
