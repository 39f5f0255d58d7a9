use Rattle.shop_schema.proofs.Common.{◌∙◌, ap, map, IfOk-weaker, array}
use Rattle.shop_model.specs.Views.{listed_category}
use Rattle.shop_views.specs.Sales.{seen_category}
use Rattle.view_texts.proofs.categories.sums_text.Goals as goal

pub returns : goal.returns
returns c =
    let rows = ap (map seen_category) c.as_slice.ensures.value ∙ c.in_ok-rows.ensures in
    IfOk-weaker c.list_text.result _ _ (λ s is. is ∙ ap (λ rows. array (map listed_category rows)) rows) c.list_text.ensures
