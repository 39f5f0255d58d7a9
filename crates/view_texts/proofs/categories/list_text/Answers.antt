use Rattle.shop_schema.proofs.Common.{map, subst, take_all, IfOk-weaker}
use Rattle.shop_model.specs.Views.{listed_category}
use Rattle.shop_views.specs.Page.{HasTexts}
use Rattle.shop_views.specs.Sales.{seen_category}
use Rattle.view_texts.proofs.categories.list_text.Goals as goal

pub returns : goal.returns
returns c =
    let rows = c.args.rows.now in
    let whole =
    subst (λ l. HasTexts c.loop-row.page (map listed_category (map seen_category l)))
    (take_all c.loop-row.row-index rows c.loop-row-test.false) c.loop-row.invariant in
    IfOk-weaker c.finish.result _ _ (λ s told. told (map listed_category (map seen_category rows)) whole) c.finish.ensures
