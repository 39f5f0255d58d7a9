use Rattle.shop_types.proofs.Common.{◌++◌, ◌∷◌, [], subst, IfOk-weaker}
use Rattle.shop_views.specs.Page.{HasTexts}
use Rattle.shop_views.proofs.RowTexts.{is_written}
use Rattle.shop_views.proofs.page.ListPage.add_row.Goals as goal

pub returns : goal.returns
returns g c =
    let row = c.args.row.now in
    let it = is_written _ _ _ c.in_ok-value.ensures (g.met.R.ListedRow.as_written row) (g.met.R.ListedRow.no_float row) in
    IfOk-weaker c.add.result _ _
    (λ done added texts has. subst (λ text. HasTexts c.add.new.self (texts ++ text ∷ [])) it.text (added texts it.no_float has)) c.add.ensures.added
