use Rattle.shop_schema.proofs.Common.{◌++◌, ◌∷◌, [], subst, on_ok_then}
use Rattle.shop_model.specs.Views.{listed_actor}
use Rattle.shop_views.specs.Page.{HasTexts}
use Rattle.view_texts.proofs.actors.add_actor.Goals as goal

pub returns : goal.returns
returns c =
    on_ok_then c.add_row.result
    (λ added texts has. subst (λ row. HasTexts c.add_row.new.self (texts ++ listed_actor row ∷ [])) c.in_ok-row.ensures (added texts has)) c.add_row.ensures
