use Rattle.shop_schema.proofs.Common.{◌++◌, ◌∷◌, [], subst, on_ok_then}
use Rattle.shop_views.specs.Page.{HasTexts}
use Rattle.consign_store.proofs.lists.add.Goals as goal

pub returns : goal.returns
returns c =
    on_ok_then c.add.result
    (λ added texts is. subst (λ t. HasTexts c.add.new.self (texts ++ t ∷ [])) c.in_ok-value.ensures.text (added texts c.in_ok-value.ensures.no_float is))
    c.add.ensures.added
