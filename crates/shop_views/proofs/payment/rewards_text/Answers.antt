use Rattle.shop_types.proofs.Common.{◌≡◌, ◌∙◌, ap, List, ℕ, [], ◌∷◌, codes, decimal, length, IfOk-weaker, array, object, numbers_text, Text}
use Rattle.shop_views.specs.Bodies.{listed_value}
use Rattle.shop_views.specs.Texts.{json_text}
use Rattle.shop_views.proofs.TextLemmas.{numbers_texts}
use Rattle.shop_views.proofs.payment.rewards_text.Goals as goal

text_is : (ns : List ℕ)
    → json_text (listed_value (codes "customers") ns) ≡ object ((codes "count", decimal (length ns)) ∷ (codes "customers", numbers_text ns) ∷ [])
text_is ns = ap (λ (ts : List Text). object ((codes "count", decimal (length ns)) ∷ (codes "customers", array ts) ∷ [])) (numbers_texts ns)

pub returns : goal.returns
returns c = IfOk-weaker c.listed_text.result _ _ (λ s is. is ∙ text_is c.args.customers.now) c.listed_text.ensures
