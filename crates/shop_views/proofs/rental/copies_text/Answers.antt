use Rattle.shop_types.proofs.Common.{◌≡◌, ◌∙◌, ap, List, ℕ, [], ◌∷◌, codes, decimal, length, IfOk-weaker, array, object, numbers_text, Text}
use Rattle.shop_views.specs.Bodies.{listed_value}
use Rattle.shop_views.specs.Texts.{json_text}
use Rattle.shop_views.proofs.TextLemmas.{numbers_texts}
use Rattle.shop_views.proofs.rental.copies_text.Goals as goal

text_is : (ns : List ℕ) → json_text (listed_value (codes "copies") ns) ≡ object ((codes "copies", numbers_text ns) ∷ (codes "count", decimal (length ns)) ∷ [])
text_is ns = ap (λ (ts : List Text). object ((codes "copies", array ts) ∷ (codes "count", decimal (length ns)) ∷ [])) (numbers_texts ns)

pub returns : goal.returns
returns c = IfOk-weaker c.listed_text.result _ _ (λ s is. is ∙ text_is c.args.copies.now) c.listed_text.ensures
