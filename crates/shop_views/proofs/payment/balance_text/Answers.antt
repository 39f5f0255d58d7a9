use Rattle.shop_types.proofs.Common.{◌≡◌, ◌∙◌, refl, ℤ, pos, negsuc, [], ◌∷◌, false, codes, IfOk-weaker}
use Rattle.std.specs.Fmt.{signed_decimal}
use Rattle.shop_model.specs.Json.{object as object_text}
use Rattle.serde_json.specs.Written as written
use Rattle.shop_views.specs.Bodies.{balance_value}
use Rattle.shop_views.specs.Texts.{json_text}
use Rattle.shop_views.proofs.TextLemmas.{text_of_value}
use Rattle.shop_views.proofs.payment.balance_text.Goals as goal

no_float : (cents : ℤ) → written.has_float (balance_value cents) ≡ false
no_float (pos n) = refl
no_float (negsuc n) = refl

text_is : (cents : ℤ) → json_text (balance_value cents) ≡ object_text ((codes "balance", signed_decimal cents) ∷ [])
text_is (pos n) = refl
text_is (negsuc n) = refl

pub returns : goal.returns
returns c = IfOk-weaker c.to_string.result _ _ (λ s is. is ∙ text_is c.args.balance)
    (text_of_value c.to_string.result _ (balance_value c.args.balance) c.in_ok-balance_value.ensures (no_float c.args.balance) c.to_string.ensures.text)
