use Rattle.shop_types.proofs.Common.{◌≡◌, ◌∙◌, ℕ, ◌+◌, ◌∷◌, [], List, length, refl, sym, ap, range_with_len, IfOk-weaker, array, object, numbers_text}
use Rattle.shop_types.proofs.Common.{numbers_from, Text}
use Rattle.serde_json.specs.Data.{no_members}
use Rattle.shop_views.specs.Bodies.{numbers_value, named_value}
use Rattle.shop_views.specs.Texts.{json_text}
use Rattle.shop_views.proofs.TextLemmas.{numbers_no_float, numbers_texts, text_of_value}
use Rattle.shop_views.proofs.FieldLemmas.{put_no_float}
use Rattle.shop_views.proofs.numbers.counted_text.Goals as goal

-- the numbers of so many items
up_from : (n : ℕ) (items : List ℕ) → range_with_len n (length items) ≡ numbers_from n items
up_from n [] = refl
up_from n (item ∷ items) = ap (λ (ns : List ℕ). n ∷ ns) (up_from (n + 1) items)

text_is : (name : Text) (ns : List ℕ) → json_text (named_value name ns) ≡ object ((name, numbers_text ns) ∷ [])
text_is name ns = ap (λ (ts : List Text). object ((name, array ts) ∷ [])) (numbers_texts ns)

pub returns : goal.returns
returns c =
    let name = c.args.name.now in
    let ns = range_with_len c.args.first c.args.count in
    let none = put_no_float name (numbers_value ns) no_members (numbers_no_float ns) refl in
    let text = text_of_value c.to_string.result _ (named_value name ns) c.in_ok-named_value.ensures none c.to_string.ensures.text in
    IfOk-weaker c.to_string.result _ _ (λ s is items count. is ∙ text_is name ns
    ∙ ap (λ (it : List ℕ). object ((name, numbers_text it) ∷ [])) (ap (range_with_len c.args.first) (sym count) ∙ up_from c.args.first items)) text
