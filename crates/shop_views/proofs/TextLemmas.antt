-- The text that serde_json writes is the JSON text that the definitions of the shop give.
use Rattle.shop_types.proofs.Common.{◌≡◌, ◌∙◌, refl, ap, ℕ, true, false, Bool, List, [], ◌∷◌, ◌++◌, map, decimal, Result, IfOk, String, Global, IfOk-weaker}
use Rattle.shop_types.proofs.Common.{Text}
use Rattle.std.specs.Prelude.{string_bytes}
use Rattle.json.specs.Print as print
use Rattle.serde_json.specs.Data.{Data, null, boolean, number, unsigned, string, array, object, Items, no_items, item, Members, no_members, member}
use Rattle.serde_json.specs.View.{items_of}
use Rattle.serde_json.specs.Written as written
use Rattle.shop_model.specs.Json as json
use Rattle.shop_views.specs.Texts.{json_text, item_texts, member_texts}
use Rattle.shop_views.specs.Bodies.{numbers_value}

same_escapes : print.escape_byte ≡ json.escape_byte
unfolding print.escape_byte json.escape_byte
same_escapes = refl

pub same_quoted : (s : Text) → print.quoted s ≡ json.quoted s
same_quoted s = rw same_escapes refl

-- both texts are the same
mutual
  pub same_text : (d : Data) → written.compact_text d ≡ json_text d
  same_text null = refl
  same_text (boolean true) = refl
  same_text (boolean false) = refl
  same_text (number n) = refl
  same_text (string s) = same_quoted s
  same_text (array ds) = ap (λ (t : Text). 91 ∷ t) (same_items false ds)
  same_text (object ms) = ap (λ (t : Text). 123 ∷ t) (same_members false ms)

  pub same_items : (later : Bool) (ds : Items) → written.items_text later ds ≡ json.items_text later (item_texts ds)
  same_items later no_items = refl
  same_items later (item d ds) = λ i. json.comma_if later ++ (same_text d i ++ same_items true ds i)

  pub same_members : (later : Bool) (ms : Members) → written.members_text later ms ≡ json.members_text later (member_texts ms)
  same_members later no_members = refl
  same_members later (member k d ms) = λ i. json.comma_if later ++ (same_quoted k i ++ 58 ∷ (same_text d i ++ same_members true ms i))

-- a list of values
pub list_texts : (ds : List Data) → item_texts (items_of ds) ≡ map json_text ds
list_texts [] = refl
list_texts (d ∷ ds) = ap (λ (ts : List Text). json_text d ∷ ts) (list_texts ds)

-- a list of numbers
pub numbers_no_float : (ns : List ℕ) → written.has_float (numbers_value ns) ≡ false
numbers_no_float [] = refl
numbers_no_float (n ∷ ns) = numbers_no_float ns

pub numbers_texts : (ns : List ℕ) → item_texts (items_of (map (λ n. number (unsigned n)) ns)) ≡ map decimal ns
numbers_texts [] = refl
numbers_texts (n ∷ ns) = ap (λ (ts : List Text). decimal n ∷ ts) (numbers_texts ns)

-- the text that is written for a value equal to d, if d has no float
pub text_of_value : {E : Type 0} (r : Result (String Global) E) (value d : Data) → value ≡ d → written.has_float d ≡ false
    → IfOk r (λ s. written.has_float value ≡ false → string_bytes s ≡ written.compact_text value)
    → IfOk r (λ s. string_bytes s ≡ json_text d)
text_of_value r value d e none_float h =
    IfOk-weaker r _ _ (λ s text. text (ap written.has_float e ∙ none_float) ∙ (ap written.compact_text e ∙ same_text d)) h
