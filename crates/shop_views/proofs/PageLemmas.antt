-- A list that is written value by value.
use Rattle.shop_types.proofs.Common.{◌≡◌, ◌<◌, ◌+◌, ◌∙◌, ◌||◌, refl, sym, ap, subst, ℕ, Bool, true, false, not, List, [], ◌∷◌, ◌++◌, length, map, take}
use Rattle.shop_types.proofs.Common.{take_more, append-nil, map-append, or_parts, is_empty, Text, items_text, array}
use Rattle.std.specs.Prelude.{get_or}
use Rattle.serde_json.specs.declared.value.Value.{Value}
use Rattle.serde_json.specs.Data as held
use Rattle.serde_json.specs.Data.{Data}
use Rattle.serde_json.specs.View.{view, items_of}
use Rattle.serde_json.specs.Written.{compact_text, has_float, items_have_float}
use Rattle.shop_views.specs.Texts.{json_text}
use Rattle.shop_views.proofs.TextLemmas.{same_text, list_texts}
use Rattle.shop_views.specs.Page.{opening, closing, later_text, open_text, Page, page_of}
use Rattle.shop_views.specs.Lists.{list_of, IsWritten}

grouped : (a b c : Text) → a ++ (b ++ c) ≡ (a ++ b) ++ c
grouped [] b c = refl
grouped (x ∷ a) b c = ap (λ (l : Text). x ∷ l) (grouped a b c)

-- ---- adding

later_push : (items : List Text) (item : Text) → later_text (items ++ item ∷ []) ≡ later_text items ++ 44 ∷ item
later_push [] item = ap (λ (l : Text). 44 ∷ l) (append-nil item)
later_push (first ∷ items) item =
    ap (λ (l : Text). 44 ∷ (first ++ l)) (later_push items item) ∙ ap (λ (l : Text). 44 ∷ l) (grouped first (later_text items) (44 ∷ item))

open_push : (items : List Text) (item : Text) → open_text (items ++ item ∷ []) ≡ open_text items ++ (opening (not (is_empty items)) ++ item)
open_push [] item = ap (λ (l : Text). 91 ∷ l) (append-nil item)
open_push (first ∷ items) item =
    ap (λ (l : Text). 91 ∷ (first ++ l)) (later_push items item) ∙ ap (λ (l : Text). 91 ∷ l) (grouped first (later_text items) (44 ∷ item))

some_more : (items : List Text) (item : Text) → not (is_empty (items ++ item ∷ [])) ≡ true
some_more [] item = refl
some_more (first ∷ items) item = refl

pub pushed_page : (items : List Text) (item piece old new : Text) (later : Bool) (page : Page) → page ≡ page_of items
    → page ≡ record { text = old; has_items = later } → piece ≡ opening later ++ item → new ≡ old ++ piece
    → ◌≡◌ {A = Page} (record { text = new; has_items = true }) (page_of (items ++ item ∷ []))
pushed_page items item piece old new later page is parts written pushed =
    let text : old ≡ open_text items = sym (ap (λ (p : Page). p.text) parts) ∙ ap (λ (p : Page). p.text) is in
    let some : later ≡ not (is_empty items) = sym (ap (λ (p : Page). p.has_items) parts) ∙ ap (λ (p : Page). p.has_items) is in
    let whole : new ≡ open_text (items ++ item ∷ []) =
    pushed ∙ (λ i. text i ++ written i) ∙ (λ i. open_text items ++ (opening (some i) ++ item)) ∙ sym (open_push items item) in
    (λ i. record { text = whole i; has_items = sym (some_more items item) i })

-- ---- the end

closed : (items : List Text) → later_text items ++ 93 ∷ [] ≡ items_text true items
closed [] = refl
closed (item ∷ items) = ap (λ (l : Text). 44 ∷ l) (sym (grouped item (later_text items) (93 ∷ [])) ∙ ap (λ (l : Text). item ++ l) (closed items))

end_of : (items : List Text) → open_text items ++ closing (not (is_empty items)) ≡ array items
end_of [] = refl
end_of (item ∷ items) = ap (λ (l : Text). 91 ∷ l) (sym (grouped item (later_text items) (93 ∷ [])) ∙ ap (λ (l : Text). item ++ l) (closed items))

pub finished : (items : List Text) (old end new : Text) (some : Bool) (page : Page) → page ≡ page_of items
    → page ≡ record { text = old; has_items = some } → end ≡ closing some → new ≡ old ++ end → new ≡ array items
finished items old end new some page is parts ended pushed =
    let text : old ≡ open_text items = sym (ap (λ (p : Page). p.text) parts) ∙ ap (λ (p : Page). p.text) is in
    let has : some ≡ not (is_empty items) = sym (ap (λ (p : Page). p.has_items) parts) ∙ ap (λ (p : Page). p.has_items) is in
    pushed ∙ (λ i. text i ++ ended i) ∙ (λ i. open_text items ++ closing (has i)) ∙ end_of items

-- ---- lists

each_text : (ds : List Data) → map json_text ds ≡ map compact_text ds
each_text [] = refl
each_text (d ∷ ds) = λ i. sym (same_text d) i ∷ each_text ds i

pub list_text : (ds : List Data) → compact_text (held.array (items_of ds)) ≡ array (map compact_text ds)
list_text ds = same_text (held.array (items_of ds)) ∙ ap array (list_texts ds ∙ each_text ds)

-- ---- lists as values

float_push : (ds : List Data) (d : Data) → items_have_float (items_of ds) ≡ false → has_float d ≡ false → items_have_float (items_of (ds ++ d ∷ [])) ≡ false
float_push [] d none one = (λ i. one i || false)
float_push (e ∷ ds) d none one = let each = or_parts (has_float e) (items_have_float (items_of ds)) none in (λ i. each.0 i || float_push ds d each.1 one i)

-- the values are `jsons`, are written as the texts, and none of them has a float
pub record AreWritten (jsons : List Data) (texts : List Text) (values : List Data) : Type 0 where
  pub are : values ≡ jsons
  pub texts_are : map compact_text values ≡ texts
  pub no_float : items_have_float (items_of values) ≡ false

-- the values of the rows so far, with one more
pub one_more : {X : Type 0} (json : X → Data) (written : X → Text) (xs : List X) (i : ℕ) (x : X) (old new : List (Value)) (value : Value)
    → i < length xs → x ≡ get_or xs i x → new ≡ old ++ value ∷ []
    → IsWritten (json x) (written x) (view value) → AreWritten (map json (take i xs)) (map written (take i xs)) (map view old)
    → AreWritten (map json (take (i + 1) xs)) (map written (take (i + 1) xs)) (map view new)
one_more {X} json written xs i x old new value within at pushed it so_far =
    let more : take (i + 1) xs ≡ take i xs ++ x ∷ [] = take_more xs i x within ∙ ap (λ (z : X). take i xs ++ z ∷ []) (sym at) in
    let values : map view new ≡ map view old ++ view value ∷ [] = ap (map view) pushed ∙ map-append view old (value ∷ []) in
    record {
      are = values ∙ (λ j. so_far.are j ++ it.is j ∷ []) ∙ sym (ap (map json) more ∙ map-append json (take i xs) (x ∷ []));
      texts_are = ap (map compact_text) values ∙ map-append compact_text (map view old) (view value ∷ []) ∙ (λ j. so_far.texts_are j ++ it.text j ∷ [])
          ∙ sym (ap (map written) more ∙ map-append written (take i xs) (x ∷ []));
      no_float =
          subst (λ (ds : List Data). items_have_float (items_of ds) ≡ false) (sym values) (float_push (map view old) (view value) so_far.no_float it.no_float);
    }

pub all_written : (jsons values : List Data) (texts : List Text) → AreWritten jsons texts values → IsWritten (list_of jsons) (array texts) (list_of values)
all_written jsons values texts all = record { is = ap list_of all.are; text = list_text values ∙ ap array all.texts_are; no_float = all.no_float }
