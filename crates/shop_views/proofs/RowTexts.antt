-- The texts of rows, and that none has a float.
use Rattle.shop_types.proofs.Common.{◌≡◌, ◌∙◌, ◌||◌, ap, ℕ, Bool, false, List, [], ◌∷◌, map, codes, decimal, Result, IfOk, IfOk-weaker, array, object}
use Rattle.shop_types.proofs.Common.{numbers_text, flag_text, Text}
use Rattle.serde_json.specs.declared.value.Value.{Value}
use Rattle.serde_json.specs.Data.{Data, number, unsigned}
use Rattle.serde_json.specs.View.{view, items_of}
use Rattle.serde_json.specs.Written.{compact_text, has_float}
use Rattle.shop_views.proofs.TextLemmas.{same_text, numbers_texts, numbers_no_float}
use Rattle.shop_views.specs.Texts.{json_text, item_texts}
use Rattle.shop_views.specs.Bodies.{numbers_value}
use Rattle.shop_views.specs.Consignments.{Listed, arrival_data, arrival_text, sent_data, sent_text, transit_data, transit_text}
use Rattle.shop_views.specs.Lists.{IsWritten, IsRow}

-- a value that equals the given one, and whose text is known
pub is_written : (json : Data) (written : Text) (value : Data) → value ≡ json → json_text json ≡ written → has_float json ≡ false → IsWritten json written value
is_written json written value is told none = record { is = is; text = ap compact_text is ∙ same_text json ∙ told; no_float = ap has_float is ∙ none }

-- a value that is made of what a row has
pub row_written : {A E : Type 0} (json : A → Data) (text : A → Text) (it : A) → json_text (json it) ≡ text it → has_float (json it) ≡ false
    → (made : Result Value E) → IfOk made (λ v. view v ≡ json it) → IfOk made (λ v. IsRow json text it (view v))
row_written json text it told none made = IfOk-weaker made _ _ (λ v is. is_written (json it) (text it) (view v) is told none)

-- the films of a consignment as a list of numbers, before the other members
films_first : (ns : List ℕ) (more : List (Text × Text))
    → object ((codes "films", array (item_texts (items_of (map (λ n. number (unsigned n)) ns)))) ∷ more) ≡ object ((codes "films", numbers_text ns) ∷ more)
films_first ns more = ap (λ (ts : List Text). object ((codes "films", array ts) ∷ more)) (numbers_texts ns)

pub arrival_is : (it : Listed) → json_text (arrival_data it) ≡ arrival_text it
arrival_is it = films_first it.films ((codes "from", decimal it.source) ∷ (codes "number", decimal it.number) ∷ (codes "received", flag_text it.received) ∷ [])

pub sent_is : (it : Listed) → json_text (sent_data it) ≡ sent_text it
sent_is it = films_first it.films ((codes "number", decimal it.number) ∷ (codes "to", decimal it.addressee) ∷ [])

pub transit_is : (it : Listed) → json_text (transit_data it) ≡ transit_text it
transit_is it = films_first it.films ((codes "from", decimal it.source) ∷ (codes "number", decimal it.number) ∷ (codes "to", decimal it.addressee) ∷ [])

no_float_first : (first : Bool) → first ≡ false → (first || false) ≡ false
no_float_first first none = ap (λ (b : Bool). b || false) none

pub arrival_no_float : (it : Listed) → has_float (arrival_data it) ≡ false
arrival_no_float it = no_float_first (has_float (numbers_value it.films)) (numbers_no_float it.films)

pub sent_no_float : (it : Listed) → has_float (sent_data it) ≡ false
sent_no_float it = no_float_first (has_float (numbers_value it.films)) (numbers_no_float it.films)

pub transit_no_float : (it : Listed) → has_float (transit_data it) ≡ false
transit_no_float it = no_float_first (has_float (numbers_value it.films)) (numbers_no_float it.films)
