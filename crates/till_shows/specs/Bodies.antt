-- The body of a reply: a JSON value, and what is in it.
use Rattle.std.specs.Prelude.{ℕ, ℤ, ◌==◌, Bool, false, List, [], ◌∷◌, Option, Some, None, option_map, option_and_then, unwrap_or, if◌then◌else◌}
use Rattle.std.specs.Str.{is_utf8}
use Rattle.serde_json.specs.Data.{Data, Items, no_items, item}
use Rattle.serde_json.specs.Find.{get, as_bool, as_str, as_number, as_u64, as_i64, as_array}
use Rattle.serde_json.specs.Read.{read}
use Rattle.shop_model.specs.Values.{Text}

-- the value that a body is, if the body is JSON in UTF-8
abbrev pub body_of : Text → Option Data
body_of body = if is_utf8 body then read body else None

-- the values of `f` for all elements, in their order, if each element has one
abbrev pub each : {A B : Type 0} → (A → Option B) → List A → Option (List B)
each f [] = Some []
each f (a ∷ rest) = option_and_then (λ b. option_map (λ more. b ∷ more) (each f rest)) (f a)

-- ---- values

-- a whole number, written without a sign
abbrev pub whole_number : Data → Option ℕ
whole_number d = option_and_then as_u64 (as_number d)

-- a number of cents, which may be below zero
abbrev pub cents_in : Data → Option ℤ
cents_in d = option_and_then as_i64 (as_number d)

abbrev pub listed : Items → List Data
listed no_items = []
listed (item d ds) = d ∷ listed ds

-- the values of a list, in its order
abbrev pub rows_in : Data → Option (List Data)
rows_in d = option_map listed (as_array d)

-- the numbers of a list that has nothing else
abbrev pub numbers_in : Data → Option (List ℕ)
numbers_in d = option_and_then (each whole_number) (rows_in d)

-- ---- members of an object

abbrev pub text_at : Text → Data → Option Text
text_at name d = option_and_then as_str (get name d)

abbrev pub number_at : Text → Data → Option ℕ
number_at name d = option_and_then whole_number (get name d)

abbrev pub cents_at : Text → Data → Option ℤ
cents_at name d = option_and_then cents_in (get name d)

abbrev pub flag_at : Text → Data → Option Bool
flag_at name d = option_and_then as_bool (get name d)

abbrev pub numbers_at : Text → Data → Option (List ℕ)
numbers_at name d = option_and_then numbers_in (get name d)

-- the object's member of this name is this number
abbrev pub has_number : Text → ℕ → Data → Bool
has_number name n d = unwrap_or (option_map (λ m. m == n) (number_at name d)) false
