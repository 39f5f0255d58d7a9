-- Bodies in JSON, and what their members hold.
use Rattle.std.specs.Prelude.{ℕ, ◌==◌, nat_le, suc, Bool, false, List, [], ◌∷◌, Option, Some, None, is_some, option_map, option_and_then, unwrap_or, codes}
use Rattle.std.specs.Prelude.{if◌then◌else◌}
use Rattle.std.specs.Str.{is_utf8}
use Rattle.serde_json.specs.Data.{Data, Items, no_items, item, Members, no_members, member}
use Rattle.serde_json.specs.Find.{get, as_null, as_bool, as_str, as_number, as_u64, as_array, as_object}
use Rattle.serde_json.specs.Read.{read}
use Rattle.shop_types.specs.Texts.{is_text, is_key}
use Rattle.shop_types.specs.Numbers.{is_row_number}
use Rattle.shop_model.specs.Calendar.{Moment}
use Rattle.shop_model.specs.Values.{Text, Person}
use Rattle.counter_routes.specs.Moments.{moment_of}

infixl 10 ◌>>=◌
abbrev pub ◌>>=◌ : {A B : Type 0} → Option A → (A → Option B) → Option B
o >>= f = option_and_then f o

-- the value, if it passes
abbrev pub passing : {A : Type 0} → (A → Bool) → A → Option A
passing test a = if test a then Some a else None

-- the string of that name
abbrev pub string_at : List ℕ → Data → Option Text
string_at name d = option_and_then as_str (get name d)

-- the string of that name, where it is a text of `low` to `high` bytes
abbrev pub text_at : ℕ → ℕ → List ℕ → Data → Option Text
text_at low high name d = option_and_then (passing (is_text low high)) (string_at name d)

-- the key that the member `key` is
abbrev pub key_at : Data → Option Text
key_at d = option_and_then (passing is_key) (string_at (codes "key") d)

-- the moment whose text the member `at` is
abbrev pub moment_at : Data → Option Moment
moment_at d = option_and_then moment_of (string_at (codes "at") d)

-- the number of a row that a value is: a whole number, written without a sign
abbrev pub row_number_in : Data → Option ℕ
row_number_in d = option_and_then (passing is_row_number) (option_and_then as_u64 (as_number d))

-- the number of a row that the member of that name is
abbrev pub number_at : List ℕ → Data → Option ℕ
number_at name d = option_and_then row_number_in (get name d)

-- the numbers of rows that the items are; an item of another kind is none
abbrev pub numbers_in : Items → Option (List ℕ)
numbers_in no_items = Some []
numbers_in (item d ds) = do
  n ← row_number_in d
  ns ← numbers_in ds
  Some (n ∷ ns)

-- the numbers that a value lists, where it is a list and has nothing else
abbrev pub list_of_numbers : Data → Option (List ℕ)
list_of_numbers d = option_and_then numbers_in (as_array d)

-- the list of numbers of rows that the member of that name is, of any length, in any order and whatever stands in it twice
abbrev pub numbers_at : List ℕ → Data → Option (List ℕ)
numbers_at name d = option_and_then list_of_numbers (get name d)

-- true or false, as the member of that name is
abbrev pub bool_at : List ℕ → Data → Option Bool
bool_at name d = option_and_then as_bool (get name d)

-- the rental that a payment is of: the number of a row, or null for a payment of none. A member that is not there is not null.
abbrev pub rental_at : Data → Option (Option ℕ)
rental_at d =
    if is_some (option_and_then as_null (get (codes "rental") d)) then Some None
    else option_map Some (number_at (codes "rental") d)

-- the amount of a payment in cents: a whole number from 0 to 99,999, written without a sign
abbrev pub amount_at : Data → Option ℕ
amount_at d = option_and_then (passing (λ cents. nat_le cents 99_999)) (option_and_then as_u64 (option_and_then as_number (get (codes "amount") d)))

abbrev pub count : Members → ℕ
count no_members = 0
count (member name d ms) = suc (count ms)

-- An object of so many members. A name that stands twice is one member, with the last of its values.
abbrev pub has_members : ℕ → Data → Bool
has_members n d = unwrap_or (option_map (λ ms. count ms == n) (as_object d)) false

-- a person's names
abbrev pub names_at : Data → Option (Text × Text)
names_at d = do
  first ← text_at 1 45 (codes "first") d
  last ← text_at 1 45 (codes "last") d
  Some (first, last)

-- where a person is found
abbrev pub contact_at : Data → Option (Text × Text × Text)
contact_at d = do
  address ← text_at 1 128 (codes "address") d
  postal ← text_at 0 45 (codes "postal") d
  phone ← text_at 0 45 (codes "phone") d
  Some (address, postal, phone)

-- who a person is, by six of the members
abbrev pub person_at : Data → Option Person
person_at d = do
  city ← number_at (codes "city") d
  names ← names_at d
  contact ← contact_at d
  Some (record { first = names.0; last = names.1; address = contact.0; postal = contact.1; phone = contact.2; city = city })

-- the value that a body's bytes write (RFC 8259), where they are UTF-8 and nest at most 127 deep
abbrev pub body_of : List ℕ → Option Data
body_of body = if is_utf8 body then read body else None
