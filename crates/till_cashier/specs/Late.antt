-- The rows of what is overdue.
use Rattle.std.specs.Prelude.{◌≡◌, ◌⊎◌, ⊤, ℕ, List, [], ◌∷◌, ◌++◌, Option, None, Some, IfSome, option_and_then, codes, decimal, string_bytes}
use Rattle.std.specs.List.{Contains}
use Rattle.serde_json.specs.Data.{Data}
use Rattle.sqlite.specs.State.{State}
use Rattle.shop_model.specs.Answers.{Answer}
use Rattle.shop_model.specs.Values.{Text, Ask, HeldBy, OneView, CustomerList}
use Rattle.till_book.specs.declared.rents.HeldRental.{HeldRental}
use Rattle.till_shows.specs.Bodies.{body_of, each, number_at, rows_in, text_at}
use Rattle.till_shows.specs.Lines.{Table}
use Rattle.till_shows.specs.Looks.{holder_in}
use Rattle.till_shows.specs.declared.tables.Side.TheVariants.{Left, Right}
use Rattle.till_cashier.specs.declared.outs.Out.{Out}
use Rattle.till_cashier.specs.declared.overdue.Late.{Late}
use Rattle.till_cashier.specs.Returns.{IsOnSheet, IsRegisteredIn}

-- ---- what a body lists

-- the customer, the phone and the title of an overdue rental, if the object has each as a text
abbrev pub late_of : Data → Option (List Text)
late_of d = each (λ (name : Text). text_at name d) (codes "customer" ∷ codes "phone" ∷ codes "title" ∷ [])

-- so of each object of a list, in their order
abbrev pub lates_in : Text → Option (List (List Text))
lates_in body = option_and_then (each late_of) (option_and_then rows_in (body_of body))

abbrev pub seen_late : Late → List Text
seen_late late = string_bytes late.customer ∷ string_bytes late.phone ∷ string_bytes late.title ∷ []

-- ---- the rental's customer

-- `MARY SMITH` is listed as `SMITH, MARY`
abbrev pub IsListedAs : Text → Text → Type 0
IsListedAs name listed = (first last : Text) × (name ≡ first ++ (codes " " ++ last)) × (listed ≡ last ++ (codes ", " ++ first))

-- the rental is listed with that name and that phone
abbrev pub IsLateOf : Text → Text → List Text → Type 0
IsLateOf name phone late = (listed title : Text) × IsListedAs name listed × (late ≡ listed ∷ phone ∷ title ∷ [])

-- the value is the body of some accepted answer, which lists the branch's customers
abbrev pub IsCustomerList : (Ask → Answer → Type 0) → Data → Type 0
IsCustomerList Asks list = (answer : Answer) × Asks (OneView CustomerList) answer × (answer.status ≡ 200) × (body_of answer.body ≡ Some list)

abbrev pub IsRowOf : Data → Data → Type 0
IsRowOf list row = (rows : List Data) × (rows_in list ≡ Some rows) × Contains rows row

-- such a list has a row with the customer's number, and that name and phone
pub record HasCustomer (Asks : Ask → Answer → Type 0) (who : ℕ) (name phone : Text) : Type 0 where
  pub list : Data
  pub answered : IsCustomerList Asks list
  pub row : Data
  pub listed : IsRowOf list row
  pub number : number_at (codes "id") row ≡ Some who
  pub is_named : text_at (codes "name") row ≡ Some name
  pub is_called : text_at (codes "phone") row ≡ Some phone

-- by such a list the rental's name and phone are the customer's
abbrev pub IsCustomerOf : (Ask → Answer → Type 0) → List Text → ℕ → Type 0
IsCustomerOf Asks late who = (name phone : Text) × IsLateOf name phone late × HasCustomer Asks who name phone

-- ---- the numbers beside it

-- by some accepted answer the customer has the copy
abbrev pub IsOut : (Ask → Answer → Type 0) → ℕ → ℕ → Type 0
IsOut Asks copy who = (answer : Answer) × Asks (HeldBy copy) answer × (answer.status ≡ 200) × (holder_in answer.body ≡ Some (Some who))

abbrev pub IsOutOf : (Ask → Answer → Type 0) → Out → Type 0
IsOutOf Asks out = IsOut Asks out.copy out.customer × HasCustomer Asks out.customer (string_bytes out.name) (string_bytes out.phone)

-- the copy is out to a customer of the rental's name and phone
abbrev pub MayBeOf : List Text → Out → Type 0
MayBeOf late out = IsLateOf (string_bytes out.name) (string_bytes out.phone) late

abbrev pub IsOutTo : (Ask → Answer → Type 0) → List Text → Out → Type 0
IsOutTo Asks late out = IsOutOf Asks out × MayBeOf late out

abbrev pub held_by : ℕ → ℕ → HeldRental
held_by rental who = record { rental = rental; customer = who }

-- the rental of the copy is the customer's, by the register or by the sheet
abbrev pub IsRentalOf : State → Text → ℕ → ℕ → ℕ → Type 0
IsRentalOf s sheet copy who rental = IsRegisteredIn copy (Some (held_by rental who)) s ⊎ IsOnSheet sheet copy (held_by rental who)

-- A copy is known only if some customer has the copy, and the rental is listed with that customer's name and phone. The rental's number is known only if it is
-- of that copy and that customer.
abbrev pub IsKnown : (Ask → Answer → Type 0) → State → Text → List Text → Option ℕ → Option ℕ → Type 0
IsKnown Asks s sheet late None None = ⊤
IsKnown Asks s sheet late None (Some rental) = ⊥
IsKnown Asks s sheet late (Some copy) rental =
    (who : ℕ) × IsOut Asks copy who × IsCustomerOf Asks late who × IfSome rental (IsRentalOf s sheet copy who)

-- ---- rows

abbrev pub number_text : Option ℕ → Text
number_text None = []
number_text (Some number) = decimal number

-- the rental's three texts, and its two numbers, or empty texts for those that aren't known
abbrev pub IsLateRow : (Ask → Answer → Type 0) → State → Text → List Text → List Text → Type 0
IsLateRow Asks s sheet late row =
    (copy rental : Option ℕ) × IsKnown Asks s sheet late copy rental × (row ≡ late ++ number_text copy ∷ number_text rental ∷ [])

-- each row is one of its rental
abbrev pub AreLateRows : (List Text → List Text → Type 0) → List (List Text) → List (List Text) → Type 0
AreLateRows Is [] [] = ⊤
AreLateRows Is [] (row ∷ rows) = ⊥
AreLateRows Is (late ∷ lates) [] = ⊥
AreLateRows Is (late ∷ lates) (row ∷ rows) = Is late row × AreLateRows Is lates rows

-- the rows below their headings
abbrev pub late_table : List (List Text) → Table
late_table rows = record {
  sides = Left ∷ Left ∷ Left ∷ Right ∷ Right ∷ [];
  rows = (codes "customer" ∷ codes "phone" ∷ codes "title" ∷ codes "copy" ∷ codes "rental" ∷ []) ∷ rows;
}

-- the table has a row for each of the rentals, in their order
abbrev pub TablesLate : (Ask → Answer → Type 0) → State → Text → List (List Text) → Table → Type 0
TablesLate Asks s sheet lates table = (rows : List (List Text)) × AreLateRows (IsLateRow Asks s sheet) lates rows × (table ≡ late_table rows)
