-- The rows of what is overdue.
use Rattle.std.proofs.Common.{◌≡◌, ◌∙◌, ◌++◌, ◌∷◌, ◌+◌, ◌<◌, ◌≤◌, [], ℕ, Bool, true, false, List, length, map, take, get_or, ap, sym, subst}
use Rattle.std.proofs.Common.{Option, Some, None, IfSome, IfNone, inl, inr}
use Rattle.std.specs.Prelude.{option_and_then}
use Rattle.std.specs.List.{All, Contains}
use Rattle.std.proofs.lemmas.List.{get_or-map, length-map, map_push, take_all, take_more}
use Rattle.std.proofs.lemmas.List.Elements.{All-append, All-contains, All-same}
use Rattle.serde_json.specs.Data.{Data}
use Rattle.serde_json.specs.View.{view}
use Rattle.serde_json.specs.declared.value.Value.{Value}
use Rattle.sqlite.specs.State.{State}
use Rattle.shop_model.specs.Answers.{Answer}
use Rattle.shop_model.specs.Values.{Text, Ask}
use Rattle.till_book.specs.Steps as book
use Rattle.till_shows.specs.Bodies.{body_of, each, rows_in}
use Rattle.till_shows.specs.Lines.{Table}
use Rattle.till_cashier.specs.declared.overdue.Late.{Late}
use Rattle.till_cashier.specs.Late.{AreLateRows, IsKnown, IsLateRow, IsRentalOf, IsRowOf, TablesLate, late_of, lates_in, seen_late}
use Rattle.till_cashier.specs.Listing.{with_row}
use Rattle.till_cashier.specs.Looking.{AddsLate, AddsLook, SaysLooked, ShowsLate}

-- ---- what a body lists

pub list_lates : {A : Type 0} (f : A → List (List Text)) (d : Data) (rows : List Data) (it : Option A) → Some rows ≡ rows_in d
    → IfSome it (λ a. each late_of rows ≡ Some (f a)) → IfSome it (λ a. option_and_then (each late_of) (rows_in d) ≡ Some (f a))
list_lates f d rows (Some a) listed is = ap (option_and_then (each late_of)) (sym listed) ∙ is
list_lates f d rows None listed is = tt

pub body_lates : {A : Type 0} (f : A → List (List Text)) (body : Text) (d : Data) (it : Option A) → body_of body ≡ Some d
    → IfSome it (λ a. option_and_then (each late_of) (rows_in d) ≡ Some (f a)) → IfSome it (λ a. lates_in body ≡ Some (f a))
body_lates f body d (Some a) read listed = ap (λ (o : Option Data). option_and_then (each late_of) (option_and_then rows_in o)) read ∙ listed
body_lates f body d None read listed = tt

-- what was added to a list, if there was memory
pub all_added : {A : Type 0} (P : A → Type 0) {B : Type 0} (r : Option B) (old more new : List A) → IfSome r (λ b. new ≡ old ++ more) → IfNone r (new ≡ old)
    → All P old → All P more → All P new
all_added P (Some b) old more new added same all others = All-same P new (old ++ more) added (All-append P old more all others)
all_added P None old more new added same all others = All-same P new old same all

-- one of a list, if it is found, is as all of them are
pub all_found : {A B : Type 0} (P : A → Type 0) (f : B → A) (o : Option B) (xs : List A)
    → All P xs → IfSome o (λ b. Contains xs (f b)) → IfSome o (λ b. P (f b))
all_found P f (Some b) xs all there = All-contains P xs (f b) all there
all_found P f None xs all there = tt

-- ---- the rental's customer

-- one value of a list, and what it is mapped to
pub contains_mapped : {A B : Type 0} (f : A → B) (xs : List A) (x : A) → Contains xs x → Contains (map f xs) (f x)
contains_mapped f xs x there = (
  there.0,
  subst (λ (n : ℕ). there.0 < n) (sym (length-map xs f)) there.1,
  get_or-map f xs there.0 x (f x) there.1 ∙ ap f there.2,
)

-- a row among the rows of a list
pub row_listed : {B : Type 0} (list : Data) (rows : List Value) (f : B → Value) (o : Option B) → Some (map view rows) ≡ rows_in list
    → IfSome o (λ b. Contains rows (f b)) → IfSome o (λ b. IsRowOf list (view (f b)))
row_listed list rows f (Some b) listed there = (map view rows, sym listed, contains_mapped view rows (f b) there)
row_listed list rows f None listed there = tt

-- both hold of what is found
pub both_found : {B : Type 0} (o : Option B) (P Q : B → Type 0) → IfSome o P → IfSome o Q → IfSome o (λ b. P b × Q b)
both_found (Some b) P Q one two = (one, two)
both_found None P Q one two = tt

-- ---- rows

module _ (Is : List Text → List Text → Type 0) where
  pub push_late : (lates rows : List (List Text)) (late row : List Text) → AreLateRows Is lates rows → Is late row
      → AreLateRows Is (lates ++ late ∷ []) (rows ++ row ∷ [])
  push_late [] [] late row all is = (is, tt)
  push_late [] (other ∷ rows) late row all is = absurd all
  push_late (first ∷ lates) [] late row all is = absurd all
  push_late (first ∷ lates) (other ∷ rows) late row all is = (all.0, push_late lates rows late row all.1 is)

  pub late_rows_as : (Other : List Text → List Text → Type 0) → ((late row : List Text) → Is late row → Other late row)
      → (lates rows : List (List Text)) → AreLateRows Is lates rows → AreLateRows Other lates rows
  late_rows_as Other follows [] [] all = tt
  late_rows_as Other follows [] (row ∷ rows) all = absurd all
  late_rows_as Other follows (late ∷ lates) [] all = absurd all
  late_rows_as Other follows (late ∷ lates) (row ∷ rows) all = (follows late row all.0, late_rows_as Other follows lates rows all.1)

-- one more row
pub late_pushed : (Asks : Ask → Answer → Type 0) (s : State) (sheet : Text) (lates : List Late) (at : ℕ) (late : Late) (row : List Text) (old new : Table)
    → at < length lates → late ≡ get_or lates at late → TablesLate Asks s sheet (map seen_late (take at lates)) old
    → IsLateRow Asks s sheet (seen_late late) row → new ≡ with_row row old → TablesLate Asks s sheet (map seen_late (take (at + 1) lates)) new
late_pushed Asks s sheet lates at late row old new low there so_far one same =
    let longer : take (at + 1) lates ≡ take at lates ++ late ∷ [] =
    take_more lates at late low ∙ ap (λ (l : Late). take at lates ++ l ∷ []) (sym there) in
    let mapped : map seen_late (take (at + 1) lates) ≡ map seen_late (take at lates) ++ seen_late late ∷ [] =
    ap (map seen_late) longer ∙ map_push seen_late (take at lates) late in
    subst (λ (listed : List (List Text)). TablesLate Asks s sheet listed new) (sym mapped) (
      so_far.0 ++ row ∷ [],
      push_late (IsLateRow Asks s sheet) (map seen_late (take at lates)) so_far.0 (seen_late late) row so_far.1 one,
      same ∙ ap (λ (it : Table). with_row row it) so_far.2,
    )

-- all rows
pub late_whole : (Asks : Ask → Answer → Type 0) (s : State) (sheet : Text) (lates : List Late) (at : ℕ) (table : Table) → length lates ≤ at
    → TablesLate Asks s sheet (map seen_late (take at lates)) table → TablesLate Asks s sheet (map seen_late lates) table
late_whole Asks s sheet lates at table all so_far =
    subst (λ (listed : List Late). TablesLate Asks s sheet (map seen_late listed) table) (take_all at lates all) so_far

-- ---- the book as it was before a look at it

module _ (Asks : Ask → Answer → Type 0) (s t : State) (stays : book.Stays s t) (sheet : Text) where
  rental_before : (copy who rental : ℕ) → IsRentalOf t sheet copy who rental → IsRentalOf s sheet copy who rental
  rental_before copy who rental (inl held) = inl (λ journal rests. held journal (stays journal rests))
  rental_before copy who rental (inr written) = inr written

  rentals_before : (copy who : ℕ) (rental : Option ℕ) → IfSome rental (IsRentalOf t sheet copy who) → IfSome rental (IsRentalOf s sheet copy who)
  rentals_before copy who (Some rental) is = rental_before copy who rental is
  rentals_before copy who None is = tt

  known_before : (late : List Text) (copy rental : Option ℕ) → IsKnown Asks t sheet late copy rental → IsKnown Asks s sheet late copy rental
  known_before late None None is = tt
  known_before late None (Some rental) is = absurd is
  known_before late (Some copy) rental is = (is.0, is.1, is.2, rentals_before copy is.0 rental is.3)

  pub row_before : (late row : List Text) → IsLateRow Asks t sheet late row → IsLateRow Asks s sheet late row
  row_before late row is = (is.0, is.1, known_before late is.0 is.1 is.2, is.3)

  pub table_before : (lates : List (List Text)) (table : Table) → TablesLate Asks t sheet lates table → TablesLate Asks s sheet lates table
  table_before lates table is = (is.0, late_rows_as (IsLateRow Asks t sheet) (IsLateRow Asks s sheet) row_before lates is.0 is.1, is.2)

  shows_before : (body text : Text) → ShowsLate Asks t sheet body text → ShowsLate Asks s sheet body text
  shows_before body text (inl plain) = inl plain
  shows_before body text (inr known) = inr (known.0, known.1, (known.2.0, table_before known.0 known.2.0 known.2.1, known.2.2))

  says_before : (json : Bool) (answer : Answer) (text : Text) → SaysLooked json (ShowsLate Asks t sheet) answer text
      → SaysLooked json (ShowsLate Asks s sheet) answer text
  says_before true answer text says = says
  says_before false answer text (inl refused) = inl refused
  says_before false answer text (inr shown) = inr (shown.0, shows_before answer.body text shown.1)

  adds_before : (Asked : Answer → Type 0) (json : Bool) (old : Text) (was : ℕ) (new : Text) (status : ℕ)
      → AddsLook Asked json (ShowsLate Asks t sheet) old was new status → AddsLook Asked json (ShowsLate Asks s sheet) old was new status
  adds_before Asked json old was new status is = record {
    answer = is.answer;
    asked = is.asked;
    text = is.text;
    says = says_before json is.answer is.text is.says;
    added = is.added;
    done = is.done;
  }

  pub late_before : (shows : ℕ → Type 0) (json : Bool) (old : Text) (was : ℕ) (new : Text) (status : ℕ)
      → AddsLate Asks t sheet shows json old was new status → AddsLate Asks s sheet shows json old was new status
  late_before shows json old was new status is = (is.0, is.1, adds_before _ json old was new status is.2)
