-- Entries of the book as tables.
use Rattle.std.proofs.Common.{◌≡◌, ◌∙◌, ◌+◌, ◌<◌, ◌≤◌, ◌++◌, ◌∷◌, [], ℕ, zero, suc, List, length, take, drop, arith, subst, sym, ap, refl, inl, inr}
use Rattle.std.proofs.Common.{Some, None, Option, Result, Ok, Err, IfOk}
use Rattle.std.specs.Prelude.{ℤ, min, slice_get, string_bytes}
use Rattle.std.proofs.lemmas.Bool.{cases_lt}
use Rattle.std.proofs.lemmas.List.{take_all, length-take-le}
use Rattle.std.proofs.lemmas.Option.{slice_get_within}
use Rattle.sqlite.specs.State.{State}
use Rattle.jiff_tz.specs.declared.timezone.TimeZone.{TimeZone}
use Rattle.shop_model.specs.Answers.{Answer}
use Rattle.shop_model.specs.Values.{Text, Command}
use Rattle.till_client.specs.Sealing.{SaysCommand}
use Rattle.till_client.proofs.SoleMessages.{one_command}
use Rattle.till_book.specs.Ends.{IsReadAfter, settled_after}
use Rattle.till_book.specs.Journal.{Journal}
use Rattle.till_book.specs.Read.{in_order}
use Rattle.till_book.specs.Steps as book
use Rattle.till_book.specs.declared.lists.BookRows.{BookRows}
use Rattle.till_shows.specs.Lines.{Table}
use Rattle.till_work.specs.Desk.{HasPlace}
use Rattle.till_work.specs.declared.place.Place.{Place}
use Rattle.till_cashier.specs.Looking.{table_or}
use Rattle.till_cashier.specs.Again.{SaysAt}
use Rattle.till_cashier.specs.Listing.{AreRows, IsAsked, ShowsCommand, IsEntryRow, OfBook, OfEach, ShowsEntries, TablesEntries, entries_table, with_row}
use Rattle.till_cashier.specs.Word.{IsPlaceOf}

-- ---- rows

none_some : {A : Type 0} (x : A) → ◌≡◌ {A = Option A} None (Some x) → ⊥
none_some x e = cc

pub some_same : {A : Type 0} (x y : A) → ◌≡◌ {A = Option A} (Some x) (Some y) → x ≡ y
some_same x y e = cc

longer : {A : Type 0} (xs : List A) (i : ℕ) (x : A) → slice_get xs i ≡ Some x → take (suc i) xs ≡ take i xs ++ x ∷ []
longer [] i x there = absurd (none_some x there)
longer (y ∷ xs) zero x there = ap (λ z. z ∷ []) (some_same y x there)
longer (y ∷ xs) (suc i) x there = ap (λ l. y ∷ l) (longer xs i x there)

pub one_longer : {A : Type 0} (xs : List A) (i : ℕ) (x : A) → slice_get xs i ≡ Some x → take (i + 1) xs ≡ take i xs ++ x ∷ []
one_longer xs i x there = let next : i + 1 ≡ suc i = omega arith in ap (λ (n : ℕ). take n xs) next ∙ longer xs i x there

-- as many as there are, up to that many
pub taken : {A : Type 0} (xs : List A) (i most : ℕ) → i ≤ most → (i < length xs → i ≡ most) → take i xs ≡ take most xs
taken xs i most few all = elim (cases_lt i (length xs)) [
  | inl more ↦ ap (λ (n : ℕ). take n xs) (all more)
  | inr none ↦ take_all i xs none ∙ sym (take_all most xs (omega (arith, none, few)))
]

push_row : (Is : ℕ → List ℕ → List Text → Type 0) (i k : ℕ) (requests : List (List ℕ)) (rows : List (List Text)) (request : List ℕ) (row : List Text)
    → k ≡ i + length requests → AreRows Is i requests rows → Is k request row → AreRows Is i (requests ++ request ∷ []) (rows ++ row ∷ [])
push_row Is i k [] [] request row at all is = (subst (λ (n : ℕ). Is n request row) (let e : k ≡ i + 0 = at in omega (arith, e)) is, tt)
push_row Is i k [] (other ∷ rows) request row at all is = absurd all
push_row Is i k (first ∷ requests) [] request row at all is = absurd all
push_row Is i k (first ∷ requests) (other ∷ rows) request row at all is =
    (all.0, push_row Is (i + 1) k requests rows request row (let e : k ≡ i + suc (length requests) = at in omega (arith, e)) all.1 is)

-- ---- entries

pub ok_any : {A E : Type 0} (r : Result A E) (P : A → Type 0) → ((a : A) → P a) → IfOk r P
ok_any (Ok a) P all = all a
ok_any (Err e) P all = tt

-- the entry says one command alone
pub asked_as : (wall : TimeZone) (offset : ℤ) (entries : List (List ℕ)) (at : ℕ) (known : Command) (text : Text) → SaysAt entries at known
    → ShowsCommand wall offset known text → (request : List ℕ) → slice_get entries at ≡ Some request → IsAsked wall offset request text
asked_as wall offset entries at known text says shows request there command is =
    let same : says.0 ≡ request = some_same says.0 request (sym says.1 ∙ there) in
    let known_there : SaysCommand request says.2.0 known = subst (λ (bytes : List ℕ). SaysCommand bytes says.2.0 known) same says.2.1 in
    subst (λ (it : Command). ShowsCommand wall offset it text) (one_command request says.2.0 is.0 known command known_there is.1) shows

-- ---- a book

-- a fact of four values holds of others that are the same
by_same :
    {X Y Z W : Type 0} (P : X → Y → Z → W → Type 0) {x x' : X} {y y' : Y} {z z' : Z} {w w' : W}
    → x ≡ x' → y ≡ y' → z ≡ z' → w ≡ w' → P x y z w → P x' y' z' w'
by_same {X} {Y} {Z} {W} P {x} {x'} {y} {y'} {z} {z'} {w} {w'} one two three four holds =
    subst (λ (it : X). P it y' z' w') one
    (subst (λ (it : Y). P x it z' w') two (subst (λ (it : Z). P x y it w') three (subst (λ (it : W). P x y z it) four holds)))

-- what is so of each journal with which a book rests is so after a look at it
pub each_before : (old mid : State) (Is : Journal → Type 0) → book.Stays old mid → OfEach mid Is → OfEach old Is
each_before old mid Is stays each journal rests = each journal (stays journal rests)

pub book_each : (place : Place) (old mid : State) (Is : Journal → Type 0) → IsPlaceOf place old → book.Stays old mid → OfBook place mid Is → OfEach old Is
book_each place old mid Is is stays each journal rests =
    let counted = is journal rests in each journal (record { rests = stays journal rests; entries = counted.0; replies = counted.1 })

module _ (wall : TimeZone) (offset : ℤ) (own : Option ℕ) where
  -- ---- a table

  pub no_rows : (first : ℕ) (replies : List Answer) (settled : List (ℕ × Answer)) (requests : List (List ℕ)) (table : Table)
      → table ≡ entries_table [] → TablesEntries wall offset own first replies settled (take 0 requests) table
  no_rows first replies settled requests table same = ([], tt, same)

  pub one_more : (first : ℕ) (replies : List Answer) (settled : List (ℕ × Answer)) (requests : List (List ℕ)) (at : ℕ) (request : List ℕ) (row : List Text)
      (old new : Table)
      → slice_get requests at ≡ Some request → TablesEntries wall offset own first replies settled (take at requests) old
      → IsEntryRow wall offset own first replies settled at request row → new ≡ with_row row old
      → TablesEntries wall offset own first replies settled (take (at + 1) requests) new
  one_more first replies settled requests at request row old new there so_far is same =
      let within : at < length requests = slice_get_within requests at request there in
      let counted : length (take at requests) ≡ at = length-take-le at requests (omega (arith, within)) in
      subst (λ (l : List (List ℕ)). TablesEntries wall offset own first replies settled l new) (sym (one_longer requests at request there)) (
        so_far.0 ++ row ∷ [],
        push_row (IsEntryRow wall offset own first replies settled) 0 at (take at requests) so_far.0 request row (omega (arith, counted)) so_far.1 is,
        same ∙ ap (λ (it : Table). with_row row it) so_far.2,
      )

  -- ---- what was read

  pub read_shows : (number first : ℕ) (none text : Text) (rows : BookRows) (old new : State) → book.FindsAtRest (IsReadAfter number rows) old new
      → first ≡ number
      → ((table : Table) × TablesEntries wall offset own first rows.replies rows.settled rows.entries table × (text ≡ table_or none table))
      → OfEach old (λ journal. ShowsEntries wall offset own none number journal text)
  read_shows number first none text rows old new finds same shown journal rests =
      let it : IsReadAfter number rows journal = (finds journal rests).1 in (
        shown.0,
        by_same (λ (n : ℕ) (replies : List Answer) (settled : List (ℕ × Answer)) (entries : List (List ℕ)).
            TablesEntries wall offset own n replies settled entries shown.0) same it.replies it.settled it.entries shown.1,
        shown.2,
      )
