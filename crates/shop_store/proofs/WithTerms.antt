-- What is shown of rentals with their terms, and what is read of it.
use Rattle.shop_schema.proofs.Common.{◌≡◌, ◌<◌, ◌+◌, ℕ, List, [], ◌∷◌, ◌++◌, length, map, filter, Bool, false, inl, inr, refl, sym, ap, subst, ◌∙◌, arith}
use Rattle.shop_schema.proofs.Common.{append_assoc, is_eq, is_lt, zip, AllByRecursion, cases_Bool, Null, or_null, ascending, Binary, then-Equal, Term, Query}
use Rattle.shop_schema.proofs.Common.{Join, Output, output_cmp, map-map, ascending-map, ascending_weaker, all-filter, all_map, number_value, joined_query}
use Rattle.shop_schema.proofs.Common.{Climbs, unmapped_kind, number_cmp, Row, IsCounted, at, is_of, of, Rental, Terms, Books, shop_of, termed, same_if}
use Rattle.shop_schema.proofs.Common.{moment_value, IsRental, IsTerms, IsHeld, Rentals, TermRows}
use Rattle.std.proofs.lemmas.List.{length-append}
use Rattle.shop_schema.proofs.OneRow.{same_row}
use Rattle.shop_schema.proofs.ShopTables as table
use Rattle.shop_ledger.proofs.Rising.{Rise, of_which}
use Rattle.shop_store.specs.declared.termed.TermedRental.{TermedRental}
use Rattle.shop_store.specs.Seen.{seen_termed, termed_columns, IsTermed}
use Rattle.shop_store.proofs.Ascending.{all_of, at_behind, not_equal, not_less}
use Rattle.sqlite_value.specs.Order as sql

-- ---- what is shown

-- the columns of the first rental, or NULLs if there is none
abbrev pub rental_shown : List Rental → sql.Row
rental_shown [] = Null ∷ Null ∷ Null ∷ Null ∷ Null ∷ []
rental_shown (it ∷ rentals) =
    moment_value it.rented ∷ number_value it.copy ∷ number_value it.customer ∷ or_null moment_value it.returned ∷ number_value it.staff ∷ []

abbrev pub terms_shown : List Terms → sql.Row
terms_shown [] = Null ∷ Null ∷ Null ∷ []
terms_shown (it ∷ terms) = number_value it.rate ∷ number_value it.period ∷ number_value it.replacement ∷ []

abbrev pub shown_first : List Rental → List Terms → sql.Row
shown_first rentals terms = rental_shown rentals ++ terms_shown terms

-- ---- in the order of their numbers

module _ (from : Join) (tests shows : List Term) (number : Term) (show : Row Rental → sql.Row) where
  abbrev asked : Query
  asked = joined_query from tests shows ((number, ascending Binary) ∷ [])

  abbrev output : Row Rental → Output
  output x = (number_value x.number ∷ [], show x)

  one_climbs : (x y : Row Rental) → x.number < y.number
      → (is_eq (output_cmp asked (output x) (output y)) ≡ false) × (is_lt (output_cmp asked (output y) (output x)) ≡ false)
  one_climbs x y h = (
    ap is_eq (then-Equal _ ∙ number_cmp x.number y.number) ∙ not_equal x.number y.number h,
    ap is_lt (then-Equal _ ∙ number_cmp y.number x.number) ∙ not_less x.number y.number h,
  )

  pub rentals_climb : (xs : List (Row Rental)) → Rise xs → Climbs asked (map output xs)
  rentals_climb xs r = ascending-map _ output xs (ascending_weaker (λ (x y : Row Rental). x.number < y.number) _ one_climbs xs r)

-- ---- each with the terms under its number

-- what is shown of a branch's rental among the terms is `its`, of the rental with those under its number
module _ {Z : Type 0} (b : ℕ) (q : Rental → Bool) (terms : List (Row Terms)) (shows : Row Rental → Z) (its : Rental × Terms → Z)
    (alike : (x : Row Rental) (t : Terms) → x.branch ≡ b → at x.number (of b terms) ≡ t ∷ [] → shows x ≡ its (x.it, t)) where
  abbrev chosen : List (Row Rental) → List (Row Rental)
  chosen rows = filter (of_which q b) rows

  abbrev pairs : List (Row Rental) → List Terms → List (Rental × Terms)
  pairs rows after = filter (λ (it : Rental × Terms). q it.0) (zip (of b rows) after)

  pub termed_rows : (rows : List (Row Rental)) (before after : List Terms) → of b terms ≡ before ++ after
      → IsCounted (length before + 1) (map (λ (row : Row Rental). row.number) (filter (is_of b) rows))
      → length after ≡ length (of b rows) → map shows (chosen rows) ≡ map its (pairs rows after)
  termed_rows [] before [] all counted same = refl
  termed_rows [] before (t ∷ after) all counted same = refl
  termed_rows (row ∷ rows) before [] all counted same = elim (cases_Bool (is_of b row)) [
    | inl ours ↦ absurd (omega (arith, rw ours at same))
    | inr other ↦ rw other (termed_rows rows before [] all (rw other at counted) (rw other at same))
  ]
  termed_rows (row ∷ rows) before (t ∷ after) all counted same = elim (cases_Bool (is_of b row)) [
    | inl ours ↦
        let count = rw ours at counted in
        let lengths = rw ours at same in
        let next : length before + 1 + 1 ≡ length (before ++ t ∷ []) + 1 = ap (λ (n : ℕ). n + 1) (sym (length-append before (t ∷ []))) in
        let rest : map shows (chosen rows) ≡ map its (pairs rows after) =
        termed_rows rows (before ++ t ∷ []) after (all ∙ sym (append_assoc before (t ∷ []) after))
        (subst (λ (n : ℕ). IsCounted n (map (λ (row : Row Rental). row.number) (filter (is_of b) rows))) next count.1)
        (omega (arith, lengths)) in
        let found : at row.number (of b terms) ≡ t ∷ [] = (λ i. at (count.0 i) (of b terms)) ∙ ap (at (length before + 1)) all ∙ at_behind before after t in
        let own : shows row ≡ its (row.it, t) = alike row t (same_if row.branch b ours) found in
        elim (cases_Bool (q row.it)) [
          | inl passes ↦ rw (ours, passes) (λ i. own i ∷ rest i)
          | inr fails ↦ rw (ours, fails) rest
        ]
    | inr other ↦ rw other (termed_rows rows before (t ∷ after) all (rw other at counted) (rw other at same))
  ]

-- ---- what is read

-- as the row of some branch, with some number
abbrev row_of : {A : Type 0} → A → Row A
row_of it = record { branch = 1; number = 1; it = it }

same_termed : (x y : Rental × Terms) → IsTermed x → IsTermed y → termed_columns x ≡ termed_columns y → x ≡ y
same_termed x y p q h =
    let rental : row_of x.0 ≡ row_of y.0 = same_row table.rentals (row_of x.0) (row_of y.0) (refl, refl, p.0) (refl, refl, q.0) cc in
    let terms : row_of x.1 ≡ row_of y.1 = same_row table.terms (row_of x.1) (row_of y.1) (refl, refl, p.1) (refl, refl, q.1) cc in
    (λ i. ((rental i).it, (terms i).it))

all_termed : (rentals : List Rental) (terms : List Terms) → AllByRecursion IsRental rentals
    → AllByRecursion IsTerms terms → AllByRecursion IsTermed (zip rentals terms)
all_termed [] [] p q = tt
all_termed [] (t ∷ terms) p q = tt
all_termed (rental ∷ rentals) [] p q = tt
all_termed (rental ∷ rentals) (t ∷ terms) p q = ((p.0, q.0), all_termed rentals terms p.1 q.1)

pub termed_fit : (b : ℕ) (books : Books) → IsHeld books → AllByRecursion IsTermed (termed (shop_of b books))
termed_fit b books held =
    all_termed (of b books.rentals) (of b books.terms) (all_of IsRental b books.rentals (held.values.rows Rentals))
    (all_of IsTerms b books.terms (held.values.rows TermRows))

-- rows that have the columns of some of the branch's rentals are these rentals
pub termed_told : (b : ℕ) (q : Rental × Terms → Bool) (books : Books) → IsHeld books
    → (items : List TermedRental) → AllByRecursion (λ (it : TermedRental). IsTermed (seen_termed it)) items
    → map (λ (it : TermedRental). termed_columns (seen_termed it)) items ≡ map termed_columns (filter q (termed (shop_of b books)))
    → map seen_termed items ≡ filter q (termed (shop_of b books))
termed_told b q books held items kinds is =
    unmapped_kind termed_columns IsTermed same_termed (map seen_termed items) (filter q (termed (shop_of b books))) (all_map IsTermed seen_termed items kinds)
    (all-filter IsTermed q (termed (shop_of b books)) (termed_fit b books held))
    (map-map termed_columns seen_termed items ∙ is)
