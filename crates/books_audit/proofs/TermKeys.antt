-- Each rental has its terms in rows in order exactly if it has them in the books that have the rows.
use Rattle.shop_schema.proofs.Common.{◌≡◌, ◌&&◌, ◌==◌, List, [], ◌∷◌, map, Bool, true, false, refl, sym, ap, subst, subst₂, ◌∙◌, arith, true≢false}
use Rattle.shop_schema.proofs.Common.{IsPermutation, bytes_eq, IsPermutation-refl, length_permutation, map-map, Books, TermRows, Rentals, rows_of, AreTermed}
use Rattle.audit_rows.specs.Canons.{row_key}
use Rattle.audit_rows.specs.Lists.{Key, is_below, climbs, climbs_above, same_lists}
use Rattle.shop_model.specs.Books.{Table}
use Rattle.audit_rows.specs.Ordered.{AreOrdered, HaveOrderedRows}
use Rattle.audit_rows.specs.Tables.{checked_row, checked_rows, checked_key}
use Rattle.audit_rows.specs.declared.books.OrderedBooks.{OrderedBooks}
use Rattle.audit_rows.specs.declared.rows.CheckedRow.{CheckedRow}
use Rattle.audit_rows.specs.declared.books.CheckedTerms.{CheckedTerms}
use Rattle.shop_types.specs.declared.rental.Rental.{Rental}
use Rattle.audit_rows.proofs.Bags.{count_along, one_order, same_equal}
use Rattle.audit_rows.proofs.Keys.{NeverFalls, both, below_trans, below_apart, same_bytes}
use Rattle.books_audit.specs.Read.{are_termed}

-- ---- keys that climb, in two lists with the same keys

never_turned : (low key : Key) → is_below low key ≡ true → is_below key low ≡ false
never_turned low key below = go (is_below key low) refl
  where
    go : (t : Bool) → is_below key low ≡ t → is_below key low ≡ false
    go false e = e
    go true e = absurd (true≢false (sym (same_bytes low) ∙ below_apart low low (below_trans low key low below e)))

falls : (low : Key) (keys : List Key) → climbs_above low keys ≡ true → NeverFalls low keys
falls low [] up = tt
falls low (key ∷ keys) up =
    let parts = both (is_below low key) (climbs_above key keys) up in
    (never_turned low key parts.0, falls key keys parts.1)

one_climb : (xs ys : List Key) → climbs xs ≡ true → climbs ys ≡ true → IsPermutation xs ys → xs ≡ ys
one_climb [] [] up down h = refl
one_climb [] (y ∷ ys) up down h = absurd (omega (arith, length_permutation _ _ h))
one_climb (x ∷ xs) [] up down h = absurd (omega (arith, length_permutation _ _ h))
one_climb (x ∷ xs) (y ∷ ys) up down h =
    same_equal (x ∷ xs) (y ∷ ys) (one_order (x ∷ xs) (y ∷ ys) (falls x xs up) (falls y ys down) (λ test. count_along test (x ∷ xs) (y ∷ ys) h))

-- ---- rows in order

abbrev keys : {A : Type 0} → List (CheckedRow A) → List Key
keys rows = map checked_key rows

regrouped : (a b c : Bool) → (a && b && c) ≡ ((a && (b && true)) && c)
regrouped true true c = refl
regrouped true false c = refl
regrouped false b c = refl

as_keys : (terms : List (CheckedRow CheckedTerms)) (rentals : List (CheckedRow Rental)) → are_termed terms rentals ≡ same_lists (keys terms) (keys rentals)
as_keys [] [] = refl
as_keys [] (rental ∷ rentals) = refl
as_keys (it ∷ terms) [] = refl
as_keys (it ∷ terms) (rental ∷ rentals) =
    regrouped (it.branch == rental.branch) (it.number == rental.number) (are_termed terms rentals)
    ∙ ap (λ (rest : Bool). bytes_eq (it.branch ∷ it.number ∷ []) (rental.branch ∷ rental.number ∷ []) && rest) (as_keys terms rentals)

same_itself : (keys : List Key) → same_lists keys keys ≡ true
same_itself [] = refl
same_itself (key ∷ keys) = λ i. same_bytes key i && same_itself keys i

module _ (rows : OrderedBooks) (c : Books) (has : HaveOrderedRows rows c) where
  keys_are : (t : Table) → map row_key (rows_of c t) ≡ keys (checked_rows rows t)
  keys_are t = sym (map-map checked_key (checked_row t) (rows_of c t)) ∙ ap keys (has.rows t)

  pub termed_in_books : are_termed rows.terms.items rows.rentals.items ≡ true → AreTermed c
  termed_in_books h =
      let same : keys rows.terms.items ≡ keys rows.rentals.items = same_equal _ _ (sym (as_keys rows.terms.items rows.rentals.items) ∙ h) in
      subst (IsPermutation (map row_key c.terms)) (keys_are TermRows ∙ same ∙ sym (keys_are Rentals)) (IsPermutation-refl (map row_key c.terms))

  pub termed_in_rows : AreOrdered rows → AreTermed c → are_termed rows.terms.items rows.rentals.items ≡ true
  termed_in_rows ordered h =
      let same : keys rows.terms.items ≡ keys rows.rentals.items =
      one_climb _ _ (ordered.rows TermRows) (ordered.rows Rentals) (subst₂ IsPermutation (keys_are TermRows) (keys_are Rentals) h) in
      as_keys rows.terms.items rows.rentals.items ∙ ap (same_lists (keys rows.terms.items)) (sym same) ∙ same_itself (keys rows.terms.items)
