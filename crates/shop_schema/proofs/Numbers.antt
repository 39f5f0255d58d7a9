-- Shared rows that are joined by their numbers: `LEFT JOIN t ON t.number = key`.
use Rattle.shop_schema.proofs.Common.{◌≡◌, ◌≤◌, ◌==◌, ◌&&◌, ◌+◌, ℕ, zero, suc, List, [], ◌∷◌, ◌++◌, map, filter, true, false, not, cond, refl, sym, ap, subst}
use Rattle.shop_schema.proofs.Common.{◌∙◌, arith, AllByRecursion, all-filter, flat_map, nat_tests, Null, column, or_nulls, HasRows, columns_of, number_value}
use Rattle.shop_schema.proofs.Common.{or_blank, equals, left_key, left_no_key, at, is_empty, has_row, numbered, numbered_from}
use Rattle.sqlite_value.specs.Order.{Row}
use Rattle.shop_schema.proofs.Lasts.{numbered_once}
use Rattle.shop_schema.proofs.Numbered.{picked}

pub numbered_at : {A : Type 0} (n : ℕ) (xs : List A) → filter (λ (it : ℕ × A). it.0 == n) (numbered xs) ≡ map (λ x. (n, x)) (at n xs)
numbered_at {A} zero xs = none_below 1 (omega arith) xs ∙ ap (map (λ x. (0, x))) (sym (nowhere xs))
  where
    none_below : (k : ℕ) → 1 ≤ k → (xs : List A) → filter (λ (it : ℕ × A). it.0 == 0) (numbered_from k xs) ≡ []
    none_below k low [] = refl
    none_below k low (x ∷ xs) =
        ap (λ b.
        cond b ((k, x) ∷ filter (λ (it : ℕ × A). it.0 == 0) (numbered_from (k + 1) xs)) (filter (λ (it : ℕ × A). it.0 == 0) (numbered_from (k + 1) xs)))
        (above k low)
        ∙ none_below (k + 1) (omega arith) xs
      where
        above : (k : ℕ) → 1 ≤ k → (k == 0) ≡ false
        above k low = grind (arith, nat_tests)

    nowhere : (xs : List A) → at 0 xs ≡ []
    nowhere [] = refl
    nowhere (x ∷ xs) = nowhere xs
numbered_at (suc n) xs = picked (suc n) (omega arith) xs

-- what holds of the number of each row holds of that of any
pub of_row : {A : Type 0} (P : ℕ → Type 0) (xs : List A) → AllByRecursion (λ (it : ℕ × A). P it.0) (numbered xs) → (n : ℕ) → has_row xs n ≡ true → P n
of_row {A} P xs all n has =
    first (at n xs) has
    (subst (AllByRecursion (λ (it : ℕ × A). P it.0)) (numbered_at n xs) (all-filter (λ (it : ℕ × A). P it.0) (λ it. it.0 == n) (numbered xs) all))
  where
    first : (found : List A) → not (is_empty found) ≡ true → AllByRecursion (λ (it : ℕ × A). P it.0) (map (λ x. (n, x)) found) → P n
    first [] has all = cc
    first (x ∷ found) has all = all.0

module _ {A Z : Type 0} (width : ℕ) (columns : ℕ × A → Row) (tree : List Row) (xs : List A) (has : HasRows width tree (map columns (numbered xs)))
    (numbers : (it : ℕ × A) → column (columns it) 0 ≡ number_value it.0) (first : (r : Row) → column r 1 ≡ column (columns_of width r) 0)
    (gives : Row → List Z) (only : (r : Row) → gives r ≡ gives (Null ∷ columns_of width r)) where
  abbrev hands_on : Row → List Z
  hands_on c = gives (Null ∷ c)

  -- the key is a number
  pub left_number : (n : ℕ)
      → flat_map gives (or_nulls (filter (λ r. equals (column r 1) (number_value n) && true) tree))
      ≡ flat_map hands_on (or_blank width (map (λ x. columns (n, x)) (at n xs)))
  left_number n =
      left_key width columns tree (numbered xs) has gives only (λ it. it.0) numbers first n (numbered_once 1 xs n)
      ∙ ap (λ (l : List (ℕ × A)). flat_map hands_on (or_blank width (map columns l))) (numbered_at n xs)
      ∙ ap (λ l. flat_map hands_on (or_blank width l)) (through (at n xs))
    where
      through : (l : List A) → map columns (map (λ x. (n, x)) l) ≡ map (λ x. columns (n, x)) l
      through [] = refl
      through (x ∷ l) = ap (λ rows. columns (n, x) ∷ rows) (through l)

  -- the key is NULL
  pub left_null : flat_map gives (or_nulls (filter (λ r. equals (column r 1) Null && true) tree)) ≡ hands_on (columns_of width []) ++ []
  left_null = left_no_key width columns tree (numbered xs) has gives only (λ it. it.0) numbers first
