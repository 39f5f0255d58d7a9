-- The lists of the books when a row is put last, and a branch's rows in the order of their numbers.
use Rattle.shop_schema.proofs.Common.{◌≡◌, ◌≤◌, ◌<◌, ◌+◌, ◌==◌, ◌&&◌, ℕ, List, [], ◌∷◌, ◌++◌, map, filter, length, Bool, true, false, cond, refl, sym, ap}
use Rattle.shop_schema.proofs.Common.{subst, ◌∙◌, arith, AllByRecursion, flat_map, nat_tests, PicksOne, Row, is_of, is_row, IsCounted, AreNumbered}

-- facts, one after another
infixr 3 ◌also◌
abbrev pub ◌also◌ : {A B : Type 0} → A → B → A × B
a also b = (a, b)

pub flat_map_push : {A B : Type 0} (f : A → List B) (xs : List A) (x : A) → flat_map f (xs ++ x ∷ []) ≡ flat_map f xs ++ f x
flat_map_push f [] x = append_none (f x)
  where
    append_none : {B : Type 0} (l : List B) → l ++ [] ≡ l
    append_none [] = refl
    append_none (y ∷ l) = ap (λ m. y ∷ m) (append_none l)
flat_map_push f (y ∷ xs) x = ap (λ l. f y ++ l) (flat_map_push f xs x) ∙ grouped (f y) (flat_map f xs) (f x)
  where
    grouped : {B : Type 0} (a b c : List B) → a ++ (b ++ c) ≡ (a ++ b) ++ c
    grouped [] b c = refl
    grouped (z ∷ a) b c = ap (λ l. z ∷ l) (grouped a b c)

-- ---- numbers that count

module _ {X : Type 0} (number : X → ℕ) where
  counted_above : (k : ℕ) (xs : List X) (n : ℕ) → n < k → IsCounted k (map number xs) → AllByRecursion (λ x. n < number x) xs
  counted_above k [] n low c = tt
  counted_above k (x ∷ xs) n low c = (omega (arith, c.0), counted_above (k + 1) xs n (omega arith) c.1)

  none_equal : (n : ℕ) (xs : List X) → AllByRecursion (λ x. n < number x) xs → length (filter (λ x. number x == n) xs) ≡ 0
  none_equal n [] up = refl
  none_equal n (x ∷ xs) up =
      ap (λ b. length (cond b (x ∷ filter (λ y. number y == n) xs) (filter (λ y. number y == n) xs))) (unequal (number x) n up.0) ∙ none_equal n xs up.1
    where
      unequal : (m n : ℕ) → n < m → (m == n) ≡ false
      unequal m n h = grind (arith, nat_tests)

  pub counted_once : (k : ℕ) (xs : List X) (n : ℕ) → IsCounted k (map number xs) → length (filter (λ x. number x == n) xs) ≤ 1
  counted_once k [] n c = omega arith
  counted_once k (x ∷ xs) n c = go (number x == n) refl (counted_once (k + 1) xs n c.1)
    where
      go : (b : Bool) → (number x == n) ≡ b → length (filter (λ y. number y == n) xs) ≤ 1
          → length (cond b (x ∷ filter (λ y. number y == n) xs) (filter (λ y. number y == n) xs)) ≤ 1
      go true is few =
          let same : number x ≡ n = grind (arith, nat_tests) in
          let none = none_equal n xs (subst (λ m. AllByRecursion (λ y. m < number y) xs) same (counted_above (k + 1) xs (number x) (omega (arith, c.0)) c.1)) in
          omega (arith, none)
      go false is few = few

-- ---- rows of a branch

pub filter_twice : {X : Type 0} (p q : X → Bool) (xs : List X) → filter (λ x. p x && q x) xs ≡ filter q (filter p xs)
filter_twice p q [] = refl
filter_twice p q (x ∷ xs) = go (p x) (filter_twice p q xs)
  where
    go : (b : Bool) → filter (λ y. p y && q y) xs ≡ filter q (filter p xs)
        → cond (b && q x) (x ∷ filter (λ y. p y && q y) xs) (filter (λ y. p y && q y) xs) ≡ filter q (cond b (x ∷ filter p xs) (filter p xs))
    go true more = ap (λ l. cond (q x) (x ∷ l) l) more
    go false more = more

module _ {A : Type 0} (b : ℕ) (rows : List (Row A)) (counted : AreNumbered (is_of b) (λ row. row.number) rows) where
  -- a branch has at most one row of a number
  pub picks_row : (n : ℕ) → PicksOne (is_row b n) rows
  picks_row n =
      subst (λ (l : List (Row A)). length l ≤ 1) (sym (filter_twice (is_of b) (λ row. row.number == n) rows))
      (counted_once (λ (row : Row A). row.number) 1 (filter (is_of b) rows) n counted)
