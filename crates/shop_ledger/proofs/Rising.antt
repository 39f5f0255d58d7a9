-- Numbers that rise, and some of a branch's rows in order of number.
use Rattle.shop_schema.proofs.Common.{◌≡◌, ◌≢◌, ◌&&◌, ◌<◌, ◌+◌, ℕ, List, [], ◌∷◌, map, filter, length, Bool, false, cond, refl, sym, ap, subst, ◌∙◌, arith}
use Rattle.shop_schema.proofs.Common.{AllByRecursion, nat_tests, sort_by, insert_sorted, filter-map, length-map, IsAscending, ascending-filter}
use Rattle.shop_schema.proofs.Common.{ascending_weaker, by, Differ, Row, is_of, of, numbered_from, IsCounted, AreNumbered}
use Rattle.std.specs.Ordering.{is_gt}
use Rattle.shop_schema.proofs.Lists.{filter_twice}

module _ {X : Type 0} (number : X → ℕ) where
  abbrev pub Rises : List X → Type 0
  Rises = IsAscending (λ (x y : X). number x < number y)

  pub counted_above : (k : ℕ) (xs : List X) (n : ℕ) → n < k → IsCounted k (map number xs) → AllByRecursion (λ y. n < number y) xs
  counted_above k [] n low c = tt
  counted_above k (x ∷ xs) n low c = (omega (arith, c.0), counted_above (k + 1) xs n (omega arith) c.1)

  pub counted_rise : (k : ℕ) (xs : List X) → IsCounted k (map number xs) → Rises xs
  counted_rise k [] c = tt
  counted_rise k (x ∷ xs) c = (counted_above (k + 1) xs (number x) (omega (arith, c.0)) c.1, counted_rise (k + 1) xs c.1)

  pub rise_differ : (xs : List X) → Rises xs → Differ number xs
  rise_differ = ascending_weaker (λ (x y : X). number x < number y) (λ (x y : X). number x ≢ number y) (λ x y less same. omega (arith, less, same))

  not_greater : (x y : X) → number x < number y → is_gt (by number x y) ≡ false
  not_greater x y h = grind (arith, nat_tests)

  first_stays : (x : X) (xs : List X) → AllByRecursion (λ y. number x < number y) xs → insert_sorted (by number) x xs ≡ x ∷ xs
  first_stays x [] up = refl
  first_stays x (y ∷ xs) up = ap (λ b. cond b (y ∷ insert_sorted (by number) x xs) (x ∷ y ∷ xs)) (not_greater x y up.0)

  pub rise_sorted : (xs : List X) → Rises xs → sort_by (by number) xs ≡ xs
  rise_sorted [] r = refl
  rise_sorted (x ∷ xs) r = ap (insert_sorted (by number) x) (rise_sorted xs r.1) ∙ first_stays x xs r.0

abbrev pub Rise : {A : Type 0} → List (Row A) → Type 0
Rise {A} = Rises (λ (row : Row A). row.number)

pub numbered_items : {A : Type 0} (k : ℕ) (xs : List A) → map (λ (it : ℕ × A). it.1) (numbered_from k xs) ≡ xs
numbered_items k [] = refl
numbered_items k (x ∷ xs) = ap (λ l. x ∷ l) (numbered_items (k + 1) xs)

-- as many pass with their numbers
pub as_many_pass : {A : Type 0} (p : A → Bool) (k : ℕ) (xs : List A) → length (filter (λ (it : ℕ × A). p it.1) (numbered_from k xs)) ≡ length (filter p xs)
as_many_pass {A} p k xs =
    sym (length-map (λ (it : ℕ × A). it.1) (filter (λ (it : ℕ × A). p it.1) (numbered_from k xs)))
    ∙ ap length (sym (filter-map p (λ (it : ℕ × A). it.1) (numbered_from k xs)) ∙ ap (filter p) (numbered_items k xs))

-- ---- a branch's rows that pass a test

abbrev pub of_which : {A : Type 0} → (A → Bool) → ℕ → Row A → Bool
of_which test b row = is_of b row && test row.it

module _ {A : Type 0} (test : A → Bool) (b : ℕ) (rows : List (Row A)) (counted : AreNumbered (is_of b) (λ row. row.number) rows) where
  split : filter (of_which test b) rows ≡ filter (λ (row : Row A). test row.it) (filter (is_of b) rows)
  split = filter_twice (is_of b) (λ (row : Row A). test row.it) rows

  pub which_rise : Rise (filter (of_which test b) rows)
  which_rise =
      subst Rise (sym split)
      (ascending-filter _ (λ (row : Row A). test row.it) (filter (is_of b) rows) (counted_rise (λ (row : Row A). row.number) 1 (filter (is_of b) rows) counted))

  -- they are the branch's items that pass
  pub which_are : map (λ (row : Row A). row.it) (filter (of_which test b) rows) ≡ filter test (of b rows)
  which_are = ap (map (λ (row : Row A). row.it)) split ∙ sym (filter-map test (λ (row : Row A). row.it) (filter (is_of b) rows))
