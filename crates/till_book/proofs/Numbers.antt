-- Rows with numbers: no number comes twice, and rows in order of number.
use Rattle.sql_rows.proofs.Common.{zero, suc, IsAscending, filter_same, ◌≡◌, ◌≢◌, ◌<◌, ◌≤◌, ◌+◌, ◌∙◌, ℕ, List, [], ◌∷◌, ◌++◌, map, filter, length, true, false}
use Rattle.sql_rows.proofs.Common.{cond, inl, inr, refl, sym, ap, subst, arith, is_gt, AllByRecursion, cases_Bool, nat_tests, sort_by, insert_sorted}
use Rattle.sql_rows.proofs.Common.{IsAscending, ascending_weaker, by, Differ}
use Rattle.std.specs.Prelude.{◌==◌, nat_lt, drop}
use Rattle.shop_model.specs.Rows.{numbered_from}
use Rattle.shop_model.proofs.RowLemmas.{equal_test, differ_test}

pub nothing_in : {A B : Type 0} (f : A → B) (xs : List A) → map f xs ≡ [] → xs ≡ []
nothing_in f [] none = refl
nothing_in f (x ∷ xs) none = cc

all_push : {A : Type 0} (P : A → Type 0) (xs : List A) (x : A) → AllByRecursion P xs → P x → AllByRecursion P (xs ++ x ∷ [])
all_push P [] x all it = (it, tt)
all_push P (y ∷ xs) x all it = (all.0, all_push P xs x all.1 it)

module _ {A : Type 0} where
  abbrev pub number : ℕ × A → ℕ
  number it = it.0

  -- no row has the number
  pub none_of : (n : ℕ) (xs : List (ℕ × A)) → filter (λ (it : ℕ × A). it.0 == n) xs ≡ [] → AllByRecursion (λ (it : ℕ × A). it.0 ≢ n) xs
  none_of n [] none = tt
  none_of n (x ∷ xs) none = elim (cases_Bool (x.0 == n)) [
    | inl is ↦ absurd (some (rw is at none))
    | inr isnt ↦ (λ same. absurd (let test : (x.0 == n) ≡ true = equal_test x.0 n same in cc), none_of n xs (rw isnt at none))
  ]
    where
      some : x ∷ filter (λ (it : ℕ × A). it.0 == n) xs ≡ [] → ⊥
      some e = cc

  -- such a row may be added at the end
  pub differ_push : (n : ℕ) (a : A) (xs : List (ℕ × A)) → Differ number xs → AllByRecursion (λ (it : ℕ × A). it.0 ≢ n) xs → Differ number (xs ++ (n, a) ∷ [])
  differ_push n a [] apart none = (tt, tt)
  differ_push n a (x ∷ xs) apart none = (all_push (λ (y : ℕ × A). x.0 ≢ y.0) xs (n, a) apart.0 none.0, differ_push n a xs apart.1 none.1)

  nobody : (n : ℕ) (xs : List (ℕ × A)) → AllByRecursion (λ (y : ℕ × A). n ≢ y.0) xs → filter (λ (it : ℕ × A). it.0 == n) xs ≡ []
  nobody n [] apart = refl
  nobody n (x ∷ xs) apart =
      let differ : (x.0 == n) ≡ false = differ_test x.0 n (λ e. apart.0 (sym e)) in
      rw differ (nobody n xs apart.1)

  -- no number comes twice
  pub picks_one : (n : ℕ) (xs : List (ℕ × A)) → Differ number xs → length (filter (λ (it : ℕ × A). it.0 == n) xs) ≤ 1
  picks_one n [] apart = omega arith
  picks_one n (x ∷ xs) apart = elim (cases_Bool (x.0 == n)) [
    | inl is ↦
        let same : x.0 ≡ n = grind (arith, nat_tests, is) in
        rw (is, nobody n xs (subst (λ (m : ℕ). AllByRecursion (λ (y : ℕ × A). m ≢ y.0) xs) same apart.0)) (omega arith)
    | inr isnt ↦ rw isnt (picks_one n xs apart.1)
  ]

  -- ---- numbers that rise

  abbrev Rise : List (ℕ × A) → Type 0
  Rise = IsAscending (λ (a b : ℕ × A). a.0 < b.0)

  rise_differ : (xs : List (ℕ × A)) → Rise xs → Differ number xs
  rise_differ xs up = ascending_weaker (λ (a b : ℕ × A). a.0 < b.0) (λ (a b : ℕ × A). a.0 ≢ b.0) (λ a b less same. omega (arith, less, same)) xs up

  not_greater : (x y : ℕ × A) → x.0 < y.0 → is_gt (by number x y) ≡ false
  not_greater x y h = grind (arith, nat_tests)

  first_stays : (x : ℕ × A) (xs : List (ℕ × A)) → AllByRecursion (λ (y : ℕ × A). x.0 < y.0) xs → insert_sorted (by number) x xs ≡ x ∷ xs
  first_stays x [] up = refl
  first_stays x (y ∷ xs) up = ap (λ b. cond b (y ∷ insert_sorted (by number) x xs) (x ∷ y ∷ xs)) (not_greater x y up.0)

  rise_sorted : (xs : List (ℕ × A)) → Rise xs → sort_by (by number) xs ≡ xs
  rise_sorted [] up = refl
  rise_sorted (x ∷ xs) up = ap (insert_sorted (by number) x) (rise_sorted xs up.1) ∙ first_stays x xs up.0

  -- ---- rows that are numbered

  above : (n k : ℕ) (xs : List A) → n < k → AllByRecursion (λ (y : ℕ × A). n < y.0) (numbered_from k xs)
  above n k [] low = tt
  above n k (x ∷ xs) low = (low, above n (k + 1) xs (omega (arith, low)))

  rises : (k : ℕ) (xs : List A) → Rise (numbered_from k xs)
  rises k [] = tt
  rises k (x ∷ xs) = (above k (k + 1) xs (omega arith), rises (k + 1) xs)

  pub numbered_differ : (k : ℕ) (xs : List A) → Differ number (numbered_from k xs)
  numbered_differ k xs = rise_differ (numbered_from k xs) (rises k xs)

  pub numbered_sorted : (k : ℕ) (xs : List A) → sort_by (by number) (numbered_from k xs) ≡ numbered_from k xs
  numbered_sorted k xs = rise_sorted (numbered_from k xs) (rises k xs)

  pub numbered_rise : (k : ℕ) (xs : List A) → IsAscending (λ (a b : ℕ × A). a.0 < b.0) (numbered_from k xs)
  numbered_rise k xs = rises k xs

  -- the rows after a number are what is left without the first so many
  dropped_from : (i k : ℕ) (xs : List A) → filter (λ (it : ℕ × A). nat_lt (k + i) (it.0 + 1)) (numbered_from k xs) ≡ numbered_from (k + i) (drop i xs)
  dropped_from i k [] = drop_none i
    where
      drop_none : (i : ℕ) → ◌≡◌ {A = List (ℕ × A)} [] (numbered_from (k + i) (drop i []))
      drop_none zero = refl
      drop_none (suc i) = refl
  dropped_from zero k (x ∷ xs) =
      let here : k + 0 ≡ k = omega arith in
      ap (λ (m : ℕ). filter (λ (it : ℕ × A). nat_lt m (it.0 + 1)) (numbered_from k (x ∷ xs))) here
      ∙ all_from k (x ∷ xs) (omega arith) ∙ ap (λ (m : ℕ). numbered_from m (x ∷ xs)) (sym here)
    where
      less : (m n : ℕ) → m ≤ n → nat_lt m (n + 1) ≡ true
      less m n h = grind (arith, nat_tests)

      all_from : (j : ℕ) (ys : List A) → k ≤ j → filter (λ (it : ℕ × A). nat_lt k (it.0 + 1)) (numbered_from j ys) ≡ numbered_from j ys
      all_from j [] low = refl
      all_from j (y ∷ ys) low = let is : nat_lt k (j + 1) ≡ true = less k j low in rw is (ap (λ l. (j, y) ∷ l) (all_from (j + 1) ys (omega (arith, low))))
  dropped_from (suc i) k (x ∷ xs) =
      let isnt : nat_lt (k + suc i) (k + 1) ≡ false = not_less (k + suc i) (k + 1) (omega arith) in
      let same : k + suc i ≡ k + 1 + i = omega arith in
      rw isnt
      (ap (λ (m : ℕ). filter (λ (it : ℕ × A). nat_lt m (it.0 + 1)) (numbered_from (k + 1) xs)) same
      ∙ dropped_from i (k + 1) xs ∙ ap (λ (m : ℕ). numbered_from m (drop i xs)) (sym same))
    where
      not_less : (m n : ℕ) → n ≤ m → nat_lt m n ≡ false
      not_less m n h = grind (arith, nat_tests)

  pub dropped_numbers : (n : ℕ) (xs : List A) → filter (λ (it : ℕ × A). nat_lt n it.0) (numbered_from 1 xs) ≡ numbered_from (n + 1) (drop n xs)
  dropped_numbers n xs =
      let place : 1 + n ≡ n + 1 = omega arith in
      filter_same (λ (it : ℕ × A). nat_lt n it.0) (λ (it : ℕ × A). nat_lt (1 + n) (it.0 + 1)) (λ it. shifted n it.0) (numbered_from 1 xs)
      ∙ dropped_from n 1 xs ∙ ap (λ (m : ℕ). numbered_from m (drop n xs)) place
    where
      shifted : (m n : ℕ) → nat_lt m n ≡ nat_lt (1 + m) (n + 1)
      shifted m n = grind (arith, nat_tests)

  pub unnumbered : {B : Type 0} (f : A → B) (k : ℕ) (xs : List A) → map (λ (it : ℕ × A). f it.1) (numbered_from k xs) ≡ map f xs
  unnumbered f k [] = refl
  unnumbered f k (x ∷ xs) = ap (λ l. f x ∷ l) (unnumbered f (k + 1) xs)

pub kept_all : {A : Type 0} (xs : List A) → filter (λ x. true) xs ≡ xs
kept_all [] = refl
kept_all (x ∷ xs) = ap (λ l. x ∷ l) (kept_all xs)
