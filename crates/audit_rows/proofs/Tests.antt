-- Tests of lists of rows, and of what the rows are of.
use Rattle.shop_types.proofs.Common.{◌≡◌, ◌&&◌, ◌||◌, ◌+◌, ◌-◌, ◌≤◌, ◌==◌, ℕ, List, [], ◌∷◌, map, not, Bool, true, false, cond, refl, sym, ap, subst, ◌∙◌}
use Rattle.shop_types.proofs.Common.{arith, true≢false, nat_le, list_any, list_all, AllByRecursion, nat_tests, at, IsCounted, are_different, same_if}
use Rattle.shop_types.proofs.Common.{equal_test}
use Rattle.audit_rows.proofs.Keys.{both}
use Rattle.audit_rows.proofs.Maps.{all-map}
use Rattle.audit_rows.specs.Lists.{counts_from}

-- the parts of a test that is one and another, and another, ..
abbrev pub all_of : Bool → List Bool → Bool
all_of a [] = a
all_of a (b ∷ bs) = all_of (a && b) bs

pub all_parts : (a : Bool) (bs : List Bool) → all_of a bs ≡ true → (a ≡ true) × AllByRecursion (λ b. b ≡ true) bs
all_parts a [] h = (h, tt)
all_parts a (b ∷ bs) h =
    let more = all_parts (a && b) bs h in
    let here = both a b more.0 in
    (here.0, (here.1, more.1))

pub all_congr : {X : Type 0} (p q : X → Bool) → ((x : X) → p x ≡ q x) → (xs : List X) → list_all p xs ≡ list_all q xs
all_congr p q h [] = refl
all_congr p q h (x ∷ xs) = λ i. h x i && all_congr p q h xs i

pub any_congr : {X : Type 0} (p q : X → Bool) → ((x : X) → p x ≡ q x) → (xs : List X) → list_any p xs ≡ list_any q xs
any_congr p q h [] = refl
any_congr p q h (x ∷ xs) = λ i. h x i || any_congr p q h xs i

shuffled : (a b c d : Bool) → (a && b && (c && d)) ≡ (a && c && (b && d))
shuffled true true c d = refl
shuffled true false true d = refl
shuffled true false false d = refl
shuffled false b c d = refl

pub all_and : {X : Type 0} (p q : X → Bool) (xs : List X) → list_all (λ x. p x && q x) xs ≡ (list_all p xs && list_all q xs)
all_and p q [] = refl
all_and p q (x ∷ xs) = (λ i. p x && q x && all_and p q xs i) ∙ shuffled (p x) (q x) (list_all p xs) (list_all q xs)

-- a test of rows is one of what they are the rows of
pub moved : {A B : Type 0} (row : A → B) (xs : List A) (ys : List B) → map row xs ≡ ys
    → (p : A → Bool) (q : B → Bool) → ((x : A) → p x ≡ q (row x)) → list_all p xs ≡ list_all q ys
moved row xs ys e p q h = all_congr p (λ x. q (row x)) h xs ∙ sym (all-map q row xs) ∙ ap (list_all q) e

pub different_congr : {X : Type 0} (s t : X → X → Bool) → ((x y : X) → s x y ≡ t x y) → (xs : List X) → are_different s xs ≡ are_different t xs
different_congr s t h [] = refl
different_congr s t h (x ∷ xs) = λ i. not (any_congr (s x) (t x) (h x) xs i) && different_congr s t h xs i

pub le_from : (m n : ℕ) → nat_le m n ≡ true → m ≤ n
le_from m n h = grind (arith, nat_tests)

pub le_to : (m n : ℕ) → m ≤ n → nat_le m n ≡ true
le_to m n h = grind (arith, nat_tests)

pub alone : (b : Bool) → b ≡ true → (b && true) ≡ true
alone true h = refl
alone false h = absurd (true≢false (sym h))

-- ---- numbers that count

pub counted_is : (k : ℕ) (ns : List ℕ) → counts_from k ns ≡ true → IsCounted k ns
counted_is k [] h = tt
counted_is k (n ∷ ns) h = let parts = both (n == k) (counts_from (k + 1) ns) h in (same_if n k parts.0, counted_is (k + 1) ns parts.1)

pub is_counted : (k : ℕ) (ns : List ℕ) → IsCounted k ns → counts_from k ns ≡ true
is_counted k [] h = refl
is_counted k (n ∷ ns) h = let first = equal_test n k h.0 in let rest = is_counted (k + 1) ns h.1 in (λ i. first i && rest i)

-- ---- each at its place, from place k on

abbrev pub all_from : {A : Type 0} → (ℕ → A → Bool) → ℕ → List A → Bool
all_from P k [] = true
all_from P k (x ∷ xs) = P k x && all_from P (k + 1) xs

module _ {A : Type 0} (P : ℕ → A → Bool) where
  first_place : (n m k : ℕ) → (n == 1) ≡ true → m + 1 ≡ n + k → k ≡ m
  first_place n m k h e = let one : n ≡ 1 = grind (arith, nat_tests) in omega (arith, e, one)

  later_place : (n : ℕ) → (n == 1) ≡ false → 1 ≤ n → 1 ≤ n - 1
  later_place n h low = grind (arith, nat_tests)

  pub all_from_at : (k : ℕ) (xs : List A) → all_from P k xs ≡ true → (n m : ℕ) → m + 1 ≡ n + k → 1 ≤ n → list_all (P m) (at n xs) ≡ true
  all_from_at k [] h n m e low = refl
  all_from_at k (x ∷ xs) h n m e low =
      let parts = both (P k x) (all_from P (k + 1) xs) h in
      go (n == 1) refl parts.0 (λ q. all_from_at (k + 1) xs parts.1 (n - 1) m (let low2 = q in omega (arith, e, low2)) q)
    where
      go : (t : Bool) → (n == 1) ≡ t → P k x ≡ true → (1 ≤ n - 1 → list_all (P m) (at (n - 1) xs) ≡ true)
          → list_all (P m) (cond t (x ∷ []) (at (n - 1) xs)) ≡ true
      go true t here more = alone (P m x) (subst (λ j. P j x ≡ true) (first_place n m k t e) here)
      go false t here more = more (later_place n t low)

  not_first : (n : ℕ) → 1 ≤ n → ((n + 1) == 1) ≡ false
  not_first n h = grind (arith, nat_tests)

  less_one : (n : ℕ) → n + 1 - 1 ≡ n
  less_one n = omega arith

  pub at_all_from : (k : ℕ) (xs : List A) → ((n m : ℕ) → m + 1 ≡ n + k → 1 ≤ n → list_all (P m) (at n xs) ≡ true) → all_from P k xs ≡ true
  at_all_from k [] h = refl
  at_all_from k (x ∷ xs) h =
      let here = (both (P k x) true (h 1 k (omega arith) (omega arith))).0 in
      let rest = at_all_from (k + 1) xs (λ n m e low. next n m (h (n + 1) m (omega (arith, e)) (omega arith)) low) in
      (λ i. here i && rest i)
    where
      next : (n m : ℕ) → list_all (P m) (at (n + 1) (x ∷ xs)) ≡ true → 1 ≤ n → list_all (P m) (at n xs) ≡ true
      next n m it low =
          subst (λ j. list_all (P m) (at j xs) ≡ true) (less_one n)
          (subst (λ t. list_all (P m) (cond t (x ∷ []) (at (n + 1 - 1) xs)) ≡ true) (not_first n low) it)
