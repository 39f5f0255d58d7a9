-- Whether a table's rows are these, in any order, can be decided, so it is known where it is known only in some case.
use Rattle.sql_rows.proofs.Common.{◌≡◌, ◌⊎◌, ◌∙◌, ◌+◌, ℕ, List, [], ◌∷◌, refl, sym, ap, subst, inl, inr, arith, IsPermutation, sum_by, ∥∥₁_elim, ∥∥₁_map}
use Rattle.sql_rows.proofs.Common.{cases_eq, IsPermutation-refl, IsPermutation-sym, IsPermutation-trans, IsPermutation-cons, IsPermutation-middle}
use Rattle.sql_rows.proofs.Common.{sum_by-IsPermutation, length_permutation, Row}
use mathlib.Core.HLevel.{⊥_prop}
use Rattle.std.proofs.lemmas.List.Sums.{sum_by-cons}
use base.Stored.{Gv, gnil, gnum, gcons}
use Rattle.sqlite_value.specs.contracts.row.Row as row

abbrev pub Decided : Type 0 → Type 0
Decided A = A ⊎ (¬ A)

-- ---- bags of values whose equality is decidable

module _ {X : Type 0} (same : (x y : X) → Decided (x ≡ y)) where
  abbrev one_if : {A : Type 0} → Decided A → ℕ
  one_if (inl it) = 1
  one_if (inr apart) = 0

  -- how often x is among them
  abbrev count : X → List X → ℕ
  count x ys = sum_by (λ y. one_if (same x y)) ys

  own_counts : (x : X) → (d : Decided (x ≡ x)) → one_if d ≡ 1
  own_counts x (inl it) = refl
  own_counts x (inr apart) = absurd (apart refl)

  counts_own : (x : X) (xs : List X) → count x (x ∷ xs) ≡ 1 + count x xs
  counts_own x xs = sum_by-cons (λ y. one_if (same x y)) x xs ∙ ap (λ n. n + count x xs) (own_counts x (same x x))

  counts_more : (x y : X) (xs : List X) → count x (y ∷ xs) ≡ one_if (same x y) + count x xs
  counts_more x y xs = sum_by-cons (λ z. one_if (same x z)) y xs

  counts_alike : (xs ys : List X) → IsPermutation xs ys → (x : X) → count x xs ≡ count x ys
  counts_alike xs ys h x = sym (sum_by-IsPermutation (λ y. one_if (same x y)) xs ys h)

  abbrev Picked : X → List X → Type 0
  Picked x ys = ((zs : List X) × IsPermutation ys (x ∷ zs)) ⊎ (count x ys ≡ 0)

  -- taken out, where it is among them
  pick : (x : X) (ys : List X) → Picked x ys
  pick x [] = inr refl
  pick x (y ∷ ys) = go (same x y) refl (pick x ys)
    where
      go : (d : Decided (x ≡ y)) → same x y ≡ d → Picked x ys → Picked x (y ∷ ys)
      go (inl it) is more = inl (ys, subst (λ v. IsPermutation (y ∷ ys) (v ∷ ys)) (sym it) (IsPermutation-refl _))
      go (inr apart) is (inl found) = inl (y ∷ found.0, IsPermutation-trans _ _ _ (IsPermutation-cons y _ _ found.1) (IsPermutation-middle (y ∷ []) x found.0))
      go (inr apart) is (inr none) = let not_it : one_if (same x y) ≡ 0 = ap one_if is in inr (omega (arith, not_it, counts_more x y ys, none))

  -- lists in which each comes as often are one bag
  from_counts : (xs ys : List X) → ((x : X) → count x xs ≡ count x ys) → IsPermutation xs ys
  from_counts [] [] h = IsPermutation-refl []
  from_counts [] (y ∷ ys) h = absurd (omega (arith, h y, counts_own y ys))
  from_counts (x ∷ xs) ys h = go (pick x ys) (from_counts xs)
    where
      go : Picked x ys → ((zs : List X) → ((z : X) → count z xs ≡ count z zs) → IsPermutation xs zs) → IsPermutation (x ∷ xs) ys
      go (inl found) rest =
          IsPermutation-trans _ _ _
          (IsPermutation-cons x _ _ (rest found.0 (λ z. omega (arith, h z, counts_alike _ _ found.1 z, counts_more z x xs, counts_more z x found.0))))
          (IsPermutation-sym _ _ found.1)
      go (inr none) rest = absurd (omega (arith, h x, none, counts_own x xs))

  pub one_bag : (xs ys : List X) → Decided (IsPermutation xs ys)
  one_bag [] [] = inl (IsPermutation-refl [])
  one_bag [] (y ∷ ys) = inr (λ h. omega (arith, length_permutation _ _ h))
  one_bag (x ∷ xs) ys = go (pick x ys) (one_bag xs)
    where
      go : Picked x ys → ((zs : List X) → Decided (IsPermutation xs zs)) → Decided (IsPermutation (x ∷ xs) ys)
      go (inl found) rest = with (rest found.0)
        where
          with : Decided (IsPermutation xs found.0) → Decided (IsPermutation (x ∷ xs) ys)
          with (inl it) = inl (IsPermutation-trans _ _ _ (IsPermutation-cons x _ _ it) (IsPermutation-sym _ _ found.1))
          with (inr apart) =
              inr (λ h.
              apart
              (from_counts xs found.0 (λ z. omega (arith, counts_alike _ _ h z, counts_alike _ _ found.1 z, counts_more z x xs, counts_more z x found.0))))
      go (inr none) rest = inr (λ h. omega (arith, counts_alike _ _ h x, none, counts_own x xs))

-- ---- rows

same_code : (a b : Gv) → Decided (a ≡ b)
same_code gnil gnil = inl refl
same_code gnil (gnum n) = inr (λ e. cc)
same_code gnil (gcons c d) = inr (λ e. cc)
same_code (gnum m) gnil = inr (λ e. cc)
same_code (gnum m) (gnum n) = elim (cases_eq m n) [ inl it ↦ inl (ap gnum it) | inr apart ↦ inr (λ e. apart cc) ]
same_code (gnum m) (gcons c d) = inr (λ e. cc)
same_code (gcons a b) gnil = inr (λ e. cc)
same_code (gcons a b) (gnum n) = inr (λ e. cc)
same_code (gcons a b) (gcons c d) = both (same_code a c) (same_code b d)
  where
    both : Decided (a ≡ c) → Decided (b ≡ d) → Decided (gcons a b ≡ gcons c d)
    both (inl first) (inl second) = inl (λ i. gcons (first i) (second i))
    both (inl first) (inr apart) = inr (λ e. apart cc)
    both (inr apart) second = inr (λ e. apart cc)

pub same_row : (a b : Row) → Decided (a ≡ b)
same_row a b = elim (same_code (row.the_row.coded.code a) (row.the_row.coded.code b)) [
  | inl it ↦ inl (row.the_row.coded.inj a b it)
  | inr apart ↦ inr (λ e. apart (ap row.the_row.coded.code e))
]

-- ---- what is known in some case

pub decided : {A : Type 0} → Decided A → ∥ A ∥₁ → A
decided (inl it) some = it
decided (inr apart) some = absurd (∥∥₁_elim some ⊥_prop apart)

-- a table's rows, which are known in some case
pub in_any : {A : Type 0} (xs ys : List Row) → (A → IsPermutation xs ys) → ∥ A ∥₁ → IsPermutation xs ys
in_any xs ys f some = decided (one_bag same_row xs ys) (∥∥₁_map some f)
