-- Rows of a branch, in the order of their numbers and by their numbers.
use Rattle.shop_schema.proofs.Common.{◌≡◌, ◌<◌, ◌==◌, ◌+◌, ◌-◌, ℕ, List, [], ◌∷◌, ◌++◌, length, false, ap, refl, ◌∙◌, arith, is_eq, is_lt, inl, inr}
use Rattle.shop_schema.proofs.Common.{AllByRecursion, nat_cmp, cases_Bool, nat_tests, Row, at, is_of, of, differ_test, IsRow}

pub not_equal : (m n : ℕ) → m < n → is_eq (nat_cmp m n) ≡ false
not_equal m n h = grind (arith, nat_tests)

pub not_less : (m n : ℕ) → m < n → is_lt (nat_cmp n m) ≡ false
not_less m n h = grind (arith, nat_tests)

pub at_behind : {A : Type 0} (before after : List A) (x : A) → at (length before + 1) (before ++ x ∷ after) ≡ x ∷ []
at_behind [] after x = refl
at_behind (first ∷ before) after x =
    let later : (length (first ∷ before) + 1 == 1) ≡ false = differ_test (length (first ∷ before) + 1) 1 (omega arith) in
    let less : length (first ∷ before) + 1 - 1 ≡ length before + 1 = omega arith in
    rw later (ap (λ (n : ℕ). at n (before ++ x ∷ after)) less ∙ at_behind before after x)

-- what holds of all rows holds of a branch's
pub all_of : {A : Type 0} (P : A → Type 0) (b : ℕ) (rows : List (Row A)) → AllByRecursion (IsRow P) rows → AllByRecursion P (of b rows)
all_of P b [] all = tt
all_of P b (row ∷ rows) all = elim (cases_Bool (is_of b row)) [
  | inl ours ↦ rw ours (all.0.2, all_of P b rows all.1)
  | inr other ↦ rw other (all_of P b rows all.1)
]

-- and of the row of a number
pub all_at : {A : Type 0} (P : A → Type 0) (n : ℕ) (xs : List A) → AllByRecursion P xs → AllByRecursion P (at n xs)
all_at P n [] all = tt
all_at P n (x ∷ xs) all = elim (cases_Bool (n == 1)) [
  | inl one ↦ rw one (all.0, tt)
  | inr other ↦ rw other (all_at P (n - 1) xs all.1)
]
