-- What the row of a number tells, where there is one.
use Rattle.std.proofs.lemmas.Option.{none-some}
use Rattle.shop_model.proofs.Common.{◌≡◌, ◌⊎◌, refl, sym, inl, inr, ℕ, ◌-◌, List, [], ◌∷◌, map, Option, Some, None, ◌==◌, cases_Bool, at, head}

-- there is one row of a number at most
pub at_one : {A : Type 0} (n : ℕ) (rows : List A) → (at n rows ≡ []) ⊎ ((x : A) × (at n rows ≡ x ∷ []))
at_one n [] = inl refl
at_one n (x ∷ rows) = elim (cases_Bool (n == 1)) [
  | inl here ↦ inr (x, rw here refl)
  | inr further ↦ elim (at_one (n - 1) rows) [ inl none ↦ inl (rw further none) | inr one ↦ inr (one.0, rw further one.1) ]
]

-- what a search finds of a row shows whether the row is there, and what it has
pub found_none : {A B : Type 0} (f : A → B) (n : ℕ) (rows : List A) → None ≡ head (map f (at n rows)) → at n rows ≡ []
found_none f n rows is = elim (at_one n rows) [
  | inl none ↦ none
  | inr one ↦ absurd (none-some (f one.0) (rw one.1 at is))
]

pub found_some : {A B : Type 0} (f : A → B) (n : ℕ) (rows : List A) (b : B) → Some b ≡ head (map f (at n rows)) → (x : A) × (at n rows ≡ x ∷ []) × (f x ≡ b)
found_some f n rows b is = elim (at_one n rows) [
  | inl none ↦ absurd (none-some b (sym (rw none at is)))
  | inr one ↦ (one.0, one.1, sym (inside (rw one.1 at is)))
]
  where
    inside : {C : Type 0} {x y : C} → ◌≡◌ {A = Option C} (Some x) (Some y) → x ≡ y
    inside e = cc
