-- Lists in which no two values have the same text.
use Rattle.shop_schema.proofs.Common.{◌≡◌, ◌≤◌, ◌||◌, ℕ, List, [], ◌∷◌, filter, length, not, Bool, true, false, cond, refl, sym, ap, subst, ◌∙◌, arith}
use Rattle.shop_schema.proofs.Common.{true≢false, list_any, bytes_eq, bytes_eq-Decides, and_parts, are_different}

turned : (s t : List ℕ) → bytes_eq s t ≡ false → bytes_eq t s ≡ false
turned s t h = go (bytes_eq t s) refl
  where
    go : (b : Bool) → bytes_eq t s ≡ b → bytes_eq t s ≡ false
    go true e = absurd (true≢false (sym ((bytes_eq-Decides s t).1 (sym ((bytes_eq-Decides t s).0 e))) ∙ h))
    go false e = e

pub bytes_eq_turned : (s t : List ℕ) → bytes_eq s t ≡ bytes_eq t s
bytes_eq_turned s t = go (bytes_eq s t) refl
  where
    go : (b : Bool) → bytes_eq s t ≡ b → bytes_eq s t ≡ bytes_eq t s
    go true e = e ∙ sym ((bytes_eq-Decides t s).1 (sym ((bytes_eq-Decides s t).0 e)))
    go false e = e ∙ sym (turned s t e)

neither : (a b : Bool) → not (a || b) ≡ true → (a ≡ false) × (not b ≡ true)
neither true b h = cc
neither false b h = (refl, h)

module _ {X : Type 0} (text : X → List ℕ) where
  none_with : (t : List ℕ) (xs : List X) → not (list_any (λ y. bytes_eq t (text y)) xs) ≡ true → filter (λ y. bytes_eq (text y) t) xs ≡ []
  none_with t [] h = refl
  none_with t (x ∷ xs) h =
      let parts = neither (bytes_eq t (text x)) (list_any (λ y. bytes_eq t (text y)) xs) h in
      ap (λ b. cond b (x ∷ filter (λ y. bytes_eq (text y) t) xs) (filter (λ y. bytes_eq (text y) t) xs)) (turned t (text x) parts.0) ∙ none_with t xs parts.1

  -- at most one value has the text
  pub different_once : (t : List ℕ) (xs : List X) → are_different (λ a b. bytes_eq (text a) (text b)) xs ≡ true
      → length (filter (λ x. bytes_eq (text x) t) xs) ≤ 1
  different_once t [] h = omega arith
  different_once t (x ∷ xs) h =
      let parts = and_parts (not (list_any (λ y. bytes_eq (text x) (text y)) xs)) (are_different (λ a b. bytes_eq (text a) (text b)) xs) h in
      go (bytes_eq (text x) t) refl parts.0 (different_once t xs parts.1)
    where
      go : (b : Bool) → bytes_eq (text x) t ≡ b → not (list_any (λ y. bytes_eq (text x) (text y)) xs) ≡ true → length (filter (λ y. bytes_eq (text y) t) xs) ≤ 1
          → length (cond b (x ∷ filter (λ y. bytes_eq (text y) t) xs) (filter (λ y. bytes_eq (text y) t) xs)) ≤ 1
      go true is apart few =
          let same : text x ≡ t = (bytes_eq-Decides (text x) t).0 is in
          let none : filter (λ y. bytes_eq (text y) t) xs ≡ [] = subst (λ s. filter (λ y. bytes_eq (text y) s) xs ≡ []) same (none_with (text x) xs apart) in
          subst (λ (ys : List X). length (x ∷ ys) ≤ 1) (sym none) (omega arith)
      go false is apart few = few
