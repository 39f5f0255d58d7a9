-- A shared row by its number, which is its place.
use Rattle.shop_schema.proofs.Common.{◌≡◌, ◌≤◌, ◌<◌, ◌+◌, ◌-◌, ◌==◌, ℕ, List, [], ◌∷◌, map, filter, Bool, true, false, cond, refl, ap, ◌∙◌, arith, nat_tests}
use Rattle.shop_schema.proofs.Common.{at, numbered, numbered_from}

module _ {A : Type 0} where
  -- no later row has the number
  none_after : (k n : ℕ) → n < k → (xs : List A) → filter (λ (it : ℕ × A). it.0 == n) (numbered_from k xs) ≡ []
  none_after k n low [] = refl
  none_after k n low (x ∷ xs) =
      ap (λ b. cond b ((k, x) ∷ filter (λ (it : ℕ × A). it.0 == n) (numbered_from (k + 1) xs)) (filter (λ (it : ℕ × A). it.0 == n) (numbered_from (k + 1) xs)))
      apart
      ∙ none_after (k + 1) n (omega arith) xs
    where
      apart : (k == n) ≡ false
      apart = grind (arith, nat_tests)

  picked_from : (k m : ℕ) → 1 ≤ m → (xs : List A) (n : ℕ) → n + 1 ≡ k + m
      → filter (λ (it : ℕ × A). it.0 == n) (numbered_from k xs) ≡ map (λ x. (n, x)) (at m xs)
  picked_from k m low [] n is = refl
  picked_from k m low (x ∷ xs) n is = go (m == 1) refl (λ later. picked_from (k + 1) (m - 1) (omega arith) xs n (omega arith))
    where
      go : (b : Bool) → (m == 1) ≡ b → (2 ≤ m → filter (λ (it : ℕ × A). it.0 == n) (numbered_from (k + 1) xs) ≡ map (λ y. (n, y)) (at (m - 1) xs))
          → cond (k == n) ((k, x) ∷ filter (λ (it : ℕ × A). it.0 == n) (numbered_from (k + 1) xs))
          (filter (λ (it : ℕ × A). it.0 == n) (numbered_from (k + 1) xs))
          ≡ map (λ y. (n, y)) (cond b (x ∷ []) (at (m - 1) xs))
      go true one more =
          let first : m ≡ 1 = grind (arith, nat_tests) in
          let same : k ≡ n = omega arith in
          let tested : (k == n) ≡ true = grind (arith, nat_tests) in
          ap
          (λ b. cond b ((k, x) ∷ filter (λ (it : ℕ × A). it.0 == n) (numbered_from (k + 1) xs)) (filter (λ (it : ℕ × A). it.0 == n) (numbered_from (k + 1) xs)))
          tested
          ∙ (λ i. (same i, x) ∷ none_after (k + 1) n (omega arith) xs i)
      go false other more =
          let later : 2 ≤ m = grind (arith, nat_tests) in
          let tested : (k == n) ≡ false = grind (arith, nat_tests) in
          ap (λ b.
          cond b ((k, x) ∷ filter (λ (it : ℕ × A). it.0 == n) (numbered_from (k + 1) xs))
          (filter (λ (it : ℕ × A). it.0 == n) (numbered_from (k + 1) xs)))
          tested
          ∙ more later

  -- the rows of a number are those at that place
  pub picked : (n : ℕ) → 1 ≤ n → (xs : List A) → filter (λ (it : ℕ × A). it.0 == n) (numbered xs) ≡ map (λ x. (n, x)) (at n xs)
  picked n low xs = picked_from 1 n low xs n (omega arith)
