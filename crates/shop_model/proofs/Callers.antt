-- Whoever is found by a token is a caller whom the catalogue knows.
use Rattle.shop_model.proofs.Common.{◌≡◌, inl, inr, ℕ, ◌+◌, ◌-◌, List, [], ◌∷◌, false, None, Some, refl, ap, ◌∙◌, arith, add-zero, ◌==◌, bytes_eq, cases_Bool}
use Rattle.shop_model.proofs.Common.{nat_tests, at, is_empty, Text, Branch, Catalogue, Caller, Counter, Nobody, branch_with, caller_of, known_caller}
use Rattle.std.specs.Prelude.{◌⊎◌, Option}

-- nobody, or a branch whose row is there
IsFound : Caller → ℕ → List Branch → Type 0
IsFound caller n branches = (caller ≡ Nobody) ⊎ ((j : ℕ) × (caller ≡ Counter (n + j)) × (is_empty (at (j + 1) branches) ≡ false))

found : (token : Text) (n : ℕ) (branches : List Branch) → IsFound (branch_with token n branches) n branches
unfolding IsFound
found token n [] = inl refl
found token n (branch ∷ branches) = elim (cases_Bool (bytes_eq branch.token token)) [
  | inl is ↦ inr (0, rw (is, add-zero) refl, refl)
  | inr isnt ↦ elim (found token (n + 1) branches) [
    | inl none ↦ inl (rw isnt none)
    | inr some ↦
        let j = some.0 in
        let number : n + 1 + j ≡ n + (j + 1) = omega arith in
        let past : (j + 1 + 1 == 1) ≡ false = grind (arith, nat_tests) in
        let before : j + 1 + 1 - 1 ≡ j + 1 = omega arith in
        inr (j + 1, rw isnt (some.1 ∙ ap (λ (b : ℕ). Counter b) number), rw (past, before) some.2)
  ]
]

known_found : (catalogue : Catalogue) (caller : Caller) → IsFound caller 1 catalogue.branches → known_caller catalogue caller ≡ caller
unfolding IsFound
known_found catalogue caller (inl none) = rw none refl
known_found catalogue caller (inr some) =
    let j = some.0 in
    let number : 1 + j ≡ j + 1 = omega arith in
    let is : caller ≡ Counter (j + 1) = some.1 ∙ ap (λ (b : ℕ). Counter b) number in
    rw (is, some.2) refl

pub known_same : (token : Option Text) (catalogue : Catalogue) → known_caller catalogue (caller_of token catalogue) ≡ caller_of token catalogue
known_same None catalogue = refl
known_same (Some token) catalogue = elim (cases_Bool (bytes_eq token catalogue.office_token)) [
  | inl is ↦ rw is refl
  | inr isnt ↦ rw isnt (known_found catalogue (branch_with token 1 catalogue.branches) (found token 1 catalogue.branches))
]
