-- Rows of one owner among all.
use Rattle.shop_types.proofs.Common.{◌≡◌, ◌&&◌, ◌||◌, ◌-◌, ◌==◌, ◌⊎◌, inl, inr, ℕ, List, [], ◌∷◌, map, filter, not, Bool, true, false, cond, refl, sym, ap}
use Rattle.shop_types.proofs.Common.{subst, ◌∙◌, arith, true≢false, list_any, list_all, bytes_eq, nat_tests, Owned, at, owned_by, are_different}
use Rattle.audit_rows.specs.Shops.{is_among}
use Rattle.audit_rows.proofs.Keys.{both}

-- there is one row of a number, or none
pub at_case : {A : Type 0} (n : ℕ) (xs : List A) → (at n xs ≡ []) ⊎ ((x : A) × (at n xs ≡ x ∷ []))
at_case n [] = inl refl
at_case {A} n (x ∷ xs) = go (n == 1) (at_case (n - 1) xs)
  where
    go : (b : Bool) → (at (n - 1) xs ≡ []) ⊎ ((y : A) × (at (n - 1) xs ≡ y ∷ []))
        → (cond b (x ∷ []) (at (n - 1) xs) ≡ []) ⊎ ((y : A) × (cond b (x ∷ []) (at (n - 1) xs) ≡ y ∷ []))
    go true more = inr (x, refl)
    go false more = more

-- who isn't there has no rows
pub none_owned : {X : Type 0} (owner : X → ℕ) (n b : ℕ) → is_among n b ≡ false → (xs : List X)
    → list_all (λ x. is_among n (owner x)) xs ≡ true → filter (λ x. owner x == b) xs ≡ []
none_owned owner n b h [] all = refl
none_owned owner n b h (x ∷ xs) all =
    let parts = both (is_among n (owner x)) (list_all (λ y. is_among n (owner y)) xs) all in
    go (owner x == b) refl parts.0 (none_owned owner n b h xs parts.1)
  where
    go : (t : Bool) → (owner x == b) ≡ t → is_among n (owner x) ≡ true → filter (λ y. owner y == b) xs ≡ []
        → cond t (x ∷ filter (λ y. owner y == b) xs) (filter (λ y. owner y == b) xs) ≡ []
    go true e q more = let same : owner x ≡ b = grind (arith, nat_tests) in absurd (true≢false (sym q ∙ ap (is_among n) same ∙ h))
    go false e q more = more

pub all_filter : {X : Type 0} (p q : X → Bool) (xs : List X) → list_all p xs ≡ true → list_all p (filter q xs) ≡ true
all_filter p q [] h = refl
all_filter p q (x ∷ xs) h =
    let parts = both (p x) (list_all p xs) h in
    go (q x) parts.0 (all_filter p q xs parts.1)
  where
    go : (t : Bool) → p x ≡ true → list_all p (filter q xs) ≡ true → list_all p (cond t (x ∷ filter q xs) (filter q xs)) ≡ true
    go true here more = (λ i. here i && more i)
    go false here more = more

-- what holds of each owner's rows holds of all
pub all_from_owners : {X : Type 0} (p : X → Bool) (owner : X → ℕ) (xs : List X)
    → ((b : ℕ) → list_all p (filter (λ x. owner x == b) xs) ≡ true) → list_all p xs ≡ true
all_from_owners p owner [] h = refl
all_from_owners p owner (x ∷ xs) h =
    let here =
    first (subst (λ t. list_all p (cond t (x ∷ filter (λ y. owner y == owner x) xs) (filter (λ y. owner y == owner x) xs)) ≡ true)
    (itself (owner x)) (h (owner x))) in
    let rest = all_from_owners p owner xs (λ b. less b (owner x == b) (h b)) in
    (λ i. here i && rest i)
  where
    itself : (n : ℕ) → (n == n) ≡ true
    itself n = grind (arith, nat_tests)

    first : (p x && list_all p (filter (λ y. owner y == owner x) xs)) ≡ true → p x ≡ true
    first it = (both (p x) (list_all p (filter (λ y. owner y == owner x) xs)) it).0

    less : (b : ℕ) (t : Bool) → list_all p (cond t (x ∷ filter (λ y. owner y == b) xs) (filter (λ y. owner y == b) xs)) ≡ true
        → list_all p (filter (λ y. owner y == b) xs) ≡ true
    less b true it = (both (p x) (list_all p (filter (λ y. owner y == b) xs)) it).1
    less b false it = it

-- if texts with their owners are different, each owner's texts are different
module _ {A : Type 0} (text : A → List ℕ) (b : ℕ) where
  any_own : (t : List ℕ) (xs : List (Owned A))
      → list_any (λ y. bytes_eq t (text y)) (owned_by b xs) ≡ list_any (λ (y : Owned A). b == y.owner && bytes_eq t (text y.it)) xs
  any_own t [] = refl
  any_own t (x ∷ xs) = go (x.owner == b) (b == x.owner) refl refl (any_own t xs)
    where
      differ : (m n : ℕ) → (m == n) ≡ true → (n == m) ≡ false → true ≡ false
      differ m n p q = grind (arith, nat_tests)

      go : (s u : Bool) → (x.owner == b) ≡ s → (b == x.owner) ≡ u
          → list_any (λ y. bytes_eq t (text y)) (owned_by b xs) ≡ list_any (λ (y : Owned A). b == y.owner && bytes_eq t (text y.it)) xs
          → list_any (λ y. bytes_eq t (text y))
          (map (λ (row : Owned A). row.it) (cond s (x ∷ filter (λ (row : Owned A). row.owner == b) xs) (filter (λ (row : Owned A). row.owner == b) xs)))
          ≡ ((u && bytes_eq t (text x.it)) || list_any (λ (y : Owned A). b == y.owner && bytes_eq t (text y.it)) xs)
      go true true e f more = ap (λ r. bytes_eq t (text x.it) || r) more
      go false false e f more = more
      go true false e f more = absurd (true≢false (differ x.owner b e f))
      go false true e f more = absurd (true≢false (differ b x.owner f e))

  pub own_different : (xs : List (Owned A)) → are_different (λ (x y : Owned A). bytes_eq (x.owner ∷ text x.it) (y.owner ∷ text y.it)) xs ≡ true
      → are_different (λ x y. bytes_eq (text x) (text y)) (owned_by b xs) ≡ true
  own_different [] h = refl
  own_different (x ∷ xs) h =
      let parts =
      both (not (list_any (λ (y : Owned A). bytes_eq (x.owner ∷ text x.it) (y.owner ∷ text y.it)) xs))
      (are_different (λ (x y : Owned A). bytes_eq (x.owner ∷ text x.it) (y.owner ∷ text y.it)) xs) h in
      go (x.owner == b) refl parts.0 (own_different xs parts.1)
    where
      go : (s : Bool) → (x.owner == b) ≡ s → not (list_any (λ (y : Owned A). x.owner == y.owner && bytes_eq (text x.it) (text y.it)) xs) ≡ true
          → are_different (λ x y. bytes_eq (text x) (text y)) (owned_by b xs) ≡ true
          → are_different (λ x y. bytes_eq (text x) (text y))
          (map (λ (row : Owned A). row.it) (cond s (x ∷ filter (λ (row : Owned A). row.owner == b) xs) (filter (λ (row : Owned A). row.owner == b) xs)))
          ≡ true
      go false e none more = more
      go true e none more =
          let same : x.owner ≡ b = grind (arith, nat_tests) in
          let here =
          ap not (any_own (text x.it) xs)
          ∙ subst (λ n. not (list_any (λ (y : Owned A). n == y.owner && bytes_eq (text x.it) (text y.it)) xs) ≡ true) same none in
          (λ i. here i && more i)
