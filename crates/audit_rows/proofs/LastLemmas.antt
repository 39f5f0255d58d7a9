-- The last moments of branches, which are in the branches' rows.
use Rattle.shop_types.proofs.Common.{◌≡◌, ◌&&◌, ◌||◌, ◌+◌, ◌-◌, ◌≤◌, ◌<◌, ◌==◌, ◌++◌, ℕ, List, [], ◌∷◌, map, filter, length, not, Bool, true, false, cond, refl}
use Rattle.shop_types.proofs.Common.{sym, ap, ◌∙◌, arith, Option, Some, None, list_any, list_all, nat_tests, Moment, Owned, at, owned_by, are_different, head}
use Rattle.audit_rows.specs.declared.rows.CheckedBranch.{CheckedBranch}
use Rattle.audit_rows.specs.Shops.{is_among}
use Rattle.audit_rows.specs.Ordered.{last_of, lasts_from}

abbrev pub last_in : List CheckedBranch → Option Moment
last_in [] = None
last_in (row ∷ rows) = row.last

pub none_before : (m k : ℕ) → m < k → (xs : List CheckedBranch) → owned_by m (lasts_from k xs) ≡ []
none_before m k h [] = refl
none_before m k h (x ∷ xs) = go x.last (none_before m (k + 1) (omega (arith, h)) xs)
  where
    apart : (k == m) ≡ false
    apart = grind (arith, nat_tests)

    go : (l : Option Moment) → owned_by m (lasts_from (k + 1) xs) ≡ [] → owned_by m (last_of k l ++ lasts_from (k + 1) xs) ≡ []
    go None more = more
    go (Some t) more =
        ap (λ b.
        map (λ (row : Owned Moment). row.it)
        (cond b (record { owner = k; it = t } ∷ filter (λ (row : Owned Moment). row.owner == m) (lasts_from (k + 1) xs))
        (filter (λ (row : Owned Moment). row.owner == m) (lasts_from (k + 1) xs))))
        apart
        ∙ more

pub last_at : (k : ℕ) (xs : List CheckedBranch) (n m : ℕ) → m + 1 ≡ n + k → 1 ≤ n → head (owned_by m (lasts_from k xs)) ≡ last_in (at n xs)
last_at k [] n m e low = refl
last_at k (x ∷ xs) n m e low = go (n == 1) refl x.last refl (λ q. last_at (k + 1) xs (n - 1) m (omega (arith, e, q)) q)
  where
    is_first : (n == 1) ≡ true → k ≡ m
    is_first h = let one : n ≡ 1 = grind (arith, nat_tests) in omega (arith, e, one)

    is_here : (n == 1) ≡ true → (k == m) ≡ true
    is_here h = let same = is_first h in grind (arith, nat_tests)

    is_later : (n == 1) ≡ false → (k == m) ≡ false
    is_later h = grind (arith, nat_tests)

    low_later : (n == 1) ≡ false → 1 ≤ n - 1
    low_later h = grind (arith, nat_tests)

    rest : List (Owned Moment)
    rest = lasts_from (k + 1) xs

    opened : (b : Bool) (t : Moment) → (k == m) ≡ b → owned_by m (last_of k (Some t) ++ lasts_from (k + 1) xs)
        ≡ map (λ (row : Owned Moment). row.it)
        (cond b (record { owner = k; it = t } ∷ filter (λ (row : Owned Moment). row.owner == m) (lasts_from (k + 1) xs))
        (filter (λ (row : Owned Moment). row.owner == m) (lasts_from (k + 1) xs)))
    opened b t h =
        ap (λ b.
        map (λ (row : Owned Moment). row.it)
        (cond b (record { owner = k; it = t } ∷ filter (λ (row : Owned Moment). row.owner == m) (lasts_from (k + 1) xs))
        (filter (λ (row : Owned Moment). row.owner == m) (lasts_from (k + 1) xs))))
        h

    go : (b : Bool) → (n == 1) ≡ b → (l : Option Moment) → x.last ≡ l → (1 ≤ n - 1 → head (owned_by m (lasts_from (k + 1) xs)) ≡ last_in (at (n - 1) xs))
        → head (owned_by m (last_of k x.last ++ lasts_from (k + 1) xs)) ≡ last_in (cond b (x ∷ []) (at (n - 1) xs))
    go true h None f more =
        (λ i. head (owned_by m (last_of k (f i) ++ lasts_from (k + 1) xs)))
        ∙ ap head (none_before m (k + 1) (let same = is_first h in omega (arith, same)) xs) ∙ sym f
    go true h (Some t) f more = (λ i. head (owned_by m (last_of k (f i) ++ lasts_from (k + 1) xs))) ∙ ap head (opened true t (is_here h)) ∙ sym f
    go false h None f more = (λ i. head (owned_by m (last_of k (f i) ++ lasts_from (k + 1) xs))) ∙ more (low_later h)
    go false h (Some t) f more =
        (λ i. head (owned_by m (last_of k (f i) ++ lasts_from (k + 1) xs))) ∙ ap head (opened false t (is_later h)) ∙ more (low_later h)

-- ---- each is of a branch that is there, and of another

pub lasts_owned : (n k : ℕ) → 1 ≤ k → (xs : List CheckedBranch) → k + length xs ≤ n + 1
    → list_all (λ (row : Owned Moment). is_among n row.owner) (lasts_from k xs) ≡ true
lasts_owned n k low [] h = refl
lasts_owned n k low (x ∷ xs) h = go x.last (lasts_owned n (k + 1) (omega arith) xs (omega (arith, h)))
  where
    here : is_among n k ≡ true
    here = among n k low (omega (arith, h))
      where
        among : (n k : ℕ) → 1 ≤ k → k ≤ n → is_among n k ≡ true
        among n k p q = grind (arith, nat_tests)

    go : (l : Option Moment) → list_all (λ (row : Owned Moment). is_among n row.owner) (lasts_from (k + 1) xs) ≡ true
        → list_all (λ (row : Owned Moment). is_among n row.owner) (last_of k l ++ lasts_from (k + 1) xs) ≡ true
    go None more = more
    go (Some t) more = (λ i. here i && more i)

none_again : (m k : ℕ) → m < k → (xs : List CheckedBranch) → list_any (λ (row : Owned Moment). m == row.owner) (lasts_from k xs) ≡ false
none_again m k h [] = refl
none_again m k h (x ∷ xs) = go x.last (none_again m (k + 1) (omega (arith, h)) xs)
  where
    apart : (m == k) ≡ false
    apart = grind (arith, nat_tests)

    go : (l : Option Moment) → list_any (λ (row : Owned Moment). m == row.owner) (lasts_from (k + 1) xs) ≡ false
        → list_any (λ (row : Owned Moment). m == row.owner) (last_of k l ++ lasts_from (k + 1) xs) ≡ false
    go None more = more
    go (Some t) more = (λ i. apart i || more i)

pub lasts_apart : (k : ℕ) (xs : List CheckedBranch) → are_different (λ (earlier later : Owned Moment). earlier.owner == later.owner) (lasts_from k xs) ≡ true
lasts_apart k [] = refl
lasts_apart k (x ∷ xs) = go x.last (lasts_apart (k + 1) xs)
  where
    go : (l : Option Moment) → are_different (λ (earlier later : Owned Moment). earlier.owner == later.owner) (lasts_from (k + 1) xs) ≡ true
        → are_different (λ (earlier later : Owned Moment). earlier.owner == later.owner) (last_of k l ++ lasts_from (k + 1) xs) ≡ true
    go None more = more
    go (Some t) more = (λ i. not (none_again k (k + 1) (omega arith) xs i) && more i)
