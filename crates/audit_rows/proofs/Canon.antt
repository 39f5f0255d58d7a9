-- Rows in the order of their keys agree, branch by branch, with any numbered books that have the same rows.
use Rattle.shop_types.proofs.Common.{◌≡◌, ◌+◌, ◌<◌, ◌==◌, ℕ, zero, suc, List, [], ◌∷◌, map, filter, Bool, true, false, cond, refl, ap, subst, arith}
use Rattle.shop_types.proofs.Common.{IsPermutation, IsSorted, Ordering, Less, is_lt, add-one, nat_cmp, IsTotalOrder, AllByRecursion, nat_cmp_total, on_total}
use Rattle.shop_types.proofs.Common.{nat_tests, Row, is_of, of, IsCounted, AreNumbered}
use Rattle.sqlite_trees.specs.Tree.{IsAscending}
use Rattle.sqlite_keyed.proofs.ListLemmas.{ascending-filter, IsPermutation-filter}
use Rattle.sqlite_keyed.proofs.SortLemmas.{sorted_unique}
use Rattle.audit_rows.specs.Lists.{Key, is_below, climbs, climbs_above}
use Rattle.audit_rows.specs.Canons.{row_key}
use Rattle.audit_rows.proofs.Keys.{both, below_trans}

-- ---- keys that climb are in order, each with each

pub above_all : (low : Key) (ks : List Key) → climbs_above low ks ≡ true → AllByRecursion (λ k. is_below low k ≡ true) ks
above_all low [] h = tt
above_all low (k ∷ ks) h =
    let parts = both (is_below low k) (climbs_above k ks) h in
    (parts.0, lower ks (above_all k ks parts.1))
  where
    lower : (js : List Key) → AllByRecursion (λ j. is_below k j ≡ true) js → AllByRecursion (λ j. is_below low j ≡ true) js
    lower [] all = tt
    lower (j ∷ js) all = (below_trans low k j (both (is_below low k) (climbs_above k ks) h).0 all.0, lower js all.1)

module _ {X : Type 0} (key : X → Key) where
  unmapped_all : (low : Key) (xs : List X) → AllByRecursion (λ k. is_below low k ≡ true) (map key xs) → AllByRecursion (λ x. is_below low (key x) ≡ true) xs
  unmapped_all low [] h = tt
  unmapped_all low (x ∷ xs) h = (h.0, unmapped_all low xs h.1)

  pub later : (low : Key) (ks : List Key) → climbs_above low ks ≡ true → climbs ks ≡ true
  later low [] h = refl
  later low (k ∷ ks) h = (both (is_below low k) (climbs_above k ks) h).1

  pub ascending_from_climbs : (xs : List X) → climbs (map key xs) ≡ true → IsAscending (λ a b. is_below (key a) (key b) ≡ true) xs
  ascending_from_climbs [] h = tt
  ascending_from_climbs (x ∷ xs) h = (unmapped_all (key x) xs (above_all (key x) (map key xs) h), ascending_from_climbs xs (later (key x) (map key xs) h))

-- ---- one branch's rows

module _ {X : Type 0} (number : X → ℕ) where
  abbrev by_number : X → X → Ordering
  by_number a b = nat_cmp (number a) (number b)

  by_number_total : IsTotalOrder by_number
  by_number_total = on_total number nat_cmp_total

  pub counted_above : (k : ℕ) (xs : List X) (n : ℕ) → n < k → IsCounted k (map number xs) → AllByRecursion (λ x. n < number x) xs
  counted_above k [] n low c = tt
  counted_above k (x ∷ xs) n low c = (omega (arith, c.0), counted_above (k + 1) xs n (omega arith) c.1)

  less : (a b : X) → number a < number b → by_number a b ≡ Less
  less a b h = grind (arith, nat_tests)

  not_less : (a b : X) → number a < number b → is_lt (by_number b a) ≡ false
  not_less a b h = grind (arith, nat_tests)

  pub all_less : (x : X) (xs : List X) → AllByRecursion (λ y. number x < number y) xs → AllByRecursion (λ y. by_number x y ≡ Less) xs
  all_less x [] h = tt
  all_less x (y ∷ xs) h = (less x y h.0, all_less x xs h.1)

  pub counted_ascends : (k : ℕ) (xs : List X) → IsCounted k (map number xs) → IsAscending (λ a b. by_number a b ≡ Less) xs
  counted_ascends k [] c = tt
  counted_ascends k (x ∷ xs) c = (all_less x xs (counted_above (k + 1) xs (number x) (omega (arith, c.0)) c.1), counted_ascends (k + 1) xs c.1)

  pub sorted_from_rising : (xs : List X) → IsAscending (λ a b. number a < number b) xs → IsSorted by_number xs
  sorted_from_rising [] up k d p q = absurd (omega arith)
  sorted_from_rising (x ∷ []) up k d p q = absurd (omega arith)
  sorted_from_rising (x ∷ y ∷ xs) up zero d p q = not_less x y up.0.0
  sorted_from_rising (x ∷ y ∷ xs) up (suc k) d p q = rw add-one (rw add-one at (sorted_from_rising (y ∷ xs) up.1 k d (omega arith) (omega arith)))

  -- rows whose numbers count are in the only order in which their numbers rise
  pub one_rising : (xs ys : List X) → IsPermutation ys xs → IsCounted 1 (map number ys) → IsAscending (λ a b. number a < number b) xs → xs ≡ ys
  one_rising xs ys h c up = sorted_unique by_number by_number_total ys xs (counted_ascends 1 ys c) h (sorted_from_rising xs up)

then_less : (b m n : ℕ) → is_below (b ∷ m ∷ []) (b ∷ n ∷ []) ≡ true → m < n
then_less b m n h = grind (arith, nat_tests)

module _ {A : Type 0} (b : ℕ) where
  within : (r s : Row A) → (r.branch == b) ≡ true → (s.branch == b) ≡ true → is_below (row_key r) (row_key s) ≡ true → r.number < s.number
  within r s p q h =
      let first : r.branch ≡ b = grind (arith, nat_tests) in
      let second : s.branch ≡ b = grind (arith, nat_tests) in
      then_less b r.number s.number
      (subst (λ m. is_below (m ∷ r.number ∷ []) (b ∷ s.number ∷ []) ≡ true) first (subst (λ m. is_below (row_key r) (m ∷ s.number ∷ []) ≡ true) second h))

  passes : (rows : List (Row A)) → AllByRecursion (λ r. (r.branch == b) ≡ true) (filter (is_of b) rows)
  passes [] = tt
  passes (r ∷ rows) = go (r.branch == b) refl (passes rows)
    where
      go : (t : Bool) → (r.branch == b) ≡ t → AllByRecursion (λ s. (s.branch == b) ≡ true) (filter (is_of b) rows)
          → AllByRecursion (λ s. (s.branch == b) ≡ true) (cond t (r ∷ filter (is_of b) rows) (filter (is_of b) rows))
      go true e more = (e, more)
      go false e more = more

  all_within : (r : Row A) (rows : List (Row A)) → (r.branch == b) ≡ true → AllByRecursion (λ s. (s.branch == b) ≡ true) rows
      → AllByRecursion (λ s. is_below (row_key r) (row_key s) ≡ true) rows → AllByRecursion (λ s. r.number < s.number) rows
  all_within r [] p q h = tt
  all_within r (s ∷ rows) p q h = (within r s p q.0 h.0, all_within r rows p q.1 h.1)

  rise_within : (rows : List (Row A)) → AllByRecursion (λ s. (s.branch == b) ≡ true) rows
      → IsAscending (λ r s. is_below (row_key r) (row_key s) ≡ true) rows → IsAscending (λ r s. r.number < s.number) rows
  rise_within [] q h = tt
  rise_within (r ∷ rows) q h = (all_within r rows q.0 q.1 h.0, rise_within rows q.1 h.1)

  -- if xs is in the order of its keys and ys is the same rows, numbered, branch b has the same rows in both
  pub same_branch : (xs ys : List (Row A)) → climbs (map row_key xs) ≡ true → IsPermutation ys xs
      → AreNumbered (is_of b) (λ row. row.number) ys → filter (is_of b) xs ≡ filter (is_of b) ys
  same_branch xs ys up h c =
      one_rising (λ (row : Row A). row.number) (filter (is_of b) xs) (filter (is_of b) ys) (IsPermutation-filter (is_of b) ys xs h) c
      (rise_within (filter (is_of b) xs) (passes xs) (ascending-filter _ (is_of b) xs (ascending_from_climbs row_key xs up)))

  pub same_items : (xs ys : List (Row A)) → climbs (map row_key xs) ≡ true
      → IsPermutation ys xs → AreNumbered (is_of b) (λ row. row.number) ys → of b xs ≡ of b ys
  same_items xs ys up h c = ap (map (λ (row : Row A). row.it)) (same_branch xs ys up h c)
