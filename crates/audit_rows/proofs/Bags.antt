-- Two lists of keys in order are equal if each key occurs equally often in both.
use Rattle.shop_types.proofs.Common.{◌≡◌, ◌&&◌, ◌+◌, List, [], ◌∷◌, map, Bool, true, false, refl, sym, ap, subst, ◌∙◌, arith, true≢false, IsPermutation}
use Rattle.shop_types.proofs.Common.{Ordering, Less, Equal, Greater, is_lt, nat_cmp, ordering_reverse, slice_cmp, bytes_eq, IsSortedByKey, exact_bytes}
use Rattle.shop_types.proofs.Common.{bytes_eq-Decides, IsPermutation-map, one}
use Rattle.sqlite_keyed.proofs.ListLemmas.{along_permutation}
use Rattle.audit_rows.specs.Lists.{Key, is_below, same_lists, count, SameCounts}
use Rattle.audit_rows.proofs.Keys.{both, key_total, below_trans, below_apart, neither_below, NeverFalls, never_falls, same_bytes}

pub count_along : {X : Type 0} (test : X → Bool) (xs ys : List X) → IsPermutation xs ys → count test xs ≡ count test ys
count_along {X} test =
    along_permutation (λ (xs ys : List X). count test xs ≡ count test ys) (λ xs. refl)
    (λ x us vs h. ap (λ n. one (test x) + n) h) (λ x y us. omega arith) (λ us vs ws p q. p ∙ q)

-- ---- keys in order

not_above : (low k j : Key) → is_below low k ≡ true → is_below j k ≡ false → is_below low j ≡ true
not_above low k j p q = go (slice_cmp nat_cmp k j) refl
  where
    go : (o : Ordering) → slice_cmp nat_cmp k j ≡ o → is_below low j ≡ true
    go Less e = below_trans low k j p (ap is_lt e)
    go Equal e = subst (λ (c : Key). is_below low c ≡ true) (exact_bytes k j e) p
    go Greater e =
        let back : slice_cmp nat_cmp j k ≡ Less = key_total.antisymm j k ∙ ap ordering_reverse e in
        absurd (true≢false (sym (ap is_lt back) ∙ q))

none_of : (low k : Key) (ks : List Key) → is_below low k ≡ true → NeverFalls k ks → count (bytes_eq low) (k ∷ ks) ≡ 0
none_of low k [] below up = let apart = below_apart low k below in (λ i. one (apart i) + 0)
none_of low k (j ∷ ks) below up =
    let apart = below_apart low k below in
    let more = none_of low j ks (not_above low k j below up.0) up.1 in
    (λ i. one (apart i) + more i)

abbrev InOrder : List Key → Type 0
InOrder [] = Unit {0}
InOrder (k ∷ ks) = NeverFalls k ks

in_order_tail : (k : Key) (ks : List Key) → NeverFalls k ks → InOrder ks
in_order_tail k [] up = tt
in_order_tail k (j ∷ ks) up = up.1

pub one_order : (xs ys : List Key) → InOrder xs → InOrder ys → SameCounts xs ys → same_lists xs ys ≡ true
one_order [] [] up down h = refl
one_order [] (y ∷ ys) up down h = absurd (let e = h (λ _. true) in omega (arith, e))
one_order (x ∷ xs) [] up down h = absurd (let e = h (λ _. true) in omega (arith, e))
one_order (x ∷ xs) (y ∷ ys) up down h = go (is_below x y) (is_below y x) refl refl (λ f. one_order xs ys (in_order_tail x xs up) (in_order_tail y ys down) f)
  where
    go : (s t : Bool) → is_below x y ≡ s → is_below y x ≡ t → (SameCounts xs ys → same_lists xs ys ≡ true) → (bytes_eq x y && same_lists xs ys) ≡ true
    go true t p q more =
        absurd (let e : one (bytes_eq x x) + count (bytes_eq x) xs ≡ 0 = h (bytes_eq x) ∙ none_of x y ys p down in
        let f : one (bytes_eq x x) ≡ 1 = ap one (same_bytes x) in omega (arith, e, f))
    go false true p q more =
        absurd (let e : one (bytes_eq y y) + count (bytes_eq y) ys ≡ 0 = sym (h (bytes_eq y)) ∙ none_of y x xs q up in
        let f : one (bytes_eq y y) ≡ 1 = ap one (same_bytes y) in omega (arith, e, f))
    go false false p q more =
        let same : bytes_eq x y ≡ true = neither_below x y p q in
        let equal : x ≡ y = (bytes_eq-Decides x y).0 same in
        let rest : SameCounts xs ys = λ test. (let e = h test in let f : one (test x) ≡ one (test y) = ap (λ k. one (test k)) equal in omega (arith, e, f)) in
        (λ i. same i && more rest i)

pub same_equal : (xs ys : List Key) → same_lists xs ys ≡ true → xs ≡ ys
same_equal [] [] h = refl
same_equal [] (y ∷ ys) h = absurd (true≢false (sym h))
same_equal (x ∷ xs) [] h = absurd (true≢false (sym h))
same_equal (x ∷ xs) (y ∷ ys) h =
    let parts = both (bytes_eq x y) (same_lists xs ys) h in
    let first : x ≡ y = (bytes_eq-Decides x y).0 parts.0 in
    let rest = same_equal xs ys parts.1 in
    (λ i. first i ∷ rest i)

module _ {X : Type 0} (key : X → Key) where
  abbrev Sorted : List X → Type 0
  Sorted = IsSortedByKey key (slice_cmp nat_cmp)

  in_order : (xs : List X) → Sorted xs → InOrder (map key xs)
  in_order [] s = tt
  in_order (x ∷ xs) s = never_falls key x xs s

  module _ (us vs xs ys : List X) (p : IsPermutation us xs) (q : IsPermutation vs ys) (s : Sorted xs) (t : Sorted ys) where
    pub bag_from_order : same_lists (map key xs) (map key ys) ≡ true → SameCounts (map key us) (map key vs)
    bag_from_order h test =
        count_along test _ _ (IsPermutation-map key us xs p) ∙ ap (count test) (same_equal _ _ h) ∙ sym (count_along test _ _ (IsPermutation-map key vs ys q))

    pub order_from_bag : SameCounts (map key us) (map key vs) → same_lists (map key xs) (map key ys) ≡ true
    order_from_bag h =
        one_order _ _ (in_order xs s) (in_order ys t)
        (λ test. sym (count_along test _ _ (IsPermutation-map key us xs p)) ∙ h test ∙ count_along test _ _ (IsPermutation-map key vs ys q))
