-- Keys in order: if each key is above the one before it, no two keys of the list are the same, in any order of the list.
use Rattle.shop_types.proofs.Common.{◌≡◌, ◌&&◌, ◌||◌, suc, List, [], ◌∷◌, map, not, Bool, true, false, refl, sym, ap, subst, ◌∙◌, arith, true≢false}
use Rattle.shop_types.proofs.Common.{IsPermutation, Ordering, Less, Equal, Greater, is_lt, add-one, nat_cmp, ordering_reverse, IsTotalOrder, slice_cmp}
use Rattle.shop_types.proofs.Common.{bytes_eq, list_any, IsSortedByKey, nat_list_cmp_total, tied_itself, exact_bytes, bytes_eq-Decides, are_different}
use native.Mathlib.Numerals.{unary_clauses}
use Rattle.sqlite_keyed.proofs.ListLemmas.{along_permutation}
use Rattle.audit_rows.specs.Lists.{Key, is_below, climbs, climbs_above}

pub both : (a b : Bool) → (a && b) ≡ true → (a ≡ true) × (b ≡ true)
both true b h = (refl, h)
both false b h = absurd (true≢false (sym h))

pub same_bytes : (k : Key) → bytes_eq k k ≡ true
same_bytes k = (bytes_eq-Decides k k).1 refl

-- ---- whether any two are the same doesn't depend on the order

or_comm : (a b c : Bool) → (a || (b || c)) ≡ (b || (a || c))
or_comm true true c = refl
or_comm true false c = refl
or_comm false true c = refl
or_comm false false c = refl

module _ {X : Type 0} (same : X → X → Bool) (symm : (a b : X) → same a b ≡ same b a) where
  abbrev Alike : List X → List X → Type 0
  Alike xs ys = ((x : X) → list_any (same x) xs ≡ list_any (same x) ys) × (are_different same xs ≡ are_different same ys)

  turn : (a p q r : Bool) → (not (a || p) && (not q && r)) ≡ (not (a || q) && (not p && r))
  turn true p q r = refl
  turn false true true r = refl
  turn false true false r = refl
  turn false false true r = refl
  turn false false false r = refl

  pub different_along : (xs ys : List X) → IsPermutation xs ys → are_different same xs ≡ are_different same ys
  different_along xs ys h = (along_permutation Alike (λ l. (λ x. refl, refl))
      (λ x us vs it. (λ y. ap (λ b. same y x || b) (it.0 y), λ i. not (it.0 x i) && it.1 i))
      (λ x y us. (
        λ z. or_comm (same z x) (same z y) (list_any (same z) us),
        turn (same x y) (list_any (same x) us) (list_any (same y) us) (are_different same us)
            ∙ ap (λ b. not (b || list_any (same y) us) && (not (list_any (same x) us) && are_different same us)) (symm x y),
      ))
      (λ us vs ws one two. (λ x. one.0 x ∙ two.0 x, one.1 ∙ two.1)) xs ys h).1

pub bytes_eq_symm : (a b : Key) → bytes_eq a b ≡ bytes_eq b a
bytes_eq_symm a b = go (bytes_eq a b) (bytes_eq b a) refl refl
  where
    go : (s t : Bool) → bytes_eq a b ≡ s → bytes_eq b a ≡ t → s ≡ t
    go true true e f = refl
    go false false e f = refl
    go true false e f = sym ((bytes_eq-Decides b a).1 (sym ((bytes_eq-Decides a b).0 e))) ∙ f
    go false true e f = sym e ∙ (bytes_eq-Decides a b).1 (sym ((bytes_eq-Decides b a).0 f))

-- ---- two keys

pub key_total : IsTotalOrder (slice_cmp nat_cmp)
key_total = nat_list_cmp_total

pub below_less : (a b : Key) → is_below a b ≡ true → slice_cmp nat_cmp a b ≡ Less
below_less a b h = go (slice_cmp nat_cmp a b) refl h
  where
    go : (o : Ordering) → slice_cmp nat_cmp a b ≡ o → is_lt o ≡ true → slice_cmp nat_cmp a b ≡ Less
    go Less e t = e
    go Equal e t = absurd (true≢false (sym t))
    go Greater e t = absurd (true≢false (sym t))

pub below_trans : (a b c : Key) → is_below a b ≡ true → is_below b c ≡ true → is_below a c ≡ true
below_trans a b c p q = ap is_lt (key_total.trans a b c (below_less a b p) (below_less b c q))

pub below_apart : (a b : Key) → is_below a b ≡ true → bytes_eq a b ≡ false
below_apart a b h = go (bytes_eq a b) refl
  where
    go : (t : Bool) → bytes_eq a b ≡ t → bytes_eq a b ≡ false
    go false e = e
    go true e =
        let same : a ≡ b = (bytes_eq-Decides a b).0 e in
        let tied : slice_cmp nat_cmp a b ≡ Equal = subst (λ k. slice_cmp nat_cmp a k ≡ Equal) same (tied_itself key_total a) in
        let less = below_less a b h in
        cc

pub neither_below : (a b : Key) → is_below a b ≡ false → is_below b a ≡ false → bytes_eq a b ≡ true
neither_below a b p q = go (slice_cmp nat_cmp a b) refl p
  where
    go : (o : Ordering) → slice_cmp nat_cmp a b ≡ o → is_lt o ≡ false → bytes_eq a b ≡ true
    go Less e t = absurd (true≢false t)
    go Equal e t = (bytes_eq-Decides a b).1 (exact_bytes a b e)
    go Greater e t =
        let back : slice_cmp nat_cmp b a ≡ Less = key_total.antisymm b a ∙ ap ordering_reverse e in
        absurd (true≢false (sym (ap is_lt back) ∙ q))

-- ---- keys in order

abbrev pub NeverFalls : Key → List Key → Type 0
NeverFalls low [] = Unit {0}
NeverFalls low (k ∷ ks) = (is_below k low ≡ false) × NeverFalls k ks

none_again : (low k : Key) (ks : List Key) → is_below low k ≡ true → climbs_above k ks ≡ true → list_any (bytes_eq low) ks ≡ false
none_again low k [] below up = refl
none_again low k (j ∷ ks) below up =
    let parts = both (is_below k j) (climbs_above j ks) up in
    let further = below_trans low k j below parts.0 in
    let here = below_apart low j further in
    let rest = none_again low j ks further parts.1 in
    (λ i. here i || rest i)

climbs_decides_from : (low : Key) (ks : List Key) → NeverFalls low ks → climbs_above low ks ≡ (not (list_any (bytes_eq low) ks) && are_different bytes_eq ks)
climbs_decides_from low [] up = refl
climbs_decides_from low (k ∷ ks) up = go (climbs_decides_from k ks up.1) (is_below low k) refl
  where
    stays : is_below low k ≡ true → (r s : Bool) → climbs_above k ks ≡ r → list_any (bytes_eq low) ks ≡ s → r ≡ (not s && r)
    stays below true true e f = absurd (true≢false (sym f ∙ none_again low k ks below e))
    stays below false true e f = refl
    stays below true false e f = refl
    stays below false false e f = refl

    go : climbs_above k ks ≡ (not (list_any (bytes_eq k) ks) && are_different bytes_eq ks) → (t : Bool) → is_below low k ≡ t
        → (t && climbs_above k ks) ≡ (not (bytes_eq low k || list_any (bytes_eq low) ks) && (not (list_any (bytes_eq k) ks) && are_different bytes_eq ks))
    go more true e =
        stays e (climbs_above k ks) (list_any (bytes_eq low) ks) refl refl
        ∙ (λ i. not (list_any (bytes_eq low) ks) && more i)
        ∙ ap (λ b. not (b || list_any (bytes_eq low) ks) && (not (list_any (bytes_eq k) ks) && are_different bytes_eq ks)) (sym (below_apart low k e))
    go more false e =
        sym (ap (λ b. not (b || list_any (bytes_eq low) ks) && (not (list_any (bytes_eq k) ks) && are_different bytes_eq ks)) (neither_below low k e up.0))

pub any-map : {X Y : Type 0} (p : Y → Bool) (f : X → Y) (xs : List X) → list_any p (map f xs) ≡ list_any (λ x. p (f x)) xs
any-map p f [] = refl
any-map p f (x ∷ xs) = ap (λ b. p (f x) || b) (any-map p f xs)

pub different-map : {X Y : Type 0} (same : Y → Y → Bool) (f : X → Y) (xs : List X) → are_different same (map f xs) ≡ are_different (λ a b. same (f a) (f b)) xs
different-map same f [] = refl
different-map same f (x ∷ xs) = λ i. not (any-map (same (f x)) f xs i) && different-map same f xs i

module _ {X : Type 0} (key : X → Key) where
  abbrev Sorted : List X → Type 0
  Sorted = IsSortedByKey key (slice_cmp nat_cmp)

  pub sorted_tail : (x : X) (xs : List X) → Sorted (x ∷ xs) → Sorted xs
  sorted_tail x xs h k d p q = rw add-one (simp unary_clauses at (h (suc k) d (omega arith) (omega arith)))

  pub never_falls : (x : X) (xs : List X) → Sorted (x ∷ xs) → NeverFalls (key x) (map key xs)
  never_falls x [] h = tt
  never_falls x (y ∷ xs) h = (h 0 x (omega arith) (omega arith), never_falls y xs (sorted_tail x (y ∷ xs) h))

  climbs_decides : (xs : List X) → Sorted xs → climbs (map key xs) ≡ are_different bytes_eq (map key xs)
  climbs_decides [] h = refl
  climbs_decides (x ∷ xs) h = climbs_decides_from (key x) (map key xs) (never_falls x xs h)

  -- in sorted rows, comparing neighbours decides whether two rows have the same key; any other order of the rows gives the same result
  pub distinct_by_order : (xs ys : List X) → IsPermutation xs ys → Sorted ys → climbs (map key ys) ≡ are_different (λ a b. bytes_eq (key a) (key b)) xs
  distinct_by_order xs ys h s =
      climbs_decides ys s ∙ different-map bytes_eq key ys
      ∙ sym (different_along (λ a b. bytes_eq (key a) (key b)) (λ a b. bytes_eq_symm (key a) (key b)) xs ys h)

-- ---- keys that climb are different

none_in : (low : Key) (ks : List Key) → climbs_above low ks ≡ true → list_any (bytes_eq low) ks ≡ false
none_in low [] up = refl
none_in low (k ∷ ks) up =
    let parts = both (is_below low k) (climbs_above k ks) up in
    let here = below_apart low k parts.0 in
    let rest = none_again low k ks parts.0 parts.1 in
    (λ i. here i || rest i)

all_different : (low : Key) (ks : List Key) → climbs_above low ks ≡ true → are_different bytes_eq ks ≡ true
all_different low [] up = refl
all_different low (k ∷ ks) up =
    let parts = both (is_below low k) (climbs_above k ks) up in
    let here = none_in k ks parts.1 in
    let rest = all_different k ks parts.1 in
    (λ i. not (here i) && rest i)

pub different_from_climbs : (ks : List Key) → climbs ks ≡ true → are_different bytes_eq ks ≡ true
different_from_climbs [] up = refl
different_from_climbs (k ∷ ks) up =
    let here = none_in k ks up in
    let rest = all_different k ks up in
    (λ i. not (here i) && rest i)
