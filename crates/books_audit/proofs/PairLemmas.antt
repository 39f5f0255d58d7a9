-- Consignments counted by pairs of branches: the order of consignments only moves the rows of counts.
use Rattle.shop_schema.proofs.Common.{◌≡◌, ◌+◌, ◌==◌, ◌&&◌, ℕ, List, [], ◌∷◌, Bool, true, false, cond, refl, sym, subst, subst₂, ap, ◌∙◌, true≢false}
use Rattle.shop_schema.proofs.Common.{IsPermutation, AllByRecursion, fold, and_parts, nat_eq_equiv, IsPermutation-refl, IsPermutation-trans, IsPermutation-cons}
use Rattle.shop_schema.proofs.Common.{IsPermutation-middle, along_permutation, Consignment, same_if, Pair, is_pair, count_pair, pairs_of}
use Rattle.audit_rows.proofs.Standing.{all_moved}

-- no row is of the pair
abbrev NoneOf : ℕ → ℕ → List Pair → Type 0
NoneOf s a = AllByRecursion (λ (y : Pair). is_pair s a y ≡ false)

-- no two rows are of one pair
abbrev Apart : List Pair → Type 0
Apart [] = Unit {0}
Apart (x ∷ xs) = NoneOf x.source x.addressee xs × Apart xs

abbrev first_of : ℕ → ℕ → Pair
first_of s a = record { source = s; addressee = a; last = 1 }

abbrev one_more : Pair → Pair
one_more p = record p { last = p.last + 1 }

two_swapped : (x y : Pair) (us : List Pair) → IsPermutation (x ∷ y ∷ us) (y ∷ x ∷ us)
two_swapped x y us = IsPermutation-middle (x ∷ []) y us

other_side : (s a : ℕ) (p : Pair) → is_pair p.source p.addressee (first_of s a) ≡ is_pair s a p
other_side s a p = λ i. nat_eq_equiv.symm s p.source i && nat_eq_equiv.symm a p.addressee i

two_sides : (x y : Pair) → is_pair x.source x.addressee y ≡ is_pair y.source y.addressee x
two_sides x y = λ i. nat_eq_equiv.symm y.source x.source i && nat_eq_equiv.symm y.addressee x.addressee i

module _ (s a : ℕ) where
  pub counted_here : (p : Pair) (ps : List Pair) → is_pair s a p ≡ true → count_pair s a (p ∷ ps) ≡ one_more p ∷ ps
  counted_here p ps e = ap (λ x. cond x (one_more p ∷ ps) (p ∷ count_pair s a ps)) e

  pub counted_later : (p : Pair) (ps : List Pair) → is_pair s a p ≡ false → count_pair s a (p ∷ ps) ≡ p ∷ count_pair s a ps
  counted_later p ps e = ap (λ x. cond x (one_more p ∷ ps) (p ∷ count_pair s a ps)) e

  none_counted : (t b : ℕ) → is_pair t b (first_of s a) ≡ false → (ps : List Pair) → NoneOf t b ps → NoneOf t b (count_pair s a ps)
  none_counted t b h [] n = (h, tt)
  none_counted t b h (p ∷ ps) n = go (is_pair s a p) (none_counted t b h ps n.1)
    where
      go : (x : Bool) → NoneOf t b (count_pair s a ps) → NoneOf t b (cond x (one_more p ∷ ps) (p ∷ count_pair s a ps))
      go true more = (n.0, n.1)
      go false more = (n.0, more)

  apart_counted : (ps : List Pair) → Apart ps → Apart (count_pair s a ps)
  apart_counted [] h = (tt, tt)
  apart_counted (p ∷ ps) h = go (is_pair s a p) refl (apart_counted ps h.1)
    where
      go : (x : Bool) → is_pair s a p ≡ x → Apart (count_pair s a ps) → Apart (cond x (one_more p ∷ ps) (p ∷ count_pair s a ps))
      go true e more = (h.0, h.1)
      go false e more = (none_counted p.source p.addressee (other_side s a p ∙ e) ps h.0, more)

  both_of : (x y : Pair) → is_pair s a x ≡ true → is_pair s a y ≡ true → is_pair x.source x.addressee y ≡ true
  both_of x y e f =
      let parts = and_parts (x.source == s) (x.addressee == a) e in
      subst (λ n. is_pair n x.addressee y ≡ true) (sym (same_if x.source s parts.0)) (subst (λ n. is_pair s n y ≡ true) (sym (same_if x.addressee a parts.1)) f)

  -- rows in another order
  record Moved (ps qs : List Pair) : Type 0 where
    same : IsPermutation ps qs
    counted : IsPermutation (count_pair s a ps) (count_pair s a qs)
    apart : Apart qs

  cons_moved : (x : Pair) (us vs : List Pair) → (Apart us → Moved us vs) → Apart (x ∷ us) → Moved (x ∷ us) (x ∷ vs)
  cons_moved x us vs f h =
      let m = f h.1 in record {
        same = IsPermutation-cons x us vs m.same;
        counted = go (is_pair s a x) m;
        apart = (all_moved _ us vs m.same h.0, m.apart);
      }
    where
      go : (t : Bool) → Moved us vs → IsPermutation (cond t (one_more x ∷ us) (x ∷ count_pair s a us)) (cond t (one_more x ∷ vs) (x ∷ count_pair s a vs))
      go true m = IsPermutation-cons (one_more x) us vs m.same
      go false m = IsPermutation-cons x _ _ m.counted

  swap_moved : (x y : Pair) (us : List Pair) → Apart (x ∷ y ∷ us) → Moved (x ∷ y ∷ us) (y ∷ x ∷ us)
  swap_moved x y us h = record {
    same = two_swapped x y us;
    counted = go (is_pair s a x) (is_pair s a y) refl refl;
    apart = ((sym (two_sides x y) ∙ h.0.0, h.1.0), (h.0.1, h.1.1));
  }
    where
      go : (t u : Bool) → is_pair s a x ≡ t → is_pair s a y ≡ u → IsPermutation (count_pair s a (x ∷ y ∷ us)) (count_pair s a (y ∷ x ∷ us))
      go true true e f = absurd (true≢false (sym (both_of x y e f) ∙ h.0.0))
      go true false e f =
          subst₂ IsPermutation (sym (counted_here x (y ∷ us) e))
          (sym (counted_later y (x ∷ us) f ∙ ap (λ l. y ∷ l) (counted_here x us e))) (two_swapped (one_more x) y us)
      go false true e f =
          subst₂ IsPermutation (sym (counted_later x (y ∷ us) e ∙ ap (λ l. x ∷ l) (counted_here y us f)))
          (sym (counted_here y (x ∷ us) f)) (two_swapped x (one_more y) us)
      go false false e f =
          subst₂ IsPermutation (sym (counted_later x (y ∷ us) e ∙ ap (λ l. x ∷ l) (counted_later y us f)))
          (sym (counted_later y (x ∷ us) f ∙ ap (λ l. y ∷ l) (counted_later x us e)))
          (two_swapped x y (count_pair s a us))

  count_moved : (ps qs : List Pair) → IsPermutation ps qs → Apart ps → Moved ps qs
  count_moved =
      along_permutation (λ ps qs. Apart ps → Moved ps qs)
      (λ ps h. record { same = IsPermutation-refl ps; counted = IsPermutation-refl (count_pair s a ps); apart = h }) cons_moved swap_moved
      (λ us vs ws f g h.
      let m = f h in
      let n = g m.apart in
      record { same = IsPermutation-trans us vs ws m.same n.same; counted = IsPermutation-trans _ _ _ m.counted n.counted; apart = n.apart })

-- two consignments in another order
module _ (s a t b : ℕ) where
  first_two : IsPermutation (count_pair t b (first_of s a ∷ [])) (count_pair s a (first_of t b ∷ []))
  first_two = go (is_pair t b (first_of s a)) refl
    where
      go : (x : Bool) → is_pair t b (first_of s a) ≡ x → IsPermutation (count_pair t b (first_of s a ∷ [])) (count_pair s a (first_of t b ∷ []))
      go true e =
          let parts = and_parts (s == t) (a == b) e in
          subst (λ n. IsPermutation (count_pair t b (first_of s a ∷ [])) (count_pair s a (first_of n b ∷ []))) (same_if s t parts.0)
          (subst (λ n. IsPermutation (count_pair n b (first_of s a ∷ [])) (count_pair s a (first_of s b ∷ []))) (same_if s t parts.0)
          (subst (λ n. IsPermutation (count_pair s n (first_of s a ∷ [])) (count_pair s a (first_of s n ∷ []))) (same_if a b parts.1) (IsPermutation-refl _)))
      go false e =
          let f : is_pair s a (first_of t b) ≡ false = other_side t b (first_of s a) ∙ e in
          subst₂ IsPermutation (sym (counted_later t b (first_of s a) [] e))
          (sym (counted_later s a (first_of t b) [] f)) (two_swapped (first_of s a) (first_of t b) [])

  two_counted : (ps : List Pair) → IsPermutation (count_pair t b (count_pair s a ps)) (count_pair s a (count_pair t b ps))
  two_counted [] = first_two
  two_counted (p ∷ ps) = go (is_pair s a p) (is_pair t b p) refl refl (two_counted ps)
    where
      go : (x y : Bool) → is_pair s a p ≡ x → is_pair t b p ≡ y → IsPermutation (count_pair t b (count_pair s a ps)) (count_pair s a (count_pair t b ps))
          → IsPermutation (count_pair t b (count_pair s a (p ∷ ps))) (count_pair s a (count_pair t b (p ∷ ps)))
      go true true e f more =
          subst₂ IsPermutation (sym (ap (count_pair t b) (counted_here s a p ps e) ∙ counted_here t b (one_more p) ps f))
          (sym (ap (count_pair s a) (counted_here t b p ps f) ∙ counted_here s a (one_more p) ps e)) (IsPermutation-refl _)
      go true false e f more =
          subst₂ IsPermutation (sym (ap (count_pair t b) (counted_here s a p ps e) ∙ counted_later t b (one_more p) ps f))
          (sym (ap (count_pair s a) (counted_later t b p ps f) ∙ counted_here s a p (count_pair t b ps) e)) (IsPermutation-refl _)
      go false true e f more =
          subst₂ IsPermutation (sym (ap (count_pair t b) (counted_later s a p ps e) ∙ counted_here t b p (count_pair s a ps) f))
          (sym (ap (count_pair s a) (counted_here t b p ps f) ∙ counted_later s a (one_more p) ps e)) (IsPermutation-refl _)
      go false false e f more =
          subst₂ IsPermutation (sym (ap (count_pair t b) (counted_later s a p ps e) ∙ counted_later t b p (count_pair s a ps) f))
          (sym (ap (count_pair s a) (counted_later t b p ps f) ∙ counted_later s a p (count_pair t b ps) e))
          (IsPermutation-cons p _ _ more)

abbrev counted : List Pair → List Consignment → List Pair
counted = fold (λ pairs it. count_pair it.source it.addressee pairs)

counted_moved : (its : List Consignment) (ps qs : List Pair) → IsPermutation ps qs → Apart ps → IsPermutation (counted ps its) (counted qs its)
counted_moved [] ps qs p h = p
counted_moved (it ∷ its) ps qs p h =
    let m = count_moved it.source it.addressee ps qs p h in counted_moved its _ _ m.counted (apart_counted it.source it.addressee ps h)

counted_along : (its others : List Consignment) → IsPermutation its others → (ps : List Pair) → Apart ps → IsPermutation (counted ps its) (counted ps others)
counted_along =
    along_permutation (λ its others. (ps : List Pair) → Apart ps → IsPermutation (counted ps its) (counted ps others))
    (λ its ps h. IsPermutation-refl (counted ps its))
    (λ it us vs f ps h. f (count_pair it.source it.addressee ps) (apart_counted it.source it.addressee ps h))
    (λ x y us ps h.
    counted_moved us _ _ (two_counted x.source x.addressee y.source y.addressee ps)
    (apart_counted y.source y.addressee _ (apart_counted x.source x.addressee ps h)))
    (λ us vs ws f g ps h. IsPermutation-trans _ _ _ (f ps h) (g ps h))

pub pairs_along : (its others : List Consignment) → IsPermutation its others → IsPermutation (pairs_of its) (pairs_of others)
pairs_along its others p = counted_along its others p [] tt
