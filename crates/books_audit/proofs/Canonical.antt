-- From tables that were read, books in the order of their keys for which the tables stand.
use Rattle.std.proofs.Common.{nat_le}
use Rattle.shop_schema.proofs.Common.{◌≡◌, ◌≤◌, ◌+◌, ◌==◌, ◌&&◌, ◌||◌, ℕ, List, [], ◌∷◌, ◌++◌, map, length, not, Bool, true, false, refl, sym, ap, ◌∙◌, arith}
use Rattle.shop_schema.proofs.Common.{cond, zero, suc, add-one, Ordering, is_lt, IsPermutation, IsSorted, AllByRecursion, flat_map, list_any, bytes_eq, nat_cmp}
use Rattle.shop_schema.proofs.Common.{nat_eq_equiv, nat_tests, IsPermutation-refl, IsPermutation-trans, IsPermutation-sym, IsPermutation-middle}
use Rattle.shop_schema.proofs.Common.{IsPermutation-cons, IsAscending, map-map, Row, numbered_from, are_different, Line, Consignment, IsLine, IsConsignment}
use Rattle.audit_rows.specs.Lists.{Key, climbs, is_below}
use Rattle.audit_rows.specs.Joins.{Header, header, placed, put_line, header_key}
use Rattle.audit_rows.proofs.Keys.{below_apart, different_along}
use Rattle.audit_rows.proofs.Canon.{ascending_from_climbs}
use Rattle.books_audit.specs.Columns.{IsHeader, IsPlaced}
use Rattle.books_audit.proofs.Ranges.{in_range}
use Rattle.books_audit.specs.Audits.{same_row}

-- ---- keys that climb are different

module _ {X : Type 0} (test : X → X → Bool) (key : X → Key) (is : (x y : X) → test x y ≡ bytes_eq (key x) (key y)) where
  none_below : (x : X) (ys : List X) → AllByRecursion (λ y. is_below (key x) (key y) ≡ true) ys → list_any (test x) ys ≡ false
  none_below x [] h = refl
  none_below x (y ∷ ys) h = let apart = is x y ∙ below_apart (key x) (key y) h.0 in (λ i. apart i || none_below x ys h.1 i)

  ascending_apart : (xs : List X) → IsAscending (λ x y. is_below (key x) (key y) ≡ true) xs → are_different test xs ≡ true
  ascending_apart [] h = refl
  ascending_apart (x ∷ xs) h = λ i. not (none_below x xs h.0 i) && ascending_apart xs h.1 i

  pub apart : (xs : List X) → climbs (map key xs) ≡ true → are_different test xs ≡ true
  apart xs h = ascending_apart xs (ascending_from_climbs key xs h)

pub two : (a b : Bool) → (a && b) ≡ (a && (b && true))
two true true = refl
two true false = refl
two false b = refl

pub three : (a b c : Bool) → (a && b && c) ≡ (a && (b && (c && true)))
three true true true = refl
three true true false = refl
three true false c = refl
three false b c = refl

pub row_test : {A : Type 0} (x y : Row A) → same_row x y ≡ bytes_eq (x.branch ∷ x.number ∷ []) (y.branch ∷ y.number ∷ [])
row_test x y = two (x.branch == y.branch) (x.number == y.number)

abbrev pub same_consignment : Consignment → Consignment → Bool
same_consignment a b = a.source == b.source && a.addressee == b.addressee && a.number == b.number

consignment_test : (x y : Consignment) → same_consignment x y ≡ bytes_eq (header_key (header x)) (header_key (header y))
consignment_test x y = three (x.source == y.source) (x.addressee == y.addressee) (x.number == y.number)

consignment_symm : (x y : Consignment) → same_consignment x y ≡ same_consignment y x
consignment_symm x y = λ i. nat_eq_equiv.symm x.source y.source i && nat_eq_equiv.symm x.addressee y.addressee i && nat_eq_equiv.symm x.number y.number i

pub consignments_apart : (by_key its : List Consignment) → IsPermutation by_key its
    → climbs (map header_key (map header by_key)) ≡ true → are_different same_consignment its ≡ true
consignments_apart by_key its p h =
    sym (different_along same_consignment consignment_symm by_key its p)
    ∙ apart same_consignment (λ x. header_key (header x)) consignment_test by_key (ap climbs (sym (map-map header_key header by_key)) ∙ h)

-- ---- consignments

few_from : (h : Header) (k : ℕ) (ls : List Line) → k ≤ 4_294_967_296
    → AllByRecursion IsPlaced (map (put_line h) (numbered_from k ls)) → k + length ls ≤ 4_294_967_296
few_from h k [] low all = omega (arith, low)
few_from h k (l ∷ ls) low all =
    let high = (in_range k all.0.at).1 in
    let more = few_from h (k + 1) ls (omega (arith, high)) all.1 in
    omega (arith, more)

lines_fit : (h : Header) (k : ℕ) (ls : List Line) → AllByRecursion IsPlaced (map (put_line h) (numbered_from k ls)) → AllByRecursion IsLine ls
lines_fit h k [] all = tt
lines_fit h k (l ∷ ls) all = (all.0.line, lines_fit h (k + 1) ls all.1)

all_front : {X : Type 0} (P : X → Type 0) (xs ys : List X) → AllByRecursion P (xs ++ ys) → AllByRecursion P xs × AllByRecursion P ys
all_front P [] ys h = (tt, h)
all_front P (x ∷ xs) ys h = let more = all_front P xs ys h.1 in ((h.0, more.0), more.1)

pub consignments_fit : (its : List Consignment) → AllByRecursion IsHeader (map header its)
    → AllByRecursion IsPlaced (flat_map placed its) → AllByRecursion IsConsignment its
consignments_fit [] a b = tt
consignments_fit (it ∷ its) a b =
    let parts = all_front IsPlaced (placed it) (flat_map placed its) b in
    let few = few_from (header it) 1 it.lines (omega arith) parts.0 in (
      record {
        source = a.0.source;
        addressee = a.0.addressee;
        number = a.0.number;
        place = a.0.place;
        few = omega (arith, few);
        lines = lines_fit (header it) 1 it.lines parts.0;
      },
      consignments_fit its a.1 parts.1,
    )

-- ---- the order of places

put : Consignment → List Consignment → List Consignment
put x [] = x ∷ []
put x (y ∷ ys) = cond (nat_le x.place y.place) (x ∷ y ∷ ys) (y ∷ put x ys)

pub by_place : List Consignment → List Consignment
by_place [] = []
by_place (x ∷ xs) = put x (by_place xs)

abbrev NoLess : Consignment → Consignment → Type 0
NoLess x y = x.place ≤ y.place

put_all : (P : Consignment → Type 0) (x : Consignment) (ys : List Consignment) → P x → AllByRecursion P ys → AllByRecursion P (put x ys)
unfolding put
put_all P x [] h all = (h, tt)
put_all P x (y ∷ ys) h all = go (nat_le x.place y.place) (put_all P x ys h all.1)
  where
    go : (t : Bool) → AllByRecursion P (put x ys) → AllByRecursion P (cond t (x ∷ y ∷ ys) (y ∷ put x ys))
    go true more = (h, all)
    go false more = (all.0, more)

weaker : (x y : Consignment) (ys : List Consignment) → x.place ≤ y.place → AllByRecursion (NoLess y) ys → AllByRecursion (NoLess x) ys
weaker x y [] h all = tt
weaker x y (z ∷ ys) h all = (omega (arith, h, all.0), weaker x y ys h all.1)

put_rises : (x : Consignment) (ys : List Consignment) → IsAscending NoLess ys → IsAscending NoLess (put x ys)
unfolding put
put_rises x [] up = (tt, tt)
put_rises x (y ∷ ys) up = go (nat_le x.place y.place) refl (put_rises x ys up.1)
  where
    low : nat_le x.place y.place ≡ true → x.place ≤ y.place
    low e = grind (arith, nat_tests)

    high : nat_le x.place y.place ≡ false → y.place ≤ x.place
    high e = grind (arith, nat_tests)

    go : (t : Bool) → nat_le x.place y.place ≡ t → IsAscending NoLess (put x ys) → IsAscending NoLess (cond t (x ∷ y ∷ ys) (y ∷ put x ys))
    go true e more = ((low e, weaker x y ys (low e) up.0), up)
    go false e more = (put_all (NoLess y) x ys (high e) up.0, more)

put_same : (x : Consignment) (ys : List Consignment) → IsPermutation (x ∷ ys) (put x ys)
unfolding put
put_same x [] = IsPermutation-refl _
put_same x (y ∷ ys) = go (nat_le x.place y.place) (put_same x ys)
  where
    go : (t : Bool) → IsPermutation (x ∷ ys) (put x ys) → IsPermutation (x ∷ y ∷ ys) (cond t (x ∷ y ∷ ys) (y ∷ put x ys))
    go true more = IsPermutation-refl _
    go false more = IsPermutation-trans _ _ _ (IsPermutation-sym _ _ (IsPermutation-middle (y ∷ []) x ys)) (IsPermutation-cons y _ _ more)

rises_by_place : (xs : List Consignment) → IsAscending NoLess (by_place xs)
unfolding by_place
rises_by_place [] = tt
rises_by_place (x ∷ xs) = put_rises x (by_place xs) (rises_by_place xs)

pub same_by_place : (xs : List Consignment) → IsPermutation xs (by_place xs)
unfolding by_place
same_by_place [] = IsPermutation-refl []
same_by_place (x ∷ xs) = IsPermutation-trans _ _ _ (IsPermutation-cons x _ _ (same_by_place xs)) (put_same x (by_place xs))

abbrev place_cmp : Consignment → Consignment → Ordering
place_cmp x y = nat_cmp x.place y.place

no_less : (x y : Consignment) → x.place ≤ y.place → is_lt (place_cmp y x) ≡ false
no_less x y h = grind (arith, nat_tests)

sorted_from : (xs : List Consignment) → IsAscending NoLess xs → IsSorted place_cmp xs
sorted_from [] up k d p q = absurd (omega arith)
sorted_from (x ∷ []) up k d p q = absurd (omega arith)
sorted_from (x ∷ y ∷ xs) up zero d p q = no_less x y up.0.0
sorted_from (x ∷ y ∷ xs) up (suc k) d p q = rw add-one (rw add-one at (sorted_from (y ∷ xs) up.1 k d (omega arith) (omega arith)))

pub sorted_by_place : (xs : List Consignment) → IsSorted place_cmp (by_place xs)
sorted_by_place xs = sorted_from (by_place xs) (rises_by_place xs)
