-- The join of two tables gives the consignments whose rows the tables have. It fails only if no consignments have these rows.
use Rattle.shop_types.proofs.Common.{◌≡◌, ◌&&◌, ◌+◌, ◌<◌, ◌==◌, ◌++◌, ℕ, zero, suc, List, [], ◌∷◌, map, length, Bool, true, false, cond, refl, sym, ap, subst}
use Rattle.shop_types.proofs.Common.{◌∙◌, arith, true≢false, IsPermutation, IsSorted, Option, Some, None, is_some, Ordering, Less, Equal, Greater, is_lt}
use Rattle.shop_types.proofs.Common.{add-one, get_or, drop, drop-cons, nat_cmp, ordering_then, ordering_reverse, IsTotalOrder, slice_cmp, AllByRecursion}
use Rattle.shop_types.proofs.Common.{flat_map, on_total, nat_tests, bytes_eq-Decides, IsPermutation-refl, IsPermutation-sym, IsPermutation-cons}
use Rattle.shop_types.proofs.Common.{IsPermutation-trans, IsPermutation-middle, numbered, numbered_from, Line, Consignment}
use Rattle.sqlite_trees.specs.Tree.{IsAscending}
use Rattle.sqlite_keyed.proofs.ListLemmas.{along_permutation, IsPermutation-flat_map, ascending-append, all-append}
use Rattle.sqlite_keyed.proofs.SortLemmas.{sorted_unique}
use Rattle.audit_rows.specs.Lists.{is_below, climbs, counts_from, front_of, back_of}
use Rattle.audit_rows.specs.Joins.{Header, Placed, header_key, group_key, placed_key, header, put_line, placed, whole, is_line_of, with_first, join}
use Rattle.audit_rows.proofs.Keys.{both, key_total, below_apart, bytes_eq_symm, below_less, same_bytes}
use Rattle.audit_rows.proofs.Canon.{ascending_from_climbs}
use Rattle.audit_rows.proofs.GroupLemmas.{parts}
use Rattle.audit_rows.proofs.Maps.{map-twice}

-- ---- what is joined has the rows

front_all : {X : Type 0} (p : X → Bool) (xs : List X) → AllByRecursion (λ x. p x ≡ true) (front_of p xs)
front_all p [] = tt
front_all p (x ∷ xs) = go (p x) refl (front_all p xs)
  where
    go : (t : Bool) → p x ≡ t → AllByRecursion (λ y. p y ≡ true) (front_of p xs) → AllByRecursion (λ y. p y ≡ true) (cond t (x ∷ front_of p xs) [])
    go true e more = (e, more)
    go false e more = tt

module _ (h : Header) where
  one_line : (k : ℕ) (p : Placed) → is_line_of h p ≡ true → (p.at == k) ≡ true → put_line h (k, p.line) ≡ p
  one_line k p e f =
      let same : group_key p ≡ header_key h = (bytes_eq-Decides (group_key p) (header_key h)).0 e in
      let source : h.source ≡ p.source = cc in
      let addressee : h.addressee ≡ p.addressee = cc in
      let number : h.number ≡ p.number = cc in
      let at : k ≡ p.at = grind (arith, nat_tests) in
      (λ i. record { source = source i; addressee = addressee i; number = number i; at = at i; line = p.line })

  same_lines : (k : ℕ) (ps : List Placed) → AllByRecursion (λ p. is_line_of h p ≡ true) ps
      → counts_from k (map (λ p. p.at) ps) ≡ true → map (put_line h) (numbered_from k (map (λ p. p.line) ps)) ≡ ps
  same_lines k [] all c = refl
  same_lines k (p ∷ ps) all c =
      let parts = both (p.at == k) (counts_from (k + 1) (map (λ q. q.at) ps)) c in
      (λ i. one_line k p all.0 parts.0 i ∷ same_lines (k + 1) ps all.1 parts.1 i)

pub join_sound : (hs : List Header) (ps : List Placed) (its : List Consignment) → join hs ps ≡ Some its → (map header its ≡ hs) × (flat_map placed its ≡ ps)
join_sound [] [] [] e = (refl, refl)
join_sound [] [] (it ∷ its) e = cc
join_sound [] (p ∷ ps) its e = cc
join_sound (h ∷ hs) ps its e =
    go (counts_from 1 (map (λ p. p.at) (front_of (is_line_of h) ps))) refl
    (join hs (back_of (is_line_of h) ps)) its e (join_sound hs (back_of (is_line_of h) ps))
  where
    go : (t : Bool) → counts_from 1 (map (λ p. p.at) (front_of (is_line_of h) ps)) ≡ t → (o : Option (List Consignment)) (its : List Consignment)
        → cond t (with_first (whole h (front_of (is_line_of h) ps)) o) None ≡ Some its
        → ((rest : List Consignment) → o ≡ Some rest → (map header rest ≡ hs) × (flat_map placed rest ≡ back_of (is_line_of h) ps))
        → (map header its ≡ h ∷ hs) × (flat_map placed its ≡ ps)
    go false c o its e more = cc
    go true c None its e more = cc
    go true c (Some rest) [] e more = cc
    go true c (Some rest) (it ∷ its) e more =
        let first : whole h (front_of (is_line_of h) ps) ≡ it = cc in
        let others : rest ≡ its = cc in
        let known = more rest refl in
        let lines = same_lines h 1 (front_of (is_line_of h) ps) (front_all (is_line_of h) ps) c in (
          (λ i. sym (ap header first) i ∷ (sym (ap (map header) others) ∙ known.0) i),
          (λ i. sym (ap placed first) i ++ sym (ap (flat_map placed) others) i) ∙ (λ i. lines i ++ known.1 i) ∙ parts (λ (p : Placed). p.at) (is_line_of h) ps,
        )

-- ---- what has the rows is joined

front_whole : {X : Type 0} (p : X → Bool) (xs ys : List X) → AllByRecursion (λ x. p x ≡ true) xs
    → AllByRecursion (λ x. p x ≡ false) ys → (front_of p (xs ++ ys) ≡ xs) × (back_of p (xs ++ ys) ≡ ys)
front_whole p [] [] all none = (refl, refl)
front_whole p [] (y ∷ ys) all none = (λ i. cond (none.0 i) (y ∷ front_of p ys) [], λ i. cond (none.0 i) (back_of p ys) (y ∷ ys))
front_whole p (x ∷ xs) ys all none =
    let more = front_whole p xs ys all.1 none in
    ((λ i. cond (all.0 i) (x ∷ front_of p (xs ++ ys)) []) ∙ ap (λ l. x ∷ l) more.0, (λ i. cond (all.0 i) (back_of p (xs ++ ys)) (x ∷ (xs ++ ys))) ∙ more.1)

all_own : (h : Header) (its : List (ℕ × Line)) → AllByRecursion (λ p. is_line_of h p ≡ true) (map (put_line h) its)
all_own h [] = tt
all_own h (it ∷ its) = (same_bytes (header_key h), all_own h its)

abbrev Above : Consignment → List Consignment → Type 0
Above it = AllByRecursion (λ c. is_below (header_key (header it)) (header_key (header c)) ≡ true)

none_own : (h : Header) (c : Consignment) (its : List (ℕ × Line)) → is_below (header_key h) (header_key (header c)) ≡ true
    → AllByRecursion (λ p. is_line_of h p ≡ false) (map (put_line (header c)) its)
none_own h c [] below = tt
none_own h c (it ∷ its) below =
    (bytes_eq_symm (header_key (header c)) (header_key h) ∙ below_apart (header_key h) (header_key (header c)) below, none_own h c its below)

none_later : (it : Consignment) (its : List Consignment) → Above it its → AllByRecursion (λ p. is_line_of (header it) p ≡ false) (flat_map placed its)
none_later it [] up = tt
none_later it (c ∷ its) up =
    all-append (λ p. is_line_of (header it) p ≡ false) (placed c) (flat_map placed its)
    (none_own (header it) c (numbered c.lines) up.0) (none_later it its up.1)

counted : (h : Header) (k : ℕ) (lines : List Line) → counts_from k (map (λ p. p.at) (map (put_line h) (numbered_from k lines))) ≡ true
counted h k [] = refl
counted h k (line ∷ lines) = let here : (k == k) ≡ true = grind (arith, nat_tests) in let rest = counted h (k + 1) lines in (λ i. here i && rest i)

lines_again : (h : Header) (k : ℕ) (lines : List Line) → map (λ p. p.line) (map (put_line h) (numbered_from k lines)) ≡ lines
lines_again h k [] = refl
lines_again h k (line ∷ lines) = ap (λ l. line ∷ l) (lines_again h (k + 1) lines)

abbrev Climbing : List Consignment → Type 0
Climbing = IsAscending (λ a b. is_below (header_key (header a)) (header_key (header b)) ≡ true)

pub join_again : (its : List Consignment) → Climbing its → join (map header its) (flat_map placed its) ≡ Some its
join_again [] up = refl
join_again (it ∷ its) up =
    let cut = front_whole (is_line_of (header it)) (placed it) (flat_map placed its) (all_own (header it) (numbered it.lines)) (none_later it its up.0) in
    (λ i. cond (counts_from 1 (map (λ p. p.at) (cut.0 i))) (with_first (whole (header it) (cut.0 i)) (join (map header its) (cut.1 i))) None)
    ∙ (λ i. cond (counted (header it) 1 it.lines i) (with_first (record it { lines = lines_again (header it) 1 it.lines i }) (join_again its up.1 i)) None)

-- ---- whatever consignments have the rows, in whatever order

turned : {X : Type 0} (a b : X) (l : List X) → IsPermutation (a ∷ b ∷ l) (b ∷ a ∷ l)
turned a b l = IsPermutation-middle (a ∷ []) b l

module _ {X Y : Type 0} (f : X → Y) where
  abbrev Images : List Y → List Y → Type 0
  Images us vs = (xs : List X) → map f xs ≡ us → (zs : List X) × IsPermutation xs zs × (map f zs ≡ vs)

  -- a bag of images is the images of a bag
  pub unmapped_bag : (us vs : List Y) → IsPermutation us vs → Images us vs
  unmapped_bag = along_permutation Images (λ us xs e. (xs, IsPermutation-refl xs, e)) skip turn
      (λ us vs ws one two xs e. let a = one xs e in let b = two a.0 a.2 in (b.0, IsPermutation-trans _ _ _ a.1 b.1, b.2))
    where
      skip : (y : Y) (us vs : List Y) → Images us vs → Images (y ∷ us) (y ∷ vs)
      skip y us vs h [] e = cc
      skip y us vs h (x ∷ xs) e =
          let head : f x ≡ y = cc in
          let tail : map f xs ≡ us = cc in
          let it = h xs tail in
          (x ∷ it.0, IsPermutation-cons x _ _ it.1, (λ i. head i ∷ it.2 i))

      turn : (y z : Y) (us : List Y) → Images (y ∷ z ∷ us) (z ∷ y ∷ us)
      turn y z us [] e = cc
      turn y z us (a ∷ []) e = cc
      turn y z us (a ∷ b ∷ l) e =
          let first : f a ≡ y = cc in
          let second : f b ≡ z = cc in
          let rest : map f l ≡ us = cc in
          (b ∷ a ∷ l, turned a b l, (λ i. second i ∷ first i ∷ rest i))

  pub unmapped_ascending : (R : Y → Y → Type 0) (xs : List X) → IsAscending R (map f xs) → IsAscending (λ a b. R (f a) (f b)) xs
  unmapped_ascending R [] up = tt
  unmapped_ascending R (x ∷ xs) up = (go xs up.0, unmapped_ascending R xs up.1)
    where
      go : (ys : List X) → AllByRecursion (R (f x)) (map f ys) → AllByRecursion (λ y. R (f x) (f y)) ys
      go [] h = tt
      go (y ∷ ys) h = (h.0, go ys h.1)

abbrev cmp_placed : Placed → Placed → Ordering
cmp_placed p q = slice_cmp nat_cmp (placed_key p) (placed_key q)

placed_total : IsTotalOrder cmp_placed
placed_total = on_total placed_key key_total

abbrev Below : Placed → Placed → Type 0
Below p q = is_below (placed_key p) (placed_key q) ≡ true

extended : (a b c : Ordering) (d : Ordering) → is_lt (ordering_then a (ordering_then b (ordering_then c Equal))) ≡ true
    → is_lt (ordering_then a (ordering_then b (ordering_then c (ordering_then d Equal)))) ≡ true
extended Less b c d h = refl
extended Greater b c d h = h
extended Equal Less c d h = refl
extended Equal Greater c d h = h
extended Equal Equal Less d h = refl
extended Equal Equal Greater d h = h
extended Equal Equal Equal d h = absurd (true≢false (sym h))

across : (h g : Header) (k m : ℕ) (x y : Line) → is_below (header_key h) (header_key g) ≡ true → Below (put_line h (k, x)) (put_line g (m, y))
across h g k m x y e = extended (nat_cmp h.source g.source) (nat_cmp h.addressee g.addressee) (nat_cmp h.number g.number) (nat_cmp k m) e

alike : (n : ℕ) → nat_cmp n n ≡ Equal
alike n = grind (arith, nat_tests)

lower : (k m : ℕ) → k < m → nat_cmp k m ≡ Less
lower k m h = grind (arith, nat_tests)

within : (h : Header) (k m : ℕ) (x y : Line) → k < m → Below (put_line h (k, x)) (put_line h (m, y))
within h k m x y e =
    λ i. is_lt (ordering_then (alike h.source i) (ordering_then (alike h.addressee i) (ordering_then (alike h.number i) (ordering_then (lower k m e i) Equal))))

within_all : (h : Header) (k m : ℕ) (x : Line) (lines : List Line) → k < m
    → AllByRecursion (Below (put_line h (k, x))) (map (put_line h) (numbered_from m lines))
within_all h k m x [] e = tt
within_all h k m x (y ∷ lines) e = (within h k m x y e, within_all h k (m + 1) x lines (omega arith))

lines_ascend : (h : Header) (k : ℕ) (lines : List Line) → IsAscending Below (map (put_line h) (numbered_from k lines))
lines_ascend h k [] = tt
lines_ascend h k (x ∷ lines) = (within_all h k (k + 1) x lines (omega arith), lines_ascend h (k + 1) lines)

one_above : (h : Header) (k : ℕ) (x : Line) (c : Consignment) (its : List (ℕ × Line))
    → is_below (header_key h) (header_key (header c)) ≡ true → AllByRecursion (Below (put_line h (k, x))) (map (put_line (header c)) its)
one_above h k x c [] e = tt
one_above h k x c (it ∷ its) e = (across h (header c) k it.0 x it.1 e, one_above h k x c its e)

all_above : (it : Consignment) (k : ℕ) (x : Line) (its : List Consignment) → Above it its
    → AllByRecursion (Below (put_line (header it) (k, x))) (flat_map placed its)
all_above it k x [] up = tt
all_above it k x (c ∷ its) up =
    all-append (Below (put_line (header it) (k, x))) (placed c) (flat_map placed its)
    (one_above (header it) k x c (numbered c.lines) up.0) (all_above it k x its up.1)

each_above : (it : Consignment) (lines : List (ℕ × Line)) (its : List Consignment) → Above it its
    → AllByRecursion (λ p. AllByRecursion (Below p) (flat_map placed its)) (map (put_line (header it)) lines)
each_above it [] its up = tt
each_above it (x ∷ lines) its up = (all_above it x.0 x.1 its up, each_above it lines its up)

placed_ascend : (its : List Consignment) → Climbing its → IsAscending Below (flat_map placed its)
placed_ascend [] up = tt
placed_ascend (it ∷ its) up =
    ascending-append Below (placed it) (flat_map placed its) (lines_ascend (header it) 1 it.lines)
    (placed_ascend its up.1) (each_above it (numbered it.lines) its up.0)

all_less : (p : Placed) (ps : List Placed) → AllByRecursion (Below p) ps → AllByRecursion (λ q. cmp_placed p q ≡ Less) ps
all_less p [] h = tt
all_less p (q ∷ ps) h = (below_less (placed_key p) (placed_key q) h.0, all_less p ps h.1)

strictly : (ps : List Placed) → IsAscending Below ps → IsAscending (λ p q. cmp_placed p q ≡ Less) ps
strictly [] up = tt
strictly (p ∷ ps) up = (all_less p ps up.0, strictly ps up.1)

not_below : (p q : Placed) → Below p q → is_lt (cmp_placed q p) ≡ false
not_below p q h = ap is_lt (placed_total.antisymm q p ∙ ap ordering_reverse (below_less (placed_key p) (placed_key q) h))

in_order : (ps : List Placed) → IsAscending Below ps → IsSorted cmp_placed ps
in_order [] up k d p q = absurd (omega arith)
in_order (x ∷ []) up k d p q = absurd (omega arith)
in_order (x ∷ y ∷ xs) up zero d p q = not_below x y up.0.0
in_order (x ∷ y ∷ xs) up (suc k) d p q = rw add-one (rw add-one at (in_order (y ∷ xs) up.1 k d (omega arith) (omega arith)))

-- if any consignments have the rows, and the keys of both tables climb, the join finds the consignments
pub join_complete : (others : List Consignment) (hs : List Header) (ps : List Placed) → IsPermutation (map header others) hs
    → IsPermutation (flat_map placed others) ps → climbs (map header_key hs) ≡ true → climbs (map placed_key ps) ≡ true
    → (its : List Consignment) × IsPermutation others its × (join hs ps ≡ Some its)
join_complete others hs ps p q up down =
    let found = unmapped_bag header _ hs p others refl in
    let climbing : Climbing found.0 = unmapped_ascending header (λ g h. is_below (header_key g) (header_key h) ≡ true) found.0
    (subst (IsAscending (λ g h. is_below (header_key g) (header_key h) ≡ true)) (sym found.2) (ascending_from_climbs header_key hs up)) in
    let bag : IsPermutation (flat_map placed found.0) ps =
    IsPermutation-trans _ _ _ (IsPermutation-sym _ _ (IsPermutation-flat_map placed others found.0 found.1)) q in
    let same : ps ≡ flat_map placed found.0
    =
    sorted_unique cmp_placed placed_total (flat_map placed found.0) ps
    (strictly _ (placed_ascend found.0 climbing)) bag (in_order ps (ascending_from_climbs placed_key ps down)) in
    (found.0, found.1, (λ i. join (sym found.2 i) (same i)) ∙ join_again found.0 climbing)

-- ---- one consignment after another, over rows as they were read

pub front-map : {X Y : Type 0} (p : Y → Bool) (f : X → Y) (xs : List X) → front_of p (map f xs) ≡ map f (front_of (λ x. p (f x)) xs)
front-map p f [] = refl
front-map p f (x ∷ xs) = go (p (f x)) (front-map p f xs)
  where
    go : (t : Bool) → front_of p (map f xs) ≡ map f (front_of (λ y. p (f y)) xs)
        → cond t (f x ∷ front_of p (map f xs)) [] ≡ map f (cond t (x ∷ front_of (λ y. p (f y)) xs) [])
    go true more = ap (λ l. f x ∷ l) more
    go false more = refl

pub back-map : {X Y : Type 0} (p : Y → Bool) (f : X → Y) (xs : List X) → back_of p (map f xs) ≡ map f (back_of (λ x. p (f x)) xs)
back-map p f [] = refl
back-map p f (x ∷ xs) = go (p (f x)) (back-map p f xs)
  where
    go : (t : Bool) → back_of p (map f xs) ≡ map f (back_of (λ y. p (f y)) xs)
        → cond t (back_of p (map f xs)) (f x ∷ map f xs) ≡ map f (cond t (back_of (λ y. p (f y)) xs) (x ∷ xs))
    go true more = more
    go false more = refl

some_more : (it : Consignment) (o : Option (List Consignment)) → is_some (with_first it o) ≡ is_some o
some_more it None = refl
some_more it (Some its) = refl

module _ {X : Type 0} (f : X → Placed) where
  pub typed_step : (h : Header) (hs : List Header) (rest front back : List X) (t : Bool)
      → front ≡ front_of (λ x. is_line_of h (f x)) rest → back ≡ back_of (λ x. is_line_of h (f x)) rest
      → counts_from 1 (map (λ x. (f x).at) front) ≡ t → is_some (join (h ∷ hs) (map f rest)) ≡ cond t (is_some (join hs (map f back))) false
  typed_step h hs rest front back t a b c =
      (λ i. is_some (cond (counts_from 1 (map (λ p. p.at) (cut i))) (with_first (whole h (cut i)) (join hs (left i))) None))
      ∙ (λ i. is_some (cond (counted_so i) (with_first (whole h (map f front)) (join hs (map f back))) None)) ∙ go t
    where
      cut : front_of (is_line_of h) (map f rest) ≡ map f front
      cut = front-map (is_line_of h) f rest ∙ sym (ap (map f) a)

      left : back_of (is_line_of h) (map f rest) ≡ map f back
      left = back-map (is_line_of h) f rest ∙ sym (ap (map f) b)

      counted_so : counts_from 1 (map (λ p. p.at) (map f front)) ≡ t
      counted_so = ap (counts_from 1) (map-twice (λ (p : Placed). p.at) f front) ∙ c

      go : (t : Bool) → is_some (cond t (with_first (whole h (map f front)) (join hs (map f back))) None) ≡ cond t (is_some (join hs (map f back))) false
      go true = some_more (whole h (map f front)) (join hs (map f back))
      go false = refl

pub header_next : {A B : Type 0} (f : A → B) (xs : List A) (i : ℕ) (x : A) → i < length xs
    → x ≡ get_or xs i x → map f (drop i xs) ≡ f x ∷ map f (drop (i + 1) xs)
header_next {A} f xs i x h e =
    let cut : drop i xs ≡ x ∷ drop (i + 1) xs = rw (add-one, drop-cons xs i x h) (λ j. sym e j ∷ drop (suc i) xs) in
    ap (map f) cut
