-- Consignments: what the checks of their rows say of any books that have the rows.
use Rattle.shop_types.proofs.Common.{◌≡◌, ◌&&◌, ◌+◌, ◌<◌, ◌==◌, ℕ, List, [], ◌∷◌, map, filter, Bool, true, false, cond, refl, sym, ap, subst, ◌∙◌, arith}
use Rattle.shop_types.proofs.Common.{true≢false, IsPermutation, IsSorted, Option, Some, None, nat_lt, Less, nat_cmp, AllByRecursion, list_all, nat_cmp_total}
use Rattle.shop_types.proofs.Common.{on_total, nat_tests, IsPermutation-sym, IsCounted, Consignment, same_if, equal_test}
use Rattle.sqlite_trees.specs.Tree.{IsAscending}
use Rattle.sqlite_keyed.proofs.ListLemmas.{ascending-filter, IsPermutation-filter}
use Rattle.sqlite_keyed.proofs.SortLemmas.{sorted_unique}
use Rattle.audit_rows.specs.Lists.{Key, is_below, climbs, climbs_above, counts_from, front_of, back_of}
use Rattle.audit_rows.specs.Joins.{Header, Placed, header_key, is_line_of, whole, with_first, join}
use Rattle.audit_rows.specs.Consignments.{are_good_lines, is_good_consignment, are_settled, is_pair, follows, pairs_follow_from, pairs_follow}
use Rattle.audit_rows.proofs.Keys.{both}
use Rattle.audit_rows.proofs.Maps.{map-twice}
use Rattle.audit_rows.proofs.JoinLemmas.{front-map, back-map}
use Rattle.audit_rows.proofs.Canon.{above_all, counted_above, all_less, counted_ascends, ascending_from_climbs, one_rising, sorted_from_rising}
use Rattle.audit_rows.proofs.Tests.{counted_is}

-- ---- lines

module _ {X : Type 0} (f : X → Placed) where
  pub settled_step : (films : ℕ) (h : Header) (hs : List Header) (rest front back : List X) (t : Bool)
      → front ≡ front_of (λ x. is_line_of h (f x)) rest → back ≡ back_of (λ x. is_line_of h (f x)) rest
      → are_good_lines films h.received (map (λ x. (f x).line) front) ≡ t → are_settled films (h ∷ hs) (map f rest) ≡ (t && are_settled films hs (map f back))
  settled_step films h hs rest front back t a b c =
      let cut : front_of (is_line_of h) (map f rest) ≡ map f front = front-map (is_line_of h) f rest ∙ sym (ap (map f) a) in
      let left : back_of (is_line_of h) (map f rest) ≡ map f back = back-map (is_line_of h) f rest ∙ sym (ap (map f) b) in
      let lines : map (λ p. p.line) (map f front) ≡ map (λ x. (f x).line) front = map-twice (λ (p : Placed). p.line) f front in
      (λ i. are_good_lines films h.received (map (λ p. p.line) (cut i)) && are_settled films hs (left i))
      ∙ (λ i. (ap (are_good_lines films h.received) lines ∙ c) i && are_settled films hs (map f back))

pub settled_join : (films : ℕ) (hs : List Header) (ps : List Placed) (its : List Consignment)
    → join hs ps ≡ Some its → are_settled films hs ps ≡ list_all (is_good_consignment films) its
settled_join films [] [] [] e = refl
settled_join films [] [] (it ∷ its) e = cc
settled_join films [] (p ∷ ps) its e = cc
settled_join films (h ∷ hs) ps its e =
    go (counts_from 1 (map (λ p. p.at) (front_of (is_line_of h) ps)))
    (join hs (back_of (is_line_of h) ps)) its e (settled_join films hs (back_of (is_line_of h) ps))
  where
    go : (t : Bool) (o : Option (List Consignment)) (its : List Consignment) → cond t (with_first (whole h (front_of (is_line_of h) ps)) o) None ≡ Some its
        → ((rest : List Consignment) → o ≡ Some rest → are_settled films hs (back_of (is_line_of h) ps) ≡ list_all (is_good_consignment films) rest)
        → (are_good_lines films h.received (map (λ p. p.line) (front_of (is_line_of h) ps)) && are_settled films hs (back_of (is_line_of h) ps))
        ≡ list_all (is_good_consignment films) its
    go false o its e more = cc
    go true None its e more = cc
    go true (Some rest) [] e more = cc
    go true (Some rest) (it ∷ its) e more =
        let first : whole h (front_of (is_line_of h) ps) ≡ it = cc in
        let others : rest ≡ its = cc in
        let known = more rest refl ∙ ap (list_all (is_good_consignment films)) others in
        (λ i. is_good_consignment films (first i) && known i)

-- ---- numbers that count

itself : (ns : List ℕ) → map (λ (n : ℕ). n) ns ≡ ns
itself [] = refl
itself (n ∷ ns) = ap (λ l. n ∷ l) (itself ns)

sorted_same : (ms ns : List ℕ) → IsPermutation ms ns → IsSorted nat_cmp ns → counts_from 1 ms ≡ true → ns ≡ ms
sorted_same ms ns p s h =
    let counted : IsCounted 1 (map (λ (n : ℕ). n) ms) = subst (IsCounted 1) (sym (itself ms)) (counted_is 1 ms h) in
    sorted_unique nat_cmp nat_cmp_total ms ns (counted_ascends (λ (n : ℕ). n) 1 ms counted) p s

-- if two orders of the same numbers both rise, both count or neither does
pub sorted_counts : (ms ns : List ℕ) → IsPermutation ms ns → IsSorted nat_cmp ms → IsSorted nat_cmp ns → counts_from 1 ms ≡ counts_from 1 ns
sorted_counts ms ns p s t = go (counts_from 1 ms) (counts_from 1 ns) refl refl
  where
    go : (a b : Bool) → counts_from 1 ms ≡ a → counts_from 1 ns ≡ b → a ≡ b
    go true true e f = refl
    go false false e f = refl
    go true false e f = sym e ∙ sym (ap (counts_from 1) (sorted_same ms ns p t e)) ∙ f
    go false true e f = sym e ∙ ap (counts_from 1) (sorted_same ns ms (IsPermutation-sym _ _ p) s f) ∙ f

-- ---- numbers of a sender and an addressee

-- which consignments may follow a number and a place, and which may come first
abbrev goes_on : ℕ → ℕ → List Header → Bool
goes_on n p [] = true
goes_on n p (h ∷ hs) = h.number == n + 1 && nat_lt p h.place && goes_on h.number h.place hs

abbrev begins : List Header → Bool
begins [] = true
begins (h ∷ hs) = h.number == 1 && goes_on h.number h.place hs

-- whether the consignments from s to a in the list may come after the consignment `last`
abbrev goes : ℕ → ℕ → Header → List Header → Bool
goes s a last hs = cond (is_pair s a last) (goes_on last.number last.place (filter (is_pair s a) hs)) (begins (filter (is_pair s a) hs))

between : (s a n c d m k : ℕ) → is_below (s ∷ a ∷ n ∷ []) (c ∷ d ∷ m ∷ []) ≡ true
    → is_below (c ∷ d ∷ m ∷ []) (s ∷ a ∷ k ∷ []) ≡ true → (c == s && d == a) ≡ true
between s a n c d m k h i = grind (arith, nat_tests)

pair_is : (s a : ℕ) (h : Header) → is_pair s a h ≡ true → (h.source ≡ s) × (h.addressee ≡ a)
pair_is s a h e = let parts = both (h.source == s) (h.addressee == a) e in (grind (arith, nat_tests), grind (arith, nat_tests))

is_own : (h : Header) → is_pair h.source h.addressee h ≡ true
is_own h = (λ i. same h.source i && same h.addressee i)
  where
    same : (n : ℕ) → (n == n) ≡ true
    same n = grind (arith, nat_tests)

module _ (s a : ℕ) where
  -- if a consignment from s to a is followed by one of another pair, no later consignment is from s to a
  no_more : (last h : Header) (hs : List Header) → is_below (header_key last) (header_key h) ≡ true
      → AllByRecursion (λ k. is_below (header_key h) k ≡ true) (map header_key hs)
      → is_pair s a last ≡ true → is_pair s a h ≡ false → filter (is_pair s a) hs ≡ []
  no_more last h [] below up p q = refl
  no_more last h (x ∷ hs) below up p q = go (is_pair s a x) refl (no_more last h hs below up.1 p q)
    where
      go : (t : Bool) → is_pair s a x ≡ t → filter (is_pair s a) hs ≡ [] → cond t (x ∷ filter (is_pair s a) hs) (filter (is_pair s a) hs) ≡ []
      go false e more = more
      go true e more =
          let one = pair_is s a last p in
          let two = pair_is s a x e in
          let first : is_below (s ∷ a ∷ last.number ∷ []) (header_key h) ≡ true =
          subst (λ (k : Key). is_below k (header_key h) ≡ true) (λ i. one.0 i ∷ one.1 i ∷ last.number ∷ []) below in
          let second : is_below (header_key h) (s ∷ a ∷ x.number ∷ []) ≡ true =
          subst (λ (k : Key). is_below (header_key h) k ≡ true) (λ i. two.0 i ∷ two.1 i ∷ x.number ∷ []) up.0 in
          absurd (true≢false (sym (between s a last.number h.source h.addressee h.number x.number first second) ∙ q))

pair_moves : (s a : ℕ) (h last : Header) → is_pair s a h ≡ true → is_pair h.source h.addressee last ≡ is_pair s a last
pair_moves s a h last e = let it = pair_is s a h e in (λ i. is_pair (it.0 i) (it.1 i) last)

pub goes_from : (last : Header) (hs : List Header) → climbs_above (header_key last) (map header_key hs) ≡ true
    → pairs_follow_from last hs ≡ true → (s a : ℕ) → goes s a last hs ≡ true
goes_from last [] up f s a = go (is_pair s a last)
  where
    go : (t : Bool) → cond t true true ≡ true
    go true = refl
    go false = refl
goes_from last (h ∷ hs) up f s a =
    let ups = both (is_below (header_key last) (header_key h)) (climbs_above (header_key h) (map header_key hs)) up in
    let fs = both (follows last h) (pairs_follow_from h hs) f in
    go (is_pair s a last) (is_pair s a h) refl refl ups.0 (above_all (header_key h) (map header_key hs) ups.1) fs.0 (goes_from h hs ups.1 fs.1 s a)
  where
    open_follows : (t u : Bool) → is_pair h.source h.addressee last ≡ t → follows last h ≡ true
        → cond t (h.number == last.number + 1 && nat_lt last.place h.place) (h.number == 1) ≡ true
    open_follows t u e g = subst (λ (b : Bool). cond b (h.number == last.number + 1 && nat_lt last.place h.place) (h.number == 1) ≡ true) e g

    go : (t u : Bool) → is_pair s a last ≡ t → is_pair s a h ≡ u → is_below (header_key last) (header_key h) ≡ true
        → AllByRecursion (λ k. is_below (header_key h) k ≡ true) (map header_key hs)
        → follows last h ≡ true → cond (is_pair s a h) (goes_on h.number h.place (filter (is_pair s a) hs)) (begins (filter (is_pair s a) hs)) ≡ true
        → cond t (goes_on last.number last.place (cond u (h ∷ filter (is_pair s a) hs) (filter (is_pair s a) hs)))
        (begins (cond u (h ∷ filter (is_pair s a) hs) (filter (is_pair s a) hs)))
        ≡ true
    go true true e g below up g1 more =
        let first = open_follows true true (pair_moves s a h last g ∙ e) g1 in
        let rest : goes_on h.number h.place (filter (is_pair s a) hs) ≡ true =
        subst (λ (b : Bool). cond b (goes_on h.number h.place (filter (is_pair s a) hs)) (begins (filter (is_pair s a) hs)) ≡ true) g more in
        (λ i. first i && rest i)
    go true false e g below up g1 more = ap (goes_on last.number last.place) (no_more s a last h hs below up e g)
    go false true e g below up g1 more =
        let first = open_follows false true (pair_moves s a h last g ∙ e) g1 in
        let rest : goes_on h.number h.place (filter (is_pair s a) hs) ≡ true =
        subst (λ (b : Bool). cond b (goes_on h.number h.place (filter (is_pair s a) hs)) (begins (filter (is_pair s a) hs)) ≡ true) g more in
        (λ i. first i && rest i)
    go false false e g below up g1 more =
        subst (λ (b : Bool). cond b (goes_on h.number h.place (filter (is_pair s a) hs)) (begins (filter (is_pair s a) hs)) ≡ true) g more

module _ (last h : Header) (hs : List Header) (s a : ℕ) where
  abbrev others : List Header
  others = filter (is_pair s a) hs

  abbrev Goes : Bool → Bool → Type 0
  Goes t u = cond t (goes_on last.number last.place (cond u (h ∷ others) others)) (begins (cond u (h ∷ others) others)) ≡ true

  is_next : (t : Bool) → Goes t true → cond t (h.number == last.number + 1 && nat_lt last.place h.place) (h.number == 1) ≡ true
  is_next true it = (both (h.number == last.number + 1 && nat_lt last.place h.place) (goes_on h.number h.place others) it).0
  is_next false it = (both (h.number == 1) (goes_on h.number h.place others) it).0

  still_goes : (t u : Bool) → is_pair s a last ≡ t → is_pair s a h ≡ u → is_below (header_key last) (header_key h) ≡ true
      → AllByRecursion (λ k. is_below (header_key h) k ≡ true) (map header_key hs)
      → Goes t u → cond u (goes_on h.number h.place others) (begins others) ≡ true
  still_goes true true e g below up it = (both (h.number == last.number + 1 && nat_lt last.place h.place) (goes_on h.number h.place others) it).1
  still_goes false true e g below up it = (both (h.number == 1) (goes_on h.number h.place others) it).1
  still_goes true false e g below up it = ap begins (no_more s a last h hs below up e g)
  still_goes false false e g below up it = it

pub follows_from : (last : Header) (hs : List Header) → climbs_above (header_key last) (map header_key hs) ≡ true
    → ((s a : ℕ) → goes s a last hs ≡ true) → pairs_follow_from last hs ≡ true
follows_from last [] up all = refl
follows_from last (h ∷ hs) up all =
    let ups = both (is_below (header_key last) (header_key h)) (climbs_above (header_key h) (map header_key hs)) up in
    let rest =
    follows_from h hs ups.1
    (λ s a. still_goes last h hs s a (is_pair s a last) (is_pair s a h) refl refl ups.0 (above_all (header_key h) (map header_key hs) ups.1) (all s a)) in
    let first =
    is_next last h hs h.source h.addressee (is_pair h.source h.addressee last)
    (subst (Goes last h hs h.source h.addressee (is_pair h.source h.addressee last)) (is_own h) (all h.source h.addressee)) in
    (λ i. first i && rest i)

pub pairs_hold : (hs : List Header) → climbs (map header_key hs) ≡ true → pairs_follow hs ≡ true → (s a : ℕ) → begins (filter (is_pair s a) hs) ≡ true
pairs_hold [] up f s a = refl
pairs_hold (h ∷ hs) up f s a =
    let fs = both (h.number == 1) (pairs_follow_from h hs) f in
    go (is_pair s a h) fs.0 (goes_from h hs up fs.1 s a)
  where
    go : (t : Bool) → (h.number == 1) ≡ true → cond t (goes_on h.number h.place (filter (is_pair s a) hs)) (begins (filter (is_pair s a) hs)) ≡ true
        → begins (cond t (h ∷ filter (is_pair s a) hs) (filter (is_pair s a) hs)) ≡ true
    go true e it = (λ i. e i && it i)
    go false e it = it

pub hold_pairs : (hs : List Header) → climbs (map header_key hs) ≡ true → ((s a : ℕ) → begins (filter (is_pair s a) hs) ≡ true) → pairs_follow hs ≡ true
hold_pairs [] up all = refl
hold_pairs (h ∷ hs) up all =
    let own =
    subst (λ (t : Bool). begins (cond t (h ∷ filter (is_pair h.source h.addressee) hs) (filter (is_pair h.source h.addressee) hs)) ≡ true)
    (is_own h) (all h.source h.addressee) in
    let first = (both (h.number == 1) (goes_on h.number h.place (filter (is_pair h.source h.addressee) hs)) own).0 in
    let rest = follows_from h hs up (λ s a. go s a (is_pair s a h) (all s a)) in
    (λ i. first i && rest i)
  where
    go : (s a : ℕ) (t : Bool) → begins (cond t (h ∷ filter (is_pair s a) hs) (filter (is_pair s a) hs)) ≡ true
        → cond t (goes_on h.number h.place (filter (is_pair s a) hs)) (begins (filter (is_pair s a) hs)) ≡ true
    go s a true it = (both (h.number == 1) (goes_on h.number h.place (filter (is_pair s a) hs)) it).1
    go s a false it = it

-- ---- what begins counts, and its places rise

abbrev PlacesRise : List Header → Type 0
PlacesRise = IsAscending (λ x y. x.place < y.place)

is_less : (m n : ℕ) → nat_lt m n ≡ true → m < n
is_less m n h = grind (arith, nat_tests)

lower : (p q : ℕ) → p < q → (hs : List Header) → AllByRecursion (λ x. q < x.place) hs → AllByRecursion (λ x. p < x.place) hs
lower p q h [] all = tt
lower p q h (x ∷ hs) all = (omega (arith, h, all.0), lower p q h hs all.1)

goes_counts : (n p : ℕ) (hs : List Header) → goes_on n p hs ≡ true
    → IsCounted (n + 1) (map (λ h. h.number) hs) × PlacesRise hs × AllByRecursion (λ x. p < x.place) hs
goes_counts n p [] g = (tt, tt, tt)
goes_counts n p (h ∷ hs) g =
    let rest = both (h.number == n + 1 && nat_lt p h.place) (goes_on h.number h.place hs) g in
    let first = both (h.number == n + 1) (nat_lt p h.place) rest.0 in
    let number = same_if h.number (n + 1) first.0 in
    let place = is_less p h.place first.1 in
    let more = goes_counts h.number h.place hs rest.1 in
    ((number, subst (λ m. IsCounted (m + 1) (map (λ x. x.number) hs)) number more.0), (more.2, more.1), (place, lower p h.place place hs more.2))

begins_counts : (hs : List Header) → begins hs ≡ true → IsCounted 1 (map (λ h. h.number) hs) × PlacesRise hs
begins_counts [] g = (tt, tt)
begins_counts (h ∷ hs) g =
    let rest = both (h.number == 1) (goes_on h.number h.place hs) g in
    let number = same_if h.number 1 rest.0 in
    let more = goes_counts h.number h.place hs rest.1 in
    ((number, subst (λ m. IsCounted (m + 1) (map (λ x. x.number) hs)) number more.0), (more.2, more.1))

less_is : (m n : ℕ) → m < n → nat_lt m n ≡ true
less_is m n h = grind (arith, nat_tests)

counts_go : (n p : ℕ) (hs : List Header) → IsCounted (n + 1) (map (λ h. h.number) hs)
    → PlacesRise hs → AllByRecursion (λ x. p < x.place) hs → goes_on n p hs ≡ true
counts_go n p [] c up low = refl
counts_go n p (h ∷ hs) c up low =
    let number = equal_test h.number (n + 1) c.0 in
    let place = less_is p h.place low.0 in
    let rest = counts_go h.number h.place hs (subst (λ m. IsCounted (m + 1) (map (λ x. x.number) hs)) (sym c.0) c.1) up.1 up.0 in
    (λ i. number i && place i && rest i)

counts_begin : (hs : List Header) → IsCounted 1 (map (λ h. h.number) hs) → PlacesRise hs → begins hs ≡ true
counts_begin [] c up = refl
counts_begin (h ∷ hs) c up =
    let number = equal_test h.number 1 c.0 in
    let rest = counts_go h.number h.place hs (subst (λ m. IsCounted (m + 1) (map (λ x. x.number) hs)) (sym c.0) c.1) up.1 up.0 in
    (λ i. number i && rest i)

-- ---- the same in the order of places

rising_places : (hs : List Header) → (k : ℕ) → IsCounted k (map (λ h. h.place) hs) → PlacesRise hs
rising_places [] k c = tt
rising_places (h ∷ hs) k c = (counted_above (λ (x : Header). x.place) (k + 1) hs h.place (omega (arith, c.0)) c.1, rising_places hs (k + 1) c.1)

strictly_less : (hs : List Header) → PlacesRise hs → IsAscending (λ x y. nat_cmp x.place y.place ≡ Less) hs
strictly_less [] up = tt
strictly_less (h ∷ hs) up = (all_less (λ (x : Header). x.place) h hs up.0, strictly_less hs up.1)

within_pair : (s a m n : ℕ) → is_below (s ∷ a ∷ m ∷ []) (s ∷ a ∷ n ∷ []) ≡ true → m < n
within_pair s a m n h = grind (arith, nat_tests)

module _ (s a : ℕ) where
  numbers_above : (h : Header) (hs : List Header) → is_pair s a h ≡ true → AllByRecursion (λ x. is_below (header_key h) (header_key x) ≡ true) hs
      → AllByRecursion (λ x. h.number < x.number) (filter (is_pair s a) hs)
  numbers_above h [] p below = tt
  numbers_above h (x ∷ hs) p below = go (is_pair s a x) refl (numbers_above h hs p below.1)
    where
      go : (t : Bool) → is_pair s a x ≡ t → AllByRecursion (λ y. h.number < y.number) (filter (is_pair s a) hs)
          → AllByRecursion (λ y. h.number < y.number) (cond t (x ∷ filter (is_pair s a) hs) (filter (is_pair s a) hs))
      go false e more = more
      go true e more =
          let one = pair_is s a h p in
          let two = pair_is s a x e in (
            within_pair s a h.number x.number (subst (λ (k : Key). is_below (s ∷ a ∷ h.number ∷ []) k ≡ true) (λ i. two.0 i ∷ two.1 i ∷ x.number ∷ [])
                (subst (λ (k : Key). is_below k (header_key x) ≡ true) (λ i. one.0 i ∷ one.1 i ∷ h.number ∷ []) below.0)),
            more,
          )

  numbers_rise : (hs : List Header) → IsAscending (λ g h. is_below (header_key g) (header_key h) ≡ true) hs
      → IsAscending (λ x y. x.number < y.number) (filter (is_pair s a) hs)
  numbers_rise [] up = tt
  numbers_rise (h ∷ hs) up = go (is_pair s a h) refl (numbers_rise hs up.1)
    where
      go : (t : Bool) → is_pair s a h ≡ t → IsAscending (λ x y. x.number < y.number) (filter (is_pair s a) hs)
          → IsAscending (λ x y. x.number < y.number) (cond t (h ∷ filter (is_pair s a) hs) (filter (is_pair s a) hs))
      go false e more = more
      go true e more = (numbers_above h hs e up.0, more)

-- if consignments are numbered in the order of their places, then in the order of the keys each pair's consignments follow each other
module _ (hs js : List Header) (bag : IsPermutation hs js) (up : climbs (map header_key hs) ≡ true)
    (placed : IsCounted 1 (map (λ (h : Header). h.place) js)) where
  own_bag : (s a : ℕ) → IsPermutation (filter (is_pair s a) hs) (filter (is_pair s a) js)
  own_bag s a = IsPermutation-filter (is_pair s a) hs js bag

  own_rise : (s a : ℕ) → PlacesRise (filter (is_pair s a) js)
  own_rise s a = ascending-filter _ (is_pair s a) js (rising_places js 1 placed)

  pub numbered_from_pairs : pairs_follow hs ≡ true → (s a : ℕ) → IsCounted 1 (map (λ (h : Header). h.number) (filter (is_pair s a) js))
  numbered_from_pairs f s a =
      let known = begins_counts (filter (is_pair s a) hs) (pairs_hold hs up f s a) in
      let same : filter (is_pair s a) js ≡ filter (is_pair s a) hs
      =
      sorted_unique (λ (x y : Header). nat_cmp x.place y.place) (on_total (λ (x : Header). x.place) nat_cmp_total) (filter (is_pair s a) hs)
      (filter (is_pair s a) js) (strictly_less _ known.1) (own_bag s a) (sorted_from_rising (λ (x : Header). x.place) _ (own_rise s a)) in
      subst (λ (xs : List Header). IsCounted 1 (map (λ (h : Header). h.number) xs)) (sym same) known.0

  pub pairs_from_numbered : ((s a : ℕ) → IsCounted 1 (map (λ (h : Header). h.number) (filter (is_pair s a) js))) → pairs_follow hs ≡ true
  pairs_from_numbered all =
      hold_pairs hs up (λ s a. (
      let same : filter (is_pair s a) hs ≡ filter (is_pair s a) js
      =
      one_rising (λ (x : Header). x.number) (filter (is_pair s a) hs) (filter (is_pair s a) js)
      (IsPermutation-sym _ _ (own_bag s a)) (all s a) (numbers_rise s a hs (ascending_from_climbs header_key hs up)) in
      subst (λ (xs : List Header). begins xs ≡ true) (sym same) (counts_begin _ (all s a) (own_rise s a))
      ))
