-- In the books' own counts, the numbers of the pairs agree with the numbers of the consignments.
use Rattle.shop_schema.proofs.Common.{all_weaker, append-nil, append_assoc, ◌≡◌, ◌≤◌, ◌<◌, ◌+◌, ◌^◌, ◌==◌, ◌&&◌, ℕ, suc, List, [], ◌∷◌, ◌++◌, map, filter}
use Rattle.shop_schema.proofs.Common.{length, Bool, true, false, cond, refl, sym, ap, subst, ◌∙◌, arith, AllByRecursion, and_parts, nat_tests, length_push}
use Rattle.shop_schema.proofs.Common.{all-filter, PicksOne, IsCounted, AreNumbered, Books, Consignment, is_consignment, between, one_more, same_if, equal_test}
use Rattle.shop_schema.proofs.Common.{Pair, is_pair, count_pair, last_of, pairs_of, add_pair, counts_of, IsHeld, IsNumber, IsConsignment}
use Rattle.std.specs.Prelude.{fold}
use Rattle.shop_schema.proofs.Lists.{counted_once, filter_twice}
use Rattle.consign_store.specs.Parts.{CountsPairOnce}

-- ---- a key occurs once

pub picks_consignment : (s a n : ℕ) (cs : List Consignment)
    → AreNumbered (λ (it : Consignment). it.source == s && it.addressee == a) (λ it. it.number) cs → PicksOne (is_consignment s a n) cs
picks_consignment s a n cs counted =
    subst (λ (l : List Consignment). length l ≤ 1) (sym (filter_twice (λ (it : Consignment). it.source == s && it.addressee == a) (λ it. it.number == n) cs))
    (counted_once (λ (it : Consignment). it.number) 1 (between s a cs) n counted)

-- ---- one more consignment

pub pairs_push : (cs : List Consignment) (it : Consignment) → pairs_of (cs ++ it ∷ []) ≡ count_pair it.source it.addressee (pairs_of cs)
pairs_push cs it = go [] cs
  where
    go : (pairs : List Pair) (cs : List Consignment) → fold (λ pairs it. count_pair it.source it.addressee pairs) pairs (cs ++ it ∷ [])
        ≡ count_pair it.source it.addressee (fold (λ pairs it. count_pair it.source it.addressee pairs) pairs cs)
    go pairs [] = refl
    go pairs (c ∷ cs) = go (count_pair c.source c.addressee pairs) cs

-- a dispatch's counts, as far as pairs go
pub pair_counted : (books : Books) (it : Consignment)
    → (counts_of (record books { consignments = books.consignments ++ it ∷ [] })) ≡ add_pair it.source it.addressee (counts_of books)
pair_counted books it = λ i. record { counters = (counts_of books).counters; outs = (counts_of books).outs; pairs = pairs_push books.consignments it i }

-- ---- what the rows say

-- of the consignments so far each pair's row says how many there are, and there is one row at most
pub record Counted (done : List Consignment) (pairs : List Pair) : Type 0 where
  pub last : (s a : ℕ) → last_of s a pairs ≡ length (between s a done)
  pub once : (s a : ℕ) → PicksOne (is_pair s a) pairs
  pub each : AllByRecursion (λ (pair : Pair). pair.last ≤ length (between pair.source pair.addressee done)) pairs

is_its : (s a : ℕ) (pair : Pair) → is_pair s a pair ≡ true → (pair.source ≡ s) × (pair.addressee ≡ a)
is_its s a pair hit = let parts = and_parts (pair.source == s) (pair.addressee == a) hit in (same_if pair.source s parts.0, same_if pair.addressee a parts.1)

module _ (it : Consignment) where
  abbrev s : ℕ
  s = it.source

  abbrev a : ℕ
  a = it.addressee

  abbrev of_other : ℕ → ℕ → Bool
  of_other t b = s == t && a == b

  more_between : (t b : ℕ) (done : List Consignment)
      → length (between t b (done ++ it ∷ [])) ≡ cond (of_other t b) (length (between t b done) + 1) (length (between t b done))
  more_between t b done = ap length (one_more (λ (c : Consignment). c.source == t && c.addressee == b) done it) ∙ go (of_other t b)
    where
      go : (is : Bool) → length (cond is (between t b done ++ it ∷ []) (between t b done)) ≡ cond is (length (between t b done) + 1) (length (between t b done))
      go true = length_push (between t b done) it
      go false = refl

  -- a row that counts the pair counts another pair exactly if the two pairs are the same
  both_are : (t b : ℕ) (pair : Pair) → is_pair s a pair ≡ true → is_pair t b pair ≡ of_other t b
  both_are t b pair hit = let key = is_its s a pair hit in (λ i. (key.0 i == t) && (key.1 i == b))

  last_counted : (t b : ℕ) (pairs : List Pair) → last_of t b (count_pair s a pairs) ≡ cond (of_other t b) (last_of t b pairs + 1) (last_of t b pairs)
  last_counted t b [] = go (of_other t b)
    where
      go : (is : Bool) → cond is 1 0 ≡ cond is (0 + 1) 0
      go true = refl
      go false = refl
  last_counted t b (pair ∷ pairs) = go (is_pair s a pair) refl (last_counted t b pairs)
    where
      go : (here : Bool) → is_pair s a pair ≡ here → last_of t b (count_pair s a pairs) ≡ cond (of_other t b) (last_of t b pairs + 1) (last_of t b pairs)
          → last_of t b (cond here (record pair { last = pair.last + 1 } ∷ pairs) (pair ∷ count_pair s a pairs))
          ≡ cond (of_other t b) (last_of t b (pair ∷ pairs) + 1) (last_of t b (pair ∷ pairs))
      go true hit more = pick (of_other t b) (both_are t b pair hit)
        where
          pick : (is : Bool) → is_pair t b pair ≡ is
              → last_of t b (record pair { last = pair.last + 1 } ∷ pairs) ≡ cond is (last_of t b (pair ∷ pairs) + 1) (last_of t b (pair ∷ pairs))
          pick true e = rw e refl
          pick false e = rw e refl
      go false miss more = pick (is_pair t b pair) refl (of_other t b) refl
        where
          pick : (is : Bool) → is_pair t b pair ≡ is → (same : Bool) → of_other t b ≡ same
              → last_of t b (pair ∷ count_pair s a pairs) ≡ cond same (last_of t b (pair ∷ pairs) + 1) (last_of t b (pair ∷ pairs))
          pick true e true f =
              let parts = and_parts (s == t) (a == b) f in
              let source : s ≡ t = same_if s t parts.0 in
              let addressee : a ≡ b = same_if a b parts.1 in
              let also : is_pair s a pair ≡ true =
              subst (λ (k : ℕ). is_pair k a pair ≡ true) (sym source) (subst (λ (k : ℕ). is_pair t k pair ≡ true) (sym addressee) e) in
              let wrong : true ≡ false = sym also ∙ miss in
              absurd cc
          pick true e false f = rw e refl
          pick false e true f = rw e (more ∙ ap (λ (c : Bool). cond c (last_of t b pairs + 1) (last_of t b pairs)) f)
          pick false e false f = rw e (more ∙ ap (λ (c : Bool). cond c (last_of t b pairs + 1) (last_of t b pairs)) f)

  own_one : (pairs : List Pair) → PicksOne (is_pair s a) pairs → length (filter (is_pair s a) (count_pair s a pairs)) ≤ 1
  own_one [] few = go (is_pair s a first)
    where
      first : Pair
      first = record { source = s; addressee = a; last = 1 }

      go : (is : Bool) → length (cond is (first ∷ []) []) ≤ 1
      go true = omega arith
      go false = omega arith
  own_one (pair ∷ pairs) few = go (is_pair s a pair) refl (own_one pairs)
    where
      go : (here : Bool) → is_pair s a pair ≡ here → (PicksOne (is_pair s a) pairs → length (filter (is_pair s a) (count_pair s a pairs)) ≤ 1)
          → length (filter (is_pair s a) (cond here (record pair { last = pair.last + 1 } ∷ pairs) (pair ∷ count_pair s a pairs))) ≤ 1
      go true hit more = let short : length (pair ∷ filter (is_pair s a) pairs) ≤ 1 = rw hit at few in rw hit (omega (arith, short))
      go false miss more = let short : PicksOne (is_pair s a) pairs = rw miss at few in rw miss (more short)

  others_stay : (t b : ℕ) → of_other t b ≡ false → (pairs : List Pair)
      → length (filter (is_pair t b) (count_pair s a pairs)) ≡ length (filter (is_pair t b) pairs)
  others_stay t b other [] = rw other refl
  others_stay t b other (pair ∷ pairs) = go (is_pair s a pair) refl (others_stay t b other pairs)
    where
      go : (here : Bool) → is_pair s a pair ≡ here → length (filter (is_pair t b) (count_pair s a pairs)) ≡ length (filter (is_pair t b) pairs)
          → length (filter (is_pair t b) (cond here (record pair { last = pair.last + 1 } ∷ pairs) (pair ∷ count_pair s a pairs)))
          ≡ length (filter (is_pair t b) (pair ∷ pairs))
      go true hit more = let away : is_pair t b pair ≡ false = both_are t b pair hit ∙ other in rw away refl
      go false miss more = pick (is_pair t b pair) more
        where
          pick : (is : Bool) → length (filter (is_pair t b) (count_pair s a pairs)) ≡ length (filter (is_pair t b) pairs)
              → length (cond is (pair ∷ filter (is_pair t b) (count_pair s a pairs)) (filter (is_pair t b) (count_pair s a pairs)))
              ≡ length (cond is (pair ∷ filter (is_pair t b) pairs) (filter (is_pair t b) pairs))
          pick true e = ap suc e
          pick false e = e

  once_counted : (t b : ℕ) (pairs : List Pair) → PicksOne (is_pair t b) pairs → PicksOne (is_pair s a) pairs → PicksOne (is_pair t b) (count_pair s a pairs)
  once_counted t b pairs few its = go (of_other t b) refl
    where
      go : (is : Bool) → of_other t b ≡ is → length (filter (is_pair t b) (count_pair s a pairs)) ≤ 1
      go true hit =
          let parts = and_parts (s == t) (a == b) hit in
          let source : s ≡ t = same_if s t parts.0 in
          let addressee : a ≡ b = same_if a b parts.1 in
          subst (λ (k : ℕ). length (filter (is_pair k b) (count_pair s a pairs)) ≤ 1) source
          (subst (λ (k : ℕ). length (filter (is_pair s k) (count_pair s a pairs)) ≤ 1) addressee (own_one pairs its))
      go false miss = subst (λ (n : ℕ). n ≤ 1) (sym (others_stay t b miss pairs)) few

  grows : (t b : ℕ) (done : List Consignment) → length (between t b done) ≤ length (between t b (done ++ it ∷ []))
  grows t b done = subst (λ (n : ℕ). length (between t b done) ≤ n) (sym (more_between t b done)) (go (of_other t b))
    where
      go : (is : Bool) → length (between t b done) ≤ cond is (length (between t b done) + 1) (length (between t b done))
      go true = omega arith
      go false = omega arith

  abbrev Within : List Consignment → Pair → Type 0
  Within done pair = pair.last ≤ length (between pair.source pair.addressee done)

  all_grow : (done : List Consignment) (pairs : List Pair) → AllByRecursion (Within done) pairs → AllByRecursion (Within (done ++ it ∷ [])) pairs
  all_grow done = all_weaker (Within done) (Within (done ++ it ∷ [])) (λ pair few. let more = grows pair.source pair.addressee done in omega (arith, more, few))

  -- if the pair is the consignment's own, there is one more consignment
  one_grown : (t b : ℕ) → t ≡ s → b ≡ a → (done : List Consignment) → length (between t b (done ++ it ∷ [])) ≡ length (between t b done) + 1
  one_grown t b source addressee done =
      let own : of_other t b ≡ true = (λ i. and_parts_of (equal_test s t (sym source)) (equal_test a b (sym addressee)) i) in
      more_between t b done ∙ ap (λ (is : Bool). cond is (length (between t b done) + 1) (length (between t b done))) own
    where
      and_parts_of : {x y : Bool} → x ≡ true → y ≡ true → (x && y) ≡ true
      and_parts_of e f = (λ i. e i && f i)

  each_counted : (done : List Consignment) (pairs : List Pair) → AllByRecursion (Within done) pairs
      → AllByRecursion (Within (done ++ it ∷ [])) (count_pair s a pairs)
  each_counted done [] all = (let one = one_grown s a refl refl done in omega (arith, one), tt)
  each_counted done (pair ∷ pairs) all = go (is_pair s a pair) refl (each_counted done pairs all.1)
    where
      go : (here : Bool) → is_pair s a pair ≡ here → AllByRecursion (Within (done ++ it ∷ [])) (count_pair s a pairs)
          → AllByRecursion (Within (done ++ it ∷ [])) (cond here (record pair { last = pair.last + 1 } ∷ pairs) (pair ∷ count_pair s a pairs))
      go true hit more =
          let key = is_its s a pair hit in
          let one = one_grown pair.source pair.addressee key.0 key.1 done in
          (omega (arith, one, all.0), all_grow done pairs all.1)
      go false miss more = (let larger = grows pair.source pair.addressee done in omega (arith, larger, all.0), more)

  next : (done : List Consignment) (pairs : List Pair) → Counted done pairs → Counted (done ++ it ∷ []) (count_pair s a pairs)
  next done pairs so_far = record {
    last = λ t b. last_counted t b pairs ∙ ap (λ (n : ℕ). cond (of_other t b) (n + 1) n) (so_far.last t b) ∙ sym (more_between t b done);
    once = λ t b. once_counted t b pairs (so_far.once t b) (so_far.once s a);
    each = each_counted done pairs so_far.each;
  }

counted_along : (done : List Consignment) (pairs : List Pair) (cs : List Consignment) → Counted done pairs
    → Counted (done ++ cs) (fold (λ pairs it. count_pair it.source it.addressee pairs) pairs cs)
counted_along done pairs [] so_far = subst (λ (l : List Consignment). Counted l pairs) (sym (append-nil done)) so_far
counted_along done pairs (it ∷ cs) so_far =
    subst (λ (l : List Consignment). Counted l (fold (λ pairs it. count_pair it.source it.addressee pairs) (count_pair it.source it.addressee pairs) cs))
    (append_assoc done (it ∷ []) cs)
    (counted_along (done ++ it ∷ []) (count_pair it.source it.addressee pairs) cs (next it done pairs so_far))

counted_all : (cs : List Consignment) → Counted cs (pairs_of cs)
counted_all cs = counted_along [] [] cs (record { last = λ t b. refl; once = λ t b. omega arith; each = tt })

-- the number of the pair's consignments
pub pair_last : (s a : ℕ) (books : Books) → last_of s a (counts_of books).pairs ≡ length (between s a books.consignments)
pair_last s a books = (counted_all books.consignments).last s a

-- no row of the pair says none
pub none_said : (s a : ℕ) (pairs : List Pair) → filter (is_pair s a) pairs ≡ [] → last_of s a pairs ≡ 0
none_said s a [] none = refl
none_said s a (pair ∷ pairs) none = go (is_pair s a pair) none (none_said s a pairs)
  where
    go : (b : Bool) → cond b (pair ∷ filter (is_pair s a) pairs) (filter (is_pair s a) pairs) ≡ []
        → (filter (is_pair s a) pairs ≡ [] → last_of s a pairs ≡ 0) → cond b pair.last (last_of s a pairs) ≡ 0
    go true e more = absurd cc
    go false e more = more e

-- ---- the next number is new

none_above : (k n : ℕ) (cs : List Consignment) → IsCounted k (map (λ (it : Consignment). it.number) cs)
    → k + length cs ≤ n → filter (λ (it : Consignment). it.number == n) cs ≡ []
none_above k n [] counted high = refl
none_above k n (it ∷ cs) counted high =
    let other : (it.number == n) ≡ false = grind (arith, nat_tests, counted.0, high) in
    rw other (none_above (k + 1) n cs counted.1 (omega (arith, high)))

pub next_is_new : (s a : ℕ) (books : Books) → IsHeld books → filter (is_consignment s a (length (between s a books.consignments) + 1)) books.consignments ≡ []
next_is_new s a books held =
    let n = length (between s a books.consignments) + 1 in
    filter_twice (λ (it : Consignment). it.source == s && it.addressee == a) (λ it. it.number == n) books.consignments
    ∙ none_above 1 n (between s a books.consignments) (held.numbers.consignments s a) (omega arith)

-- ---- the counts of the pairs can be raised by one

short_from : (k : ℕ) (cs : List Consignment) → k ≤ 2 ^ 32 → IsCounted k (map (λ (it : Consignment). it.number) cs)
    → AllByRecursion (λ (it : Consignment). it.number < 2 ^ 32) cs → k + length cs ≤ 2 ^ 32
short_from k [] low counted all = omega (arith, low)
short_from k (it ∷ cs) low counted all = let rest = short_from (k + 1) cs (omega (arith, counted.0, all.0)) counted.1 all.1 in omega (arith, rest)

number_small : (n : ℕ) → IsNumber n → n < 2 ^ 32
number_small n is = grind (arith, nat_tests, is)

few_between : (s a : ℕ) (books : Books) → IsHeld books → length (between s a books.consignments) < 2 ^ 32
few_between s a books held =
    let few = short_from 1 (between s a books.consignments) (omega arith) (held.numbers.consignments s a)
    (all-filter (λ (it : Consignment). it.number < 2 ^ 32) (λ (it : Consignment). it.source == s && it.addressee == a) books.consignments
    (all_weaker IsConsignment _ (λ it is. number_small it.number is.number) books.consignments held.values.consignments)) in
    omega (arith, few)

pub pairs_once : (s a : ℕ) (books : Books) → IsHeld books → CountsPairOnce s a (counts_of books)
pairs_once s a books held =
    let all = counted_all books.consignments in
    record {
      once = all.once s a;
      small =
          all_weaker (λ (pair : Pair). pair.last ≤ length (between pair.source pair.addressee books.consignments)) _
          (λ pair within. let few = few_between pair.source pair.addressee books held in omega (arith, few, within))
          (pairs_of books.consignments) all.each;
    }
