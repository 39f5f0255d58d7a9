-- Refused entries, and the unsure ones among them.
use Rattle.sql_rows.proofs.Common.{◌≡◌, ◌≢◌, ◌∙◌, ◌+◌, ◌<◌, ◌≤◌, ◌==◌, ◌&&◌, ◌||◌, ℕ, zero, suc, Bool, not, true, false, true≢false, List, [], ◌∷◌, ◌++◌, map}
use Rattle.sql_rows.proofs.Common.{filter, length, slice_get, Option, Some, None, refl, sym, ap, subst, arith, inl, inr, cases_Bool, cond, AllByRecursion}
use Rattle.sql_rows.proofs.Common.{append-nil, map_push, filter-map, delete_where, Differ, list_all, nat_tests, PicksOne, filter_same}
use Rattle.sqlite_keyed.proofs.ListLemmas.{ascending-filter}
use Rattle.std.specs.List.{list_any}
use Rattle.std.proofs.lemmas.Bool.{and_parts}
use Rattle.std.proofs.lemmas.List.Folds.{list_any-append}
use Rattle.std.proofs.Math.Bool.{and-true, and-false}
use Rattle.sqlite_keyed.proofs.ListLemmas.{all_from_test, test_from_all, all_weaker, list_all_push}
use Rattle.sql_rows.proofs.Bags.{length-map}
use Rattle.shop_model.specs.Rows.{numbered, numbered_from}
use Rattle.shop_model.specs.Answers.{Answer}
use Rattle.shop_model.proofs.RowLemmas.{same_if, equal_test, differ_test, turned, numbered_push, one_more}
use Rattle.shop_model.proofs.Resends.{same_some, same_none}
use Rattle.till_model.specs.Settled.{accepted_of}
use Rattle.till_book.specs.Marks.{is_unsure}
use Rattle.till_book.specs.Journal.{Journal, settled_of, reply_of, is_refused, is_unsettled, unsure_of}
use Rattle.till_book.proofs.Numbers.{number, picks_one, numbered_differ, none_of, nothing_in}

abbrev bad : Answer → Bool
bad answer = not (answer.status == 200)

-- ---- the reply to an entry

module _ {A : Type 0} where
  abbrev numbers : ℕ → ℕ × A → Bool
  numbers n it = it.0 == n

  none_high : (n k : ℕ) (xs : List A) → k + length xs ≤ n → filter (numbers n) (numbered_from k xs) ≡ []
  none_high n k [] high = refl
  none_high n k (x ∷ xs) high =
      let differ : (k == n) ≡ false = differ_test k n (λ e. absurd (omega (arith, e, high))) in
      rw differ (none_high n (k + 1) xs (omega (arith, high)))

  none_low : (n k : ℕ) (xs : List A) → n < k → filter (numbers n) (numbered_from k xs) ≡ []
  none_low n k [] low = refl
  none_low n k (x ∷ xs) low =
      let differ : (k == n) ≡ false = differ_test k n (λ e. absurd (omega (arith, e, low))) in
      rw differ (none_low n (k + 1) xs (omega (arith, low)))

-- a refused entry's reply is at the place of its number, and isn't 200
reply_there : (n k : ℕ) (replies : List Answer) → list_any bad (settled_of n (numbered_from k replies)) ≡ true
    → (i : ℕ) × (r : Answer) × (n ≡ k + i) × (slice_get replies i ≡ Some r) × (r.status ≢ 200)
reply_there n k [] some = absurd (true≢false (sym some))
reply_there n k (r ∷ replies) some = elim (cases_Bool (k == n)) [
  | inl is ↦
      let same : k ≡ n = same_if k n is in
      let none : filter (numbers n) (numbered_from (k + 1) replies) ≡ [] = none_low n (k + 1) replies (omega (arith, same)) in
      let said : list_any bad (map (λ (it : ℕ × Answer). it.1) ((k, r) ∷ filter (numbers n) (numbered_from (k + 1) replies))) ≡ true = rw is at some in
      let only : (bad r || false) ≡ true = rw none at said in
      (0, r, omega (arith, same), refl, λ good. absurd (true≢false (sym only ∙ rw (equal_test r.status 200 good) refl)))
  | inr isnt ↦
      let more = reply_there n (k + 1) replies (rw isnt at some) in
      (suc more.0, more.1, omega (arith, more.2), more.3, more.4)
]

pub refused_at : (n : ℕ) (replies : List Answer) → is_refused replies n ≡ true
    → (i : ℕ) × (r : Answer) × (n ≡ i + 1) × (slice_get replies i ≡ Some r) × (r.status ≢ 200)
refused_at n replies some =
    let it = reply_there n 1 replies some in
    (it.0, it.1, omega (arith, it.2), it.3, it.4)

-- an entry after the last reply isn't refused
pub next_unrefused : (replies : List Answer) (n : ℕ) → length replies < n → is_refused replies n ≡ false
next_unrefused replies n high = ap (λ (l : List (ℕ × Answer)). list_any bad (map (λ (it : ℕ × Answer). it.1) l)) (none_high n 1 replies (omega (arith, high)))

-- a refused entry stays refused after one more reply
pub still_refused : (n : ℕ) (replies : List Answer) (a : Answer) → is_refused replies n ≡ true → is_refused (replies ++ a ∷ []) n ≡ true
still_refused n replies a some =
    let old : List (ℕ × Answer) = filter (numbers n) (numbered replies) in
    let last : ℕ × Answer = (1 + length replies, a) in
    let of : List (ℕ × Answer) → Bool = λ l. list_any bad (map (λ (it : ℕ × Answer). it.1) l) in
    let split : is_refused (replies ++ a ∷ []) n ≡ of (cond (1 + length replies == n) (old ++ last ∷ []) old) =
    ap (λ (l : List (ℕ × Answer)). of (filter (numbers n) l)) (numbered_push 1 replies a) ∙ ap of (one_more (numbers n) (numbered replies) last) in
    split ∙ elim (cases_Bool (1 + length replies == n)) [
      | inl is ↦
          rw is
          (ap (list_any bad) (map_push (λ (it : ℕ × Answer). it.1) old last)
          ∙ list_any-append bad (map (λ (it : ℕ × Answer). it.1) old) (a ∷ []) ∙ rw some refl)
      | inr isnt ↦ rw isnt some
    ]

-- ---- entries that are settled

abbrev AreRefused : List Answer → List (ℕ × Answer) → Type 0
AreRefused replies settled = list_all (λ (it : ℕ × Answer). is_refused replies it.0) settled ≡ true

pub stay_refused : (replies : List Answer) (settled : List (ℕ × Answer)) (a : Answer) → AreRefused replies settled → AreRefused (replies ++ a ∷ []) settled
stay_refused replies settled a all =
    test_from_all (λ (it : ℕ × Answer). is_refused (replies ++ a ∷ []) it.0) settled
    (all_weaker (λ (it : ℕ × Answer). is_refused replies it.0 ≡ true)
    (λ (it : ℕ × Answer). is_refused (replies ++ a ∷ []) it.0 ≡ true) (λ it. still_refused it.0 replies a) settled
    (all_from_test (λ (it : ℕ × Answer). is_refused replies it.0) settled all))

pub one_refused : (replies : List Answer) (settled : List (ℕ × Answer)) (n : ℕ) (a : Answer)
    → AreRefused replies settled → is_refused replies n ≡ true → AreRefused replies (settled ++ (n, a) ∷ [])
one_refused replies settled n a all is = list_all_push (λ (it : ℕ × Answer). is_refused replies it.0) settled (n, a) all is

-- an entry without a reply has no settlement
pub none_settled : (replies : List Answer) (settled : List (ℕ × Answer)) (n : ℕ) → AreRefused replies settled → length replies < n → settled_of n settled ≡ []
none_settled replies settled n all high =
    ap (map (λ (it : ℕ × Answer). it.1)) (go settled (all_from_test (λ (it : ℕ × Answer). is_refused replies it.0) settled all))
  where
    go : (settled : List (ℕ × Answer)) → AllByRecursion (λ (it : ℕ × Answer). is_refused replies it.0 ≡ true) settled → filter (numbers n) settled ≡ []
    go [] all = refl
    go (it ∷ settled) all =
        let differ : (it.0 == n) ≡ false = differ_test it.0 n (λ e. true≢false (sym all.0 ∙ next_unrefused replies it.0 (omega (arith, e, high)))) in
        rw differ (go settled all.1)

pub none_accepted : (n : ℕ) (settled : List (ℕ × Answer)) → settled_of n settled ≡ [] → accepted_of n settled ≡ None
none_accepted n settled none = go settled (nothing_in (λ (it : ℕ × Answer). it.1) (filter (numbers n) settled) none)
  where
    go : (settled : List (ℕ × Answer)) → filter (numbers n) settled ≡ [] → accepted_of n settled ≡ None
    go [] none = refl
    go (it ∷ settled) none = elim (cases_Bool (it.0 == n)) [
      | inl is ↦ absurd (some (rw is at none))
      | inr isnt ↦ rw isnt (go settled (rw isnt at none))
    ]
      where
        some : it ∷ filter (numbers n) settled ≡ [] → ⊥
        some e = cc

pub unsettled_of : (n : ℕ) (settled : List (ℕ × Answer)) → settled_of n settled ≡ [] → is_unsettled settled n ≡ true
unsettled_of n settled none = go settled (nothing_in (λ (it : ℕ × Answer). it.1) (filter (numbers n) settled) none)
  where
    go : (settled : List (ℕ × Answer)) → filter (numbers n) settled ≡ [] → is_unsettled settled n ≡ true
    go [] none = refl
    go (it ∷ settled) none = elim (cases_Bool (it.0 == n)) [
      | inl is ↦ absurd (some (rw is at none))
      | inr isnt ↦ rw isnt (go settled (rw isnt at none))
    ]
      where
        some : it ∷ filter (numbers n) settled ≡ [] → ⊥
        some e = cc

-- ---- entries that are unsure

abbrev unsure_in : List (ℕ × Answer) → ℕ × Answer → Bool
unsure_in settled it = is_unsure it.1 && is_unsettled settled it.0

abbrev pub one_if : Bool → ℕ → List ℕ
one_if true n = n ∷ []
one_if false n = []

-- after a reply more
pub unsure_more : (journal : Journal) (n : ℕ) (a : Answer) → n ≡ length journal.replies + 1 → settled_of n journal.settled ≡ []
    → unsure_of (record journal { replies = journal.replies ++ a ∷ [] }) ≡ unsure_of journal ++ one_if (is_unsure a) n
unsure_more journal n a is none =
    let last : ℕ × Answer = (1 + length journal.replies, a) in
    let old : List (ℕ × Answer) = filter (unsure_in journal.settled) (numbered journal.replies) in
    let place : 1 + length journal.replies ≡ n = omega (arith, is) in
    let free : is_unsettled journal.settled (1 + length journal.replies) ≡ true =
    subst (λ (m : ℕ). is_unsettled journal.settled m ≡ true) (sym place) (unsettled_of n journal.settled none) in
    let test : unsure_in journal.settled last ≡ is_unsure a = ap (λ (b : Bool). is_unsure a && b) free ∙ and-true (is_unsure a) in
    ap (λ (l : List (ℕ × Answer)). map (λ (it : ℕ × Answer). it.0) (filter (unsure_in journal.settled) l)) (numbered_push 1 journal.replies a)
    ∙ ap (map (λ (it : ℕ × Answer). it.0)) (one_more (unsure_in journal.settled) (numbered journal.replies) last)
    ∙ ap (λ (b : Bool). map (λ (it : ℕ × Answer). it.0) (cond b (old ++ last ∷ []) old)) test
    ∙ go (is_unsure a) old last place
  where
    go : (b : Bool) (old : List (ℕ × Answer)) (last : ℕ × Answer) → last.0 ≡ n
        → map (λ (it : ℕ × Answer). it.0) (cond b (old ++ last ∷ []) old) ≡ map (λ (it : ℕ × Answer). it.0) old ++ one_if b n
    go true old last same = map_push (λ (it : ℕ × Answer). it.0) old last ∙ ap (λ (m : ℕ). map (λ (it : ℕ × Answer). it.0) old ++ m ∷ []) same
    go false old last same = sym (append-nil _)

-- a settlement settles the entry of its number and no other
one_settled : (settled : List (ℕ × Answer)) (n m : ℕ) (a : Answer) → is_unsettled (settled ++ (n, a) ∷ []) m ≡ (is_unsettled settled m && not (n == m))
one_settled [] n m a = elim (cases_Bool (n == m)) [ inl is ↦ rw is refl | inr isnt ↦ rw isnt refl ]
one_settled (it ∷ settled) n m a = elim (cases_Bool (it.0 == m)) [ inl is ↦ rw is refl | inr isnt ↦ rw isnt (one_settled settled n m a) ]

-- after a settlement
pub unsure_less : (journal : Journal) (n : ℕ) (a : Answer)
    → unsure_of (record journal { settled = journal.settled ++ (n, a) ∷ [] }) ≡ delete_where (λ (m : ℕ). m == n) (unsure_of journal)
unsure_less journal n a = go (numbered journal.replies)
  where
    grouped : (x y z : Bool) → (x && (y && z)) ≡ (x && y && z)
    grouped true y z = refl
    grouped false y z = refl

    test : (x : ℕ × Answer) → unsure_in (journal.settled ++ (n, a) ∷ []) x ≡ (unsure_in journal.settled x && not (x.0 == n))
    test x =
        ap (λ (b : Bool). is_unsure x.1 && b)
        (one_settled journal.settled n x.0 a ∙ ap (λ (b : Bool). is_unsettled journal.settled x.0 && not b) (turned n x.0))
        ∙ grouped (is_unsure x.1) (is_unsettled journal.settled x.0) (not (x.0 == n))

    step : (x : ℕ × Answer) (now old same : Bool) → now ≡ (old && not same) → (x.0 == n) ≡ same → (ls rs : List (ℕ × Answer))
        → map (λ (it : ℕ × Answer). it.0) ls ≡ delete_where (λ (m : ℕ). m == n) (map (λ (it : ℕ × Answer). it.0) rs)
        → map (λ (it : ℕ × Answer). it.0) (cond now (x ∷ ls) ls) ≡ delete_where (λ (m : ℕ). m == n) (map (λ (it : ℕ × Answer). it.0) (cond old (x ∷ rs) rs))
    step x now true true is here ls rs more =
        ap (λ (b : Bool). map (λ (it : ℕ × Answer). it.0) (cond b (x ∷ ls) ls)) is ∙ more
        ∙ ap (λ (b : Bool).
        cond (not b) (x.0 ∷ delete_where (λ (m : ℕ). m == n) (map (λ (it : ℕ × Answer). it.0) rs))
        (delete_where (λ (m : ℕ). m == n) (map (λ (it : ℕ × Answer). it.0) rs)))
        (sym here)
    step x now true false is here ls rs more =
        ap (λ (b : Bool). map (λ (it : ℕ × Answer). it.0) (cond b (x ∷ ls) ls)) is ∙ ap (λ (l : List ℕ). x.0 ∷ l) more
        ∙ ap (λ (b : Bool).
        cond (not b) (x.0 ∷ delete_where (λ (m : ℕ). m == n) (map (λ (it : ℕ × Answer). it.0) rs))
        (delete_where (λ (m : ℕ). m == n) (map (λ (it : ℕ × Answer). it.0) rs)))
        (sym here)
    step x now false same is here ls rs more = ap (λ (b : Bool). map (λ (it : ℕ × Answer). it.0) (cond b (x ∷ ls) ls)) is ∙ more

    go : (xs : List (ℕ × Answer)) → map (λ (it : ℕ × Answer). it.0) (filter (unsure_in (journal.settled ++ (n, a) ∷ [])) xs)
        ≡ delete_where (λ (m : ℕ). m == n) (map (λ (it : ℕ × Answer). it.0) (filter (unsure_in journal.settled) xs))
    go [] = refl
    go (x ∷ xs) = step x (unsure_in (journal.settled ++ (n, a) ∷ []) x) (unsure_in journal.settled x) (x.0 == n) (test x) refl _ _ (go xs)

-- no number comes twice
pub unsure_once : (journal : Journal) (n : ℕ) → PicksOne (λ (m : ℕ). m == n) (unsure_of journal)
unsure_once journal n =
    let mine : List (ℕ × Answer) = filter (unsure_in journal.settled) (numbered journal.replies) in
    subst (λ (k : ℕ). k ≤ 1)
    (sym (ap length (filter-map (λ (m : ℕ). m == n) (λ (it : ℕ × Answer). it.0) mine) ∙ length-map (λ (it : ℕ × Answer). it.0) (filter (numbers n) mine)))
    (picks_one n mine (ascending-filter _ (unsure_in journal.settled) (numbered journal.replies) (numbered_differ 1 journal.replies)))
