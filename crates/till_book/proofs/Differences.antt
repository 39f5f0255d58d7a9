-- What the drawer counts since a closing is worth the difference of the book then and now.
use Rattle.sql_rows.proofs.Common.{◌≡◌, ◌≢◌, ◌∙◌, ◌+◌, ◌<◌, ◌≤◌, ◌==◌, ◌&&◌, ◌||◌, ℕ, zero, suc, Bool, not, true, false, true≢false, List, [], ◌∷◌, ◌++◌, map}
use Rattle.sql_rows.proofs.Common.{filter, length, slice_get, Option, Some, None, refl, sym, ap, subst, arith, inl, inr, cases_Bool, cond, list_all, nat_tests}
use Rattle.std.specs.Prelude.{is_some, nat_lt, if◌then◌else◌}
use Rattle.shop_model.specs.Rows.{numbered_from, total}
use Rattle.shop_model.specs.Values.{Command}
use Rattle.shop_model.specs.Answers.{Answer}
use Rattle.shop_model.proofs.RowLemmas.{equal_test}
use Rattle.shop_model.proofs.Resends.{same_some, same_none}
use Rattle.till_model.specs.Tills.{Entry}
use Rattle.till_model.specs.Laws.{entries_of}
use Rattle.till_model.specs.Settled.{accepted_of, or_reply, settled_entry}
use Rattle.till_book.specs.Journal.{Journal, IsJournal, is_refused}
use Rattle.till_book.specs.Drawer.{Came, is_accepted, came, counted_of, worth_of, worth_in, late_of, is_among, is_new, counts, counted_from, counted_since}
use Rattle.till_book.specs.Drawer.{GoesOn, AreKnown, DrawerIsTheDifference}
use Rattle.till_book.specs.declared.drawer.Counted.TheVariants as counted
use Rattle.till_book.proofs.Refusals.{refused_at}

abbrev Settled : Type 0
Settled = List (ℕ × Answer)

-- ---- settlements

-- a settlement that counts is 200
done_one : (n : ℕ) (settled : Settled) (answer : Answer) → accepted_of n settled ≡ Some answer → (answer.status == 200) ≡ true
done_one n [] answer some = absurd (same_none answer some)
done_one n (it ∷ settled) answer some = elim (cases_Bool (it.0 == n && it.1.status == 200)) [
  | inl is ↦
      let one : Some it.1 ≡ Some answer = rw is at some in
      ap (λ (a : Answer). a.status == 200) (sym (same_some it.1 answer one)) ∙ second (it.0 == n) (it.1.status == 200) is
  | inr isnt ↦ done_one n settled answer (rw isnt at some)
]
  where
    second : (a b : Bool) → (a && b) ≡ true → b ≡ true
    second true b is = is
    second false b is = absurd (true≢false (sym is))

-- the entries that settlements accept
pub late_is : (n : ℕ) (settled : Settled) → is_among n (late_of settled) ≡ is_some (accepted_of n settled)
late_is n [] = refl
late_is n (it ∷ settled) = elim (cases_Bool (it.1.status == 200)) [
  | inl done ↦ elim (cases_Bool (it.0 == n)) [
    | inl is ↦ rw (done, is) refl
    | inr isnt ↦ rw (done, isnt) (late_is n settled)
  ]
  | inr not_done ↦ elim (cases_Bool (it.0 == n)) [
    | inl is ↦ rw (not_done, is) (late_is n settled)
    | inr isnt ↦ rw (not_done, isnt) (late_is n settled)
  ]
]

-- earlier settlements come first
joined : (n : ℕ) (first more : Settled) → accepted_of n (first ++ more) ≡ or_reply (accepted_of n first) (accepted_of n more)
joined n [] more = refl
joined n (it ∷ first) more = elim (cases_Bool (it.0 == n && it.1.status == 200)) [
  | inl is ↦ rw is refl
  | inr isnt ↦ rw isnt (joined n first more)
]

-- a settled entry was refused
was_refused : (n : ℕ) (replies : List Answer) (settled : Settled) (answer : Answer)
    → list_all (λ (it : ℕ × Answer). is_refused replies it.0) settled ≡ true → accepted_of n settled ≡ Some answer → is_refused replies n ≡ true
was_refused n replies [] answer all some = absurd (same_none answer some)
was_refused n replies (it ∷ settled) answer all some = elim (cases_Bool (it.0 == n && it.1.status == 200)) [
  | inl is ↦
      subst (λ (m : ℕ). is_refused replies m ≡ true) (number_of (it.0) n (first (it.0 == n) (it.1.status == 200) is))
      (first (is_refused replies it.0) _ all)
  | inr isnt ↦ was_refused n replies settled answer (last (is_refused replies it.0) _ all) (rw isnt at some)
]
  where
    first : (a b : Bool) → (a && b) ≡ true → a ≡ true
    first true b is = refl
    first false b is = absurd (true≢false (sym is))

    last : (a b : Bool) → (a && b) ≡ true → b ≡ true
    last true b is = is
    last false b is = absurd (true≢false (sym is))

    number_of : (m n : ℕ) → (m == n) ≡ true → m ≡ n
    number_of m n is = grind (arith, nat_tests, is)

within : {A : Type 0} (xs : List A) (i : ℕ) (x : A) → slice_get xs i ≡ Some x → i < length xs
within [] i x there = absurd (same_none x there)
within (y ∷ xs) zero x there = omega arith
within (y ∷ xs) (suc i) x there = omega (arith, within xs i x there)

-- ---- one entry

module _ (worth : Came → ℕ) (refused : (k : ℕ) → worth (came k counted.Refused) ≡ 0) (n : ℕ) (known : List ℕ) (old all : Settled)
    (knows : (m : ℕ) → is_among m known ≡ is_some (accepted_of m old))
    (stay : (m : ℕ) (answer : Answer) → accepted_of m old ≡ Some answer → accepted_of m all ≡ Some answer) where
  -- what the drawer counts of it
  abbrev brings : ℕ → Entry → ℕ
  brings k entry = total worth (counts n known (late_of all) k entry)

  -- its worth with these settlements
  abbrev worth_with : Settled → ℕ → Entry → ℕ
  worth_with settled k entry = worth_of worth (k, settled_entry settled (k, entry))

  -- an entry that was answered before the closing
  answered_before : (k : ℕ) (c : Command) (r : Answer) → k ≤ n → ((answer : Answer) → accepted_of k all ≡ Some answer → (r.status == 200) ≡ false)
      → worth_with all k (record { command = c; reply = Some r })
      ≡ worth_with old k (record { command = c; reply = Some r }) + brings k (record { command = c; reply = Some r })
  answered_before k c r low apart = go (accepted_of k old) (accepted_of k all) refl refl
    where
      early : nat_lt n k ≡ false
      early = grind (arith, nat_tests)

      go : (old_one new_one : Option Answer) → accepted_of k old ≡ old_one → accepted_of k all ≡ new_one
          → worth_with all k (record { command = c; reply = Some r })
          ≡ worth_with old k (record { command = c; reply = Some r }) + brings k (record { command = c; reply = Some r })
      go None None none nothing =
          let known_not : is_among k known ≡ false = knows k ∙ ap is_some none in
          let late_not : is_among k (late_of all) ≡ false = late_is k all ∙ ap is_some nothing in
          rw (none, nothing, early, known_not, late_not) (omega arith)
      go None (Some b) none some =
          let known_not : is_among k known ≡ false = knows k ∙ ap is_some none in
          let late : is_among k (late_of all) ≡ true = late_is k all ∙ ap is_some some in
          let done : (b.status == 200) ≡ true = done_one k all b some in
          let bad : (r.status == 200) ≡ false = apart b some in
          rw (none, some, early, known_not, late, done, bad) (omega arith)
      go (Some a) now some also =
          let now_too : accepted_of k all ≡ Some a = stay k a some in
          let known_it : is_among k known ≡ true = knows k ∙ ap is_some some in
          let late : is_among k (late_of all) ≡ true = late_is k all ∙ ap is_some now_too in
          let done : (a.status == 200) ≡ true = done_one k old a some in
          rw (some, now_too, early, known_it, late, done) (omega arith)

  -- an entry that wasn't
  answered_since : (k : ℕ) (entry : Entry) → n < k → accepted_of k old ≡ None → worth_with all k entry ≡ brings k entry
  answered_since k entry high none = go entry.reply (accepted_of k all) refl refl
    where
      since : nat_lt n k ≡ true
      since = grind (arith, nat_tests)

      known_not : is_among k known ≡ false
      known_not = knows k ∙ ap is_some none

      go : (reply now : Option Answer) → entry.reply ≡ reply → accepted_of k all ≡ now → worth_with all k entry ≡ brings k entry
      go None None is nothing =
          let late_not : is_among k (late_of all) ≡ false = late_is k all ∙ ap is_some nothing in
          rw (is, nothing, since, known_not, late_not) refl
      go (Some r) None is nothing =
          let late_not : is_among k (late_of all) ≡ false = late_is k all ∙ ap is_some nothing in
          elim (cases_Bool (r.status == 200)) [
            | inl done ↦ rw (is, nothing, since, known_not, late_not, done) (omega arith)
            | inr bad ↦ rw (is, nothing, since, known_not, late_not, bad) (omega (arith, refused k))
          ]
      go None (Some b) is some =
          let late : is_among k (late_of all) ≡ true = late_is k all ∙ ap is_some some in
          let done : (b.status == 200) ≡ true = done_one k all b some in
          rw (is, some, since, known_not, late, done) (omega arith)
      go (Some r) (Some b) is some =
          let late : is_among k (late_of all) ≡ true = late_is k all ∙ ap is_some some in
          let done : (b.status == 200) ≡ true = done_one k all b some in
          elim (cases_Bool (r.status == 200)) [
            | inl good ↦ rw (is, some, since, known_not, late, done, good) (omega arith)
            | inr bad ↦ rw (is, some, since, known_not, late, done, bad) (omega arith)
          ]

  -- ---- all entries

  abbrev sum_with : Settled → ℕ → List Entry → ℕ
  sum_with settled k entries = total (worth_of worth) (numbered_from k (map (settled_entry settled) (numbered_from k entries)))

  abbrev sum_new : ℕ → List Entry → ℕ
  sum_new k entries = total worth (counted_from n known (late_of all) k entries)

  split_total : (xs ys : List Came) → total worth (xs ++ ys) ≡ total worth xs + total worth ys
  split_total [] ys = omega arith
  split_total (x ∷ xs) ys = omega (arith, split_total xs ys)

  module _ (none : (m : ℕ) → n < m → accepted_of m old ≡ None) where
    since : (k : ℕ) (entries : List Entry) → n < k → sum_with all k entries ≡ sum_new k entries
    since k [] high = refl
    since k (entry ∷ entries) high =
        omega (
          arith,
          split_total (counts n known (late_of all) k entry) (counted_from n known (late_of all) (k + 1) entries),
          answered_since k entry high (none k high),
          since (k + 1) entries (omega (arith, high)),
        )

    -- entries without a reply then were worth nothing
    nothing : (k : ℕ) (commands : List Command) → n < k → sum_with old k (entries_of commands []) ≡ 0
    nothing k [] high = refl
    nothing k (c ∷ commands) high =
        let free : accepted_of k old ≡ None = none k high in
        let here : worth_with old k (record { command = c; reply = None }) ≡ 0 = rw free refl in
        omega (arith, here, nothing (k + 1) commands (omega (arith, high)))

    both : (k : ℕ) (commands more : List Command) (replies others : List Answer) → k + length replies ≡ n + 1 → length replies ≤ length commands
        → ((i : ℕ) (r answer : Answer) → slice_get (replies ++ others) i ≡ Some r → accepted_of (k + i) all ≡ Some answer → (r.status == 200) ≡ false)
        → sum_with all k (entries_of (commands ++ more) (replies ++ others))
        ≡ sum_with old k (entries_of commands replies) + sum_new k (entries_of (commands ++ more) (replies ++ others))
    both k commands more [] others end few apart =
        let high : n < k = omega (arith, end) in
        omega (arith, nothing k commands high, since k (entries_of (commands ++ more) others) high)
    both k [] more (r ∷ replies) others end few apart = absurd (omega (arith, few))
    both k (c ∷ commands) more (r ∷ replies) others end few apart =
        let entry : Entry = record { command = c; reply = Some r } in
        let rest : List Entry = entries_of (commands ++ more) (replies ++ others) in
        let here =
        answered_before k c r (omega (arith, end))
        (λ answer some. apart 0 r answer refl (subst (λ (m : ℕ). accepted_of m all ≡ Some answer) (plain k) some)) in
        let more_of =
        both (k + 1) commands more replies others (omega (arith, end)) (omega (arith, few))
        (λ i it answer there some. apart (suc i) it answer there (subst (λ (m : ℕ). accepted_of m all ≡ Some answer) (moved k i) some)) in
        omega (arith, split_total (counts n known (late_of all) k entry) (counted_from n known (late_of all) (k + 1) rest), here, more_of)
      where
        plain : (k : ℕ) → k ≡ k + 0
        plain k = omega arith

        moved : (k i : ℕ) → k + 1 + i ≡ k + suc i
        moved k i = omega arith

-- ---- the law

stays_some : (old more : Settled) (m : ℕ) (answer : Answer) → accepted_of m old ≡ Some answer → accepted_of m (old ++ more) ≡ Some answer
stays_some old more m answer some = joined m old more ∙ ap (λ (o : Option Answer). or_reply o (accepted_of m more)) some

none_after : (closed : Journal) → IsJournal closed → (m : ℕ) → length closed.replies < m → accepted_of m closed.settled ≡ None
none_after closed is m high = go (accepted_of m closed.settled) refl
  where
    go : (found : Option Answer) → accepted_of m closed.settled ≡ found → accepted_of m closed.settled ≡ None
    go None none = none
    go (Some answer) some =
        let at = refused_at m closed.replies (was_refused m closed.replies closed.settled answer is.refused some) in
        absurd (omega (arith, high, at.2, within closed.replies at.0 at.1 at.3))

not_good : (r : Answer) → r.status ≢ 200 → (r.status == 200) ≡ false
not_good r other = grind (arith, nat_tests, other)

apart_of : (now : Journal) → IsJournal now → (i : ℕ) (r answer : Answer) → slice_get now.replies i ≡ Some r
    → accepted_of (1 + i) now.settled ≡ Some answer → (r.status == 200) ≡ false
apart_of now is i r answer there some =
    let at = refused_at (1 + i) now.replies (was_refused (1 + i) now.replies now.settled answer is.refused some) in
    let same : at.0 ≡ i = omega (arith, at.2) in
    let mine : Some at.1 ≡ Some r = sym (subst (λ (j : ℕ). slice_get now.replies j ≡ Some at.1) same at.3) ∙ there in
    not_good r (subst (λ (a : Answer). a.status ≢ 200) (same_some at.1 r mine) at.4)

pub drawer_is_the_difference : DrawerIsTheDifference
drawer_is_the_difference worth commands more known closed now refused is_closed is_now goes knows long =
    let replies : now.replies ≡ closed.replies ++ goes.replies.0 = goes.replies.1 in
    let settled : now.settled ≡ closed.settled ++ goes.settled.0 = goes.settled.1 in
    let stay : (m : ℕ) (answer : Answer) → accepted_of m closed.settled ≡ Some answer → accepted_of m now.settled ≡ Some answer =
    λ m answer some. ap (accepted_of m) settled ∙ stays_some closed.settled goes.settled.0 m answer some in
    let few : length closed.replies ≤ length commands = omega (arith, is_closed.answered, long) in
    let end : 1 + length closed.replies ≡ length closed.replies + 1 = omega arith in
    subst (λ (rs : List Answer).
    total (worth_of worth) (numbered_from 1 (map (settled_entry now.settled) (numbered_from 1 (entries_of (commands ++ more) rs))))
    ≡ worth_in worth commands closed + total worth (counted_from (length closed.replies) known (late_of now.settled) 1 (entries_of (commands ++ more) rs)))
    (sym replies)
    (both worth refused (length closed.replies) known closed.settled now.settled
    (λ m. knows m ∙ late_is m closed.settled) stay (none_after closed is_closed) 1 commands more closed.replies goes.replies.0 end few
    (λ i r answer there some. apart_of now is_now i r answer (subst (λ (rs : List Answer). slice_get rs i ≡ Some r) (sym replies) there) some))
