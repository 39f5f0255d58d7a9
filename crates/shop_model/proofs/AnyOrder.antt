-- Plain requests may come in any order that keeps what may not change places.
use Rattle.shop_model.proofs.Common.{◌≡◌, inl, inr, ℕ, zero, List, [], ◌∷◌, ◌++◌, filter, map, Bool, true, false, not, refl, sym, ap, subst, ◌∙◌, ◌==◌, ◌&&◌}
use Rattle.shop_model.proofs.Common.{list_all, AllByRecursion, cases_Bool, and_parts, not-true, false≢true, Rules, OfficeAsk, Request, Do, Office, Reply, Books}
use Rattle.shop_model.proofs.Common.{Event, Caller, Counter, HeadOffice, is_counter, after_for, after, caller_in, reply_in, run, last_books, HasNumbers}
use Rattle.shop_model.proofs.Common.{is_nobody}
use Rattle.shop_model.specs.Interleaved.{AreAlike, is_plain, are_known, are_apart, swapped, are_plain, IsOrderOf, is_office, AnyOrderTellsAlike}
use Rattle.shop_model.specs.Interleaved.{LostIsBroughtBackAlike}
use Rattle.shop_model.specs.Reentered.{accepted_ones}
use Rattle.shop_model.proofs.Reentered.{again, brought_back, accepted-append}
use Rattle.shop_model.specs.Resends.{is_command}
use Rattle.shop_model.proofs.RowLemmas.{same_if, equal_test}
use Rattle.shop_model.proofs.NumberLemmas.{after_numbers}
use Rattle.shop_model.proofs.Resends.{caller_after}
use Rattle.shop_model.proofs.Interleaved.{itself}
use Rattle.shop_model.proofs.Swapped.{command_plain, apart_commute, swap_two, two_run, through, alike_back, last_numbers, accepted_plain}
use Rattle.shop_model.specs.Books.{reply_for}

-- ---- the replies to the callers who pass a test

abbrev tell : (Caller → Bool) → List (Caller × Reply) → List Reply
tell t answers = map (λ (a : Caller × Reply). a.1) (filter (λ (a : Caller × Reply). t a.0) answers)

-- of two callers that are apart one passes at most
abbrev IsSingle : (Caller → Bool) → Type 0
IsSingle t = (p : Caller) (r : Request) (q : Caller) (s : Request) → are_apart p r q s ≡ true → (t p && t q) ≡ false

one_branch : (b : ℕ) → IsSingle (is_counter b)
one_branch b (Counter c) r (Counter d) s e = elim (cases_Bool (c == b)) [
  | inr isnt ↦ rw isnt refl
  | inl is ↦ elim (cases_Bool (d == b)) [
    | inr other ↦ rw (is, other) refl
    | inl too ↦
        let differ = (and_parts (not (c == d)) _ (and_parts (not (c == d) && _) _ e).0).0 in
        let same : (c == d) ≡ true = equal_test c d (same_if c b is ∙ sym (same_if d b too)) in
        absurd (false≢true (sym (not-true (c == d) differ) ∙ same))
  ]
]
one_branch b (Counter c) (Do k) HeadOffice (Office office) e = elim (cases_Bool (c == b)) [ inl is ↦ rw is refl | inr isnt ↦ rw isnt refl ]
one_branch b HeadOffice (Office office) (Counter c) (Do k) e = refl
one_branch b p r q s e = absurd (false≢true e)

one_office : IsSingle is_office
one_office (Counter c) r (Counter d) s e = refl
one_office (Counter c) (Do k) HeadOffice (Office office) e = refl
one_office HeadOffice (Office office) (Counter c) (Do k) e = refl
one_office p r q s e = absurd (false≢true e)

tell_swapped : (t : Caller → Bool) (x y : Caller × Reply) (rest : List (Caller × Reply))
    → (t x.0 && t y.0) ≡ false → tell t (y ∷ x ∷ rest) ≡ tell t (x ∷ y ∷ rest)
tell_swapped t x y rest single = elim (cases_Bool (t x.0)) [
  | inl is ↦ let other : t y.0 ≡ false = rw is at single in rw (is, other) refl
  | inr isnt ↦ rw isnt refl
]

-- ---- two histories that tell the same

record AreSame (rules : Rules) (look : OfficeAsk → Books → Reply) (one other : List Event) (books : Books) : Type 0 where
  tells : (t : Caller → Bool) → IsSingle t → tell t (run rules look one books) ≡ tell t (run rules look other books)
  leaves : AreAlike (last_books rules one books) (last_books rules other books)
  plain : are_plain rules one books ≡ true

same_itself : (rules : Rules) (look : OfficeAsk → Books → Reply) (events : List Event) (books : Books)
    → are_plain rules events books ≡ true → AreSame rules look events events books
same_itself rules look events books all = record { tells = λ t single. refl; leaves = itself (last_books rules events books); plain = all }

same_through : (rules : Rules) (look : OfficeAsk → Books → Reply) (one other third : List Event) (books : Books)
    → AreSame rules look one other books → AreSame rules look other third books → AreSame rules look one third books
same_through rules look one other third books same more = record {
  tells = λ t single. same.tells t single ∙ more.tells t single;
  leaves = through (last_books rules one books) (last_books rules other books) (last_books rules third books) same.leaves more.leaves;
  plain = same.plain;
}

-- after the same event
same_after : (rules : Rules) (look : OfficeAsk → Books → Reply) (e : Event) (one other : List Event) (books : Books)
    → is_plain (caller_in e books) (e.request (caller_in e books)) ≡ true
    → AreSame rules look one other (after rules e books) → AreSame rules look (e ∷ one) (e ∷ other) books
same_after rules look e one other books is same = record {
  tells = λ t single. elim (cases_Bool (t (caller_in e books))) [
    | inl passes ↦ rw passes (ap (λ (rest : List Reply). reply_in rules look e books ∷ rest) (same.tells t single))
    | inr fails ↦ rw fails (same.tells t single)
  ];
  leaves = same.leaves;
  plain = rw is same.plain;
}

-- two events that are apart change places
same_swapped : (rules : Rules) (look : OfficeAsk → Books → Reply) (e f : Event) (events : List Event) (books : Books) (p q : Caller)
    → caller_in f books ≡ p → caller_in e books ≡ q
    → HasNumbers books → are_apart p (f.request p) q (e.request q) ≡ true
    → are_plain rules (f ∷ e ∷ events) books ≡ true → AreSame rules look (e ∷ f ∷ events) (f ∷ e ∷ events) books
same_swapped rules look e f events books p q who other has apart all =
    let commutes = apart_commute rules look p (f.request p) q (e.request q) books has apart in
    let swap = swap_two rules look f e events books p q who other commutes all in
    let runs = two_run rules look p q f e events books who other commutes.2 in
    let x : Caller × Reply = (p, reply_for rules look p (f.request p) books) in
    let y : Caller × Reply = (q, reply_for rules look q (e.request q) (after_for rules p (f.request p) books)) in
    let rest = run rules look events (after_for rules q (e.request q) (after_for rules p (f.request p) books)) in
    record {
      tells = λ t single.
          ap (tell t) (swap.replies ∙ ap (swapped zero) runs) ∙ tell_swapped t x y rest (single p (f.request p) q (e.request q) apart) ∙ sym (ap (tell t) runs);
      leaves = alike_back (last_books rules (f ∷ e ∷ events) books) (last_books rules (e ∷ f ∷ events) books) swap.leaves;
      plain = swap.plain;
    }

-- ---- callers who stay

-- each is found by its token as at the beginning
abbrev AreFound : (Event → Caller) → List Event → Books → Type 0
AreFound who events books = AllByRecursion (λ (e : Event). (caller_in e books ≡ who e) × (is_nobody (who e) ≡ false)) events

found_after : (rules : Rules) (who : Event → Caller) (events : List Event) (caller : Caller) (request : Request) (books : Books)
    → AreFound who events books → AreFound who events (after_for rules caller request books)
found_after rules who [] caller request books found = tt
found_after rules who (e ∷ events) caller request books found =
    ((caller_after rules caller request e.token (who e) books found.0.1 found.0.0, found.0.1), found_after rules who events caller request books found.1)

found_first : (who : Event → Caller) (front : List Event) (e : Event) (back : List Event) (books : Books)
    → AreFound who (front ++ e ∷ back) books → (caller_in e books ≡ who e) × (is_nobody (who e) ≡ false)
found_first who [] e back books found = found.0
found_first who (f ∷ front) e back books found = found_first who front e back books found.1

found_rest : (who : Event → Caller) (front : List Event) (e : Event) (back : List Event) (books : Books)
    → AreFound who (front ++ e ∷ back) books → AreFound who (front ++ back) books
found_rest who [] e back books found = found.1
found_rest who (f ∷ front) e back books found = (found.0, found_rest who front e back books found.1)

-- ---- one event moves to the front, and then the next

abbrev apart_by : (Event → Caller) → Event → Event → Bool
apart_by who e f = are_apart (who e) (e.request (who e)) (who f) (f.request (who f))

moved : (rules : Rules) (look : OfficeAsk → Books → Reply) (who : Event → Caller) (front : List Event) (e : Event) (back : List Event) (books : Books)
    → HasNumbers books
    → are_plain rules (front ++ e ∷ back) books ≡ true → AreFound who (front ++ e ∷ back) books → list_all (λ (f : Event). apart_by who f e) front ≡ true
    → AreSame rules look (e ∷ front ++ back) (front ++ e ∷ back) books
moved rules look who [] e back books has all found apart = same_itself rules look (e ∷ back) books all
moved rules look who (f ∷ front) e back books has all found apart =
    let caller = caller_in f books in
    let now = after rules f books in
    let a = and_parts (apart_by who f e) (list_all (λ (g : Event). apart_by who g e) front) apart in
    let h = and_parts (is_plain caller (f.request caller)) (are_plain rules (front ++ e ∷ back) now) all in
    let more = moved rules look who front e back now (after_numbers rules caller (f.request caller) books has) h.1
    (found_after rules who (front ++ e ∷ back) caller (f.request caller) books found.1) a.1 in
    let next = same_after rules look f (e ∷ front ++ back) (front ++ e ∷ back) books h.0 more in
    let last = found_first who front e back books found.1 in
    let swap = same_swapped rules look e f (front ++ back) books (who f) (who e) found.0.0 last.0 has a.0 next.plain in
    same_through rules look (e ∷ f ∷ front ++ back) (f ∷ e ∷ front ++ back) (f ∷ front ++ e ∷ back) books swap next

-- an order by callers who stay
abbrev IsOrderBy : (Event → Caller) → List Event → List Event → Type 0
IsOrderBy who [] events = events ≡ []
IsOrderBy who (e ∷ order) events =
    (front : List Event) × (back : List Event) × (events ≡ front ++ e ∷ back)
    × (list_all (λ (f : Event). apart_by who f e) front ≡ true) × IsOrderBy who order (front ++ back)

ordered : (rules : Rules) (look : OfficeAsk → Books → Reply) (who : Event → Caller) (order events : List Event) (books : Books)
    → HasNumbers books → are_plain rules events books ≡ true
    → AreFound who events books → IsOrderBy who order events → AreSame rules look order events books
ordered rules look who [] events books has all found is =
    subst (λ (it : List Event). AreSame rules look [] it books) (sym is) (same_itself rules look [] books refl)
ordered rules look who (e ∷ order) events books has all found is =
    let front = is.0 in
    let back = is.1 in
    let all' : are_plain rules (front ++ e ∷ back) books ≡ true = rw is.2 at all in
    let found' : AreFound who (front ++ e ∷ back) books = subst (λ (it : List Event). AreFound who it books) is.2 found in
    let first = moved rules look who front e back books has all' found' is.3 in
    let caller = caller_in e books in
    let h = and_parts (is_plain caller (e.request caller)) (are_plain rules (front ++ back) (after rules e books)) first.plain in
    let more = ordered rules look who order (front ++ back) (after rules e books) (after_numbers rules caller (e.request caller) books has) h.1
    (found_after rules who (front ++ back) caller (e.request caller) books (found_rest who front e back books found')) is.4 in
    subst (λ (it : List Event). AreSame rules look (e ∷ order) it books) (sym is.2)
    (same_through rules look (e ∷ order) (e ∷ front ++ back) (front ++ e ∷ back) books (same_after rules look e order (front ++ back) books h.0 more) first)

all_found : (events : List Event) (books : Books) → are_known events books ≡ true → AreFound (λ (e : Event). caller_in e books) events books
all_found [] books all = tt
all_found (e ∷ events) books all =
    let h = and_parts (not (is_nobody (caller_in e books))) (are_known events books) all in
    ((refl, not-true (is_nobody (caller_in e books)) h.0), all_found events books h.1)

by_callers : (order events : List Event) (books : Books) → IsOrderOf books order events → IsOrderBy (λ (e : Event). caller_in e books) order events
by_callers [] events books is = is
by_callers (e ∷ order) events books is = (is.0, is.1, is.2, is.3, by_callers order (is.0 ++ is.1) books is.4)

pub any_order : AnyOrderTellsAlike
any_order rules look order events books has all known is =
    let who : Event → Caller = λ e. caller_in e books in
    let same = ordered rules look who order events books has all (all_found events books known) (by_callers order events books is) in
    record { branches = λ b. same.tells (is_counter b) (one_branch b); office = same.tells is_office one_office; leaves = same.leaves }

-- ---- a disk is lost

plain_append : (rules : Rules) (xs ys : List Event) (books : Books) → are_plain rules xs books ≡ true
    → are_plain rules ys (last_books rules xs books) ≡ true → are_plain rules (xs ++ ys) books ≡ true
plain_append rules [] ys books first second = second
plain_append rules (x ∷ xs) ys books first second =
    let h = and_parts (is_plain (caller_in x books) (x.request (caller_in x books))) (are_plain rules xs (after rules x books)) first in
    rw h.0 (plain_append rules xs ys (after rules x books) h.1 second)

-- commands that change nothing where they come again
plain_again : (rules : Rules) (copy : Books) (events : List Event)
    → AllByRecursion (λ (e : Event). (is_command (caller_in e copy) (e.request (caller_in e copy)) ≡ true) × (after rules e copy ≡ copy)) events
    → are_plain rules events copy ≡ true
plain_again rules copy [] each = refl
plain_again rules copy (e ∷ events) each =
    let caller = caller_in e copy in
    rw (command_plain caller (e.request caller) each.0.0) (ap (are_plain rules events) each.0.1 ∙ plain_again rules copy events each.1)

pub brought_back_alike : LostIsBroughtBackAlike
brought_back_alike rules look front lost order books has =
    let copy = last_books rules front books in
    let numbers = last_numbers rules front books has in
    let early = accepted_ones rules front books in
    let late = accepted_ones rules lost copy in
    let back = brought_back rules look front lost books in
    let first = again rules look front books in
    let plain = accepted_plain rules look lost copy in
    let all : are_plain rules (accepted_ones rules (front ++ lost) books) copy ≡ true =
    ap (λ (events : List Event). are_plain rules events copy) (accepted-append rules front lost books)
    ∙ plain_append rules early late copy (plain_again rules copy early first.each) (ap (are_plain rules late) first.leaves ∙ plain) in
    record {
      late = λ known is.
          let same = any_order rules look order late copy numbers plain known is in
          record {
            branches = λ b. same.branches b ∙ ap (tell (is_counter b)) back.late_replies;
            office = same.office ∙ ap (tell is_office) back.late_replies;
            leaves = subst (AreAlike (last_books rules order copy)) back.late_leave same.leaves;
          };
      all = λ known is.
          let same = any_order rules look order (accepted_ones rules (front ++ lost) books) copy numbers all known is in
          record {
            branches = λ b. same.branches b ∙ ap (tell (is_counter b)) back.all_replies;
            office = same.office ∙ ap (tell is_office) back.all_replies;
            leaves = subst (AreAlike (last_books rules order copy)) back.all_leave same.leaves;
          };
    }
