-- Each step keeps the books sound.
use Rattle.shop_model.proofs.Common.{◌≡◌, inl, inr, ℕ, ◌+◌, ◌-◌, ◌≤◌, List, [], ◌∷◌, ◌++◌, length, filter, map, Bool, true, false, not, None, Some, refl, sym}
use Rattle.shop_model.proofs.Common.{subst, ap, ◌∙◌, arith, append-nil, length-append, ◌==◌, ◌&&◌, ◌||◌, nat_lt, flat_map, list_any, list_all, or-false}
use Rattle.shop_model.proofs.Common.{cases_Bool, or_parts, and_parts, not-true, not-false, true≢false, Row, Owned, at, lacks, set_at, set_all, is_empty, is_row}
use Rattle.shop_model.proofs.Common.{next, mem, has_double, Moment, Branch, OfficeCommand, Copy, CopyState, Here, Sent, Scrapped, Rental, Arrival, Act, Rent}
use Rattle.shop_model.proofs.Common.{TakeBack, Import, Dispatch, Receive, Scrap, Command, Rules, Kept, Shop, Catalogue, is_here, in_stock, keeps_out}
use Rattle.shop_model.proofs.Common.{film_terms, terms_now, Accepted, first, refusals, verdict, office_verdict, act_refusals, is_away, arrival, Request, Do}
use Rattle.shop_model.proofs.Common.{Office, acted, catalogue_after, office_done, here, with_state, films_in, incoming, Books, BookCopy, Mark, Line, UnderWay}
use Rattle.shop_model.proofs.Common.{Missing, Consignment, Caller, Counter, HeadOffice, shop_of, unmarked, as_arrival, book_acted, book_done, edits_of}
use Rattle.shop_model.proofs.Common.{is_consignment, imported, unpacked, rows_at, come, new_consignment, set_last, branch_after, after_for, after, caller_in}
use Rattle.shop_model.proofs.Common.{last_books, one, copy_is, line_is, is_origin, rows_made, is_mark, places, is_made_as, marked_films, HasNumbers, HasOwners}
use Rattle.shop_model.proofs.Common.{HasCustody, HasOneHolder, HasTerms, IsSound, all_lines, lines_in, is_settled, StaySound, StaySoundWithin}
use Rattle.shop_model.proofs.Common.{CopiesAreInOnePlace, SoundBooksAreInCustody, OpeningIsSound, EmptyIsSound, OpeningBooksAreSound, empty_catalogue}
use Rattle.shop_model.proofs.Common.{opening_catalogue, has_row, are_different, is_staff_of, IsLinkedShop, IsGoodCatalogue, option_to_list, bytes_eq, nat_tests}
use Rattle.shop_model.proofs.Common.{IsGoodShop, CopyRows, AreRowsNumbered, AreRowsOwned, put_all, set_row, set_rows, put_state, list_any-append, Terms}
use Rattle.std.proofs.Math.Bool.{and-false}
use Rattle.std.proofs.lemmas.Map.Views.{any-filter_same}
use Rattle.shop_model.proofs.RowLemmas.{same_if, same_test, differ_if, row_at, one_more, length_map, turned, equal_test}
use Rattle.shop_model.proofs.ShopLemmas.{arrival_of, done_other, arrived_or_same}
use Rattle.shop_model.proofs.ActLaws.{done_own, IsAllowed, edits_allowed}
use Rattle.shop_model.proofs.NumberLemmas.{acted_numbers}
use Rattle.shop_model.proofs.SameStates.{by_verdict}
use Rattle.shop_model.proofs.Accepted.{none_kept, NoneHold, accepted_holds, act_holds, not_self, catalogue_stays}
use Rattle.shop_model.proofs.GoodShops.{IsGoodEdit, all_weaker, good_shop_done, length_set, all_more}
use Rattle.shop_model.proofs.LinkLemmas.{at_set_other, none_left, all_mapped, any_at_more, all_at, one_at, some_passes}
use Rattle.shop_model.proofs.LinkedShops.{IsLinkedEdit, linked_opening, linked_done, linked_other, linked_grows}
use Rattle.shop_model.proofs.EditLemmas.{by_none, each_weaker}
use Rattle.shop_model.proofs.GoodCatalogues.{Grows, done_grows, good_done}
use Rattle.shop_model.proofs.Owners.{staff_works, branch_there, owners_done, owners_grow, places_kept}
use Rattle.shop_model.proofs.Origins.{all_append, origins_kept, lines_more as more_lines}
use Rattle.shop_model.proofs.CustodyLemmas.{total-append, AreHere, AllHere, scrapped_total, sent_total, state_made, states_made, lines_sent, lines_unlost}
use Rattle.shop_model.proofs.CustodyLemmas.{import_total, unpacked_total, unpacked_made, UnderWayOld, under_way_old, made_old, made_once, AreOpen, come_old}
use Rattle.shop_model.proofs.CustodyLemmas.{received_total, settled_checked, settled_new, left_are}

-- ---- from the verdict

any_none : (p : ℕ → Bool) (xs : List ℕ) (x : ℕ) → list_any p xs ≡ false → mem x xs ≡ true → p x ≡ false
any_none p [] x none within = absurd (true≢false (sym within))
any_none p (y ∷ ys) x none within =
    let h = or_parts (p y) (list_any p ys) none in
    elim (cases_Bool (y == x)) [
      | inl is ↦ rw (sym (same_if y x is)) h.0
      | inr isnt ↦ any_none p ys x h.1 (rw isnt at within)
    ]

here_same : (film : ℕ) (s : CopyState) → is_here (record { film = film; state = s }) ≡ copy_is s Here
here_same film Here = refl
here_same film s = refl

away_same : (rows : List (Row BookCopy))
    → list_any (λ copy. not (is_here copy)) (map (λ (row : Row BookCopy). unmarked row.it) rows)
    ≡ list_any (λ (row : Row BookCopy). not (copy_is row.it.state Here)) rows
away_same [] = refl
away_same (row ∷ rows) = rw (here_same row.it.film row.it.state, away_same rows)

-- what is here in the shop is here in the books
are_here : (b x : ℕ) (books : Books) → HasNumbers books → is_away (shop_of b books).copies x ≡ false → AreHere b x books.copies
are_here b x books has isnt = sym (away_same (filter (is_row b x) books.copies)) ∙ (rw (row_at unmarked b x books.copies (has.rows CopyRows b)) isnt)

open_same : (cs : List Consignment) → list_any (λ (it : Arrival). it.received) (map as_arrival cs) ≡ list_any (λ (it : Consignment). it.received) cs
open_same [] = refl
open_same (c ∷ cs) = ap (λ r. c.received || r) (open_same cs)

-- ---- custody

custody_kept : (rules sizes : Rules) (b : ℕ) (catalogue : Catalogue) (command : Command) (act : Act) (books : Books) → IsSound sizes books
    → NoneHold (act_refusals rules b catalogue (shop_of b books) command.moment act) → HasCustody (book_acted rules b command act books)
custody_kept rules sizes b catalogue command (Import lot file) books sound none = λ test.
    let films = films_in (rules.stock_of file) in
    let before = sound.custody test in
    let i = import_total test b films books.copies in
    omega (arith, before, i, left_are test books.copies, left_are test (put_all b (map (imported b) films) books.copies))
custody_kept rules sizes b catalogue command (Dispatch to xs) books sound none = λ test.
    let before = sound.custody test in
    let away : list_any (is_away (shop_of b books).copies) xs ≡ false = none.1.0 in
    let single : has_double xs ≡ false = (or_parts (is_empty xs || nat_lt 100 (length xs)) (has_double xs) none.1.1.1.1.1.0).1 in
    let are : AllHere b xs books.copies = λ x within. are_here b x books sound.numbers (any_none (is_away (shop_of b books).copies) xs x away within) in
    let h = sent_total test b xs books.copies single are in
    let m = states_made test b xs Sent books.copies in
    let lines = λ (it : Consignment). it.lines in
    let new = new_consignment b to xs books in
    let u1 = lines_more UnderWay test books.consignments new in
    let m1 = lines_more Missing test books.consignments new in
    let u2 = lines_sent test (rows_at b xs books.copies) in
    let m2 = lines_unlost test (rows_at b xs books.copies) in
    omega (arith, before, h, m, u1, m1, u2, m2, left_are test books.copies, left_are test (set_rows b xs (put_state Sent) books.copies)) where
      lines_more : (state : Rattle.shop_model.specs.Books.LineState) (test : Mark → Bool) (cs : List Consignment) (c : Consignment)
          → lines_in state test (flat_map (λ (it : Consignment). it.lines) (cs ++ c ∷ []))
          ≡ lines_in state test (flat_map (λ (it : Consignment). it.lines) cs) + lines_in state test c.lines
      lines_more state test cs c =
          ap (lines_in state test) (more_lines cs c)
          ∙ total-append (λ (line : Line). one (line_is line.state state && test line.mark)) (flat_map (λ (it : Consignment). it.lines) cs) c.lines
custody_kept rules sizes b catalogue command (Receive source number missing) books sound none = λ test.
    let before = sound.custody test in
    let q = is_consignment source b number in
    let opens : AreOpen q books.consignments =
    sym (open_same (filter q books.consignments))
    ∙ rw (sym (arrival_of source b number books.consignments (sound.numbers.consignments source b))) none.1.0 in
    let old : UnderWayOld b (next b books.copies) (all_lines books) =
    under_way_old b (next b books.copies) (all_lines books)
    (λ mark some. let c = sound.custody (is_mark mark) in made_old b mark books.copies (sound.numbers.rows CopyRows b) (omega (arith, some, c))) in
    let lines = come source b number missing books.consignments in
    let m = unpacked_made test b lines books.copies (come_old b (next b books.copies) missing q books.consignments sound.settled opens old) in
    let h = unpacked_total test b lines books.copies in
    let r = received_total test missing q books.consignments sound.settled opens in
    omega (arith, before, m, h, r, left_are test books.copies, left_are test (put_all b (map unpacked lines) books.copies))
custody_kept rules sizes b catalogue command (Scrap x) books sound none = λ test.
    let before = sound.custody test in
    let h = scrapped_total test b x books.copies (are_here b x books sound.numbers none.1.0) in
    let m = state_made test b x Scrapped books.copies in
    omega (arith, before, h, m, left_are test books.copies, left_are test (set_row b x (put_state Scrapped) books.copies))
custody_kept rules sizes b catalogue command act books sound none = sound.custody

settled_kept : (rules : Rules) (b : ℕ) (command : Command) (act : Act) (books : Books)
    → list_all is_settled books.consignments ≡ true → list_all is_settled (book_acted rules b command act books).consignments ≡ true
settled_kept rules b command (Dispatch to xs) books settled =
    all_more is_settled books.consignments (new_consignment b to xs books) settled (settled_new (rows_at b xs books.copies))
settled_kept rules b command (Receive source number missing) books settled = settled_checked missing (is_consignment source b number) books.consignments settled
settled_kept rules b command act books settled = settled

-- ---- one holder

at_set_all_other : {A : Type 0} (ns : List ℕ) (y : ℕ) (f : A → A) (xs : List A) → mem y ns ≡ false → at y (set_all ns f xs) ≡ at y xs
at_set_all_other [] y f xs out = refl
at_set_all_other (n ∷ ns) y f xs out =
    let h = or_parts (n == y) (mem y ns) out in
    at_set_all_other ns y f (set_at n f xs) h.1 ∙ at_set_other n y f xs (differ_if n y h.0)

none_none : {A : Type 0} (p : A → Bool) (xs : List A) → list_any p xs ≡ false → filter p xs ≡ []
none_none p [] none = refl
none_none p (x ∷ xs) none = let h = or_parts (p x) (list_any p xs) none in rw h.0 (none_none p xs h.1)

some_more : {A : Type 0} (p : A → Bool) (xs : List A) (x : A) → list_any p (xs ++ x ∷ []) ≡ (list_any p xs || p x)
some_more p xs x = list_any-append p xs (x ∷ []) ∙ ap (λ r. list_any p xs || r) (or-false (p x))

-- no more pass where those that are set don't
fewer : {A : Type 0} (p : A → Bool) (n : ℕ) (f : A → A) (xs : List A) → ((x : A) → p (f x) ≡ false) → length (filter p (set_at n f xs)) ≤ length (filter p xs)
fewer p n f [] off = omega arith
fewer p n f (x ∷ xs) off = elim (cases_Bool (n == 1)) [
  | inl hit ↦ elim (cases_Bool (p x)) [ inl is ↦ rw (hit, off x, is) (omega arith) | inr isnt ↦ rw (hit, off x, isnt) (omega arith) ]
  | inr miss ↦ let more = fewer p (n - 1) f xs off in elim (cases_Bool (p x)) [ inl is ↦ rw (miss, is) (omega (arith, more)) | inr isnt ↦ rw (miss, isnt) more ]
]

any_fewer : {A : Type 0} (p : A → Bool) (xs ys : List A) → length (filter p ys) ≤ length (filter p xs) → list_any p ys ≡ true → list_any p xs ≡ true
any_fewer {A = A} p xs ys fewer some = elim (cases_Bool (list_any p xs)) [
  | inl is ↦ is
  | inr none ↦
      let gone = ap length (none_none p xs none) in
      absurd (true≢false (sym some ∙ none_left p ys (no_length (filter p ys) (omega (arith, fewer, gone)))))
] where
  no_length : (zs : List A) → length zs ≡ 0 → zs ≡ []
  no_length [] e = refl
  no_length (z ∷ zs) e = absurd (omega (arith, e))

-- ---- what a shop's command keeps

pub holder_same : (s t : Shop) → s.rentals ≡ t.rentals → s.copies ≡ t.copies → HasOneHolder s → HasOneHolder t
holder_same s t e f h = record {
  one = λ x. rw (← e) (h.one x);
  here = λ x out. rw (← f) (h.here x (rw (← e) at out));
}

out_now : (x : ℕ) (rentals : List Rental) → in_stock x rentals ≡ false → list_any (keeps_out x) rentals ≡ true
out_now x rentals e = not-false (list_any (keeps_out x) rentals) e

holder_kept : (rules : Rules) (b : ℕ) (catalogue : Catalogue) (command : Command) (act : Act) (shop : Shop) → HasOneHolder shop
    → NoneHold (act_refusals rules b catalogue shop command.moment act) → HasOneHolder (acted rules catalogue command act shop)
holder_kept rules b catalogue command (Rent c x) shop h none = record {
  one = λ y. elim (cases_Bool (x == y)) [
    | inl is ↦
        let e : filter (keeps_out y) shop.rentals ≡ [] = rw (sym (same_if x y is)) (none_none (keeps_out x) shop.rentals closed) in
        rw (one_more (keeps_out y) shop.rentals new, is, e) (omega arith)
    | inr isnt ↦ rw (one_more (keeps_out y) shop.rentals new, isnt) (h.one y)
  ];
  here = λ y out. elim (cases_Bool (x == y)) [
    | inl is ↦ rw (sym (same_if x y is)) (some_passes is_here (at x shop.copies) none.1.1.0 none.1.1.1.0)
    | inr isnt ↦ h.here y (still y isnt out)
  ];
} where
  new : Rental
  new = record { rented = command.moment; copy = x; customer = c; returned = None; staff = command.staff }

  closed : list_any (keeps_out x) shop.rentals ≡ false
  closed = not-true (list_any (keeps_out x) shop.rentals) (not-false _ none.1.1.1.1.0)

  still : (y : ℕ) → (x == y) ≡ false
      → in_stock y (shop.rentals ++ record { rented = command.moment; copy = x; customer = c; returned = None; staff = command.staff } ∷ []) ≡ false
      → in_stock y shop.rentals ≡ false
  still y isnt out =
      let plain : (list_any (keeps_out y) shop.rentals || (x == y && true)) ≡ list_any (keeps_out y) shop.rentals =
      rw isnt (or-false (list_any (keeps_out y) shop.rentals)) in
      let e : list_any (keeps_out y) (shop.rentals ++ record { rented = command.moment; copy = x; customer = c; returned = None; staff = command.staff } ∷ [])
      ≡ list_any (keeps_out y) shop.rentals =
      some_more (keeps_out y) shop.rentals (record { rented = command.moment; copy = x; customer = c; returned = None; staff = command.staff }) ∙ plain in
      sym (ap not e) ∙ out
holder_kept rules b catalogue command (TakeBack r) shop h none =
    let back : Rental → Rental = λ it. record it { returned = Some command.moment } in
    let few = λ (x : ℕ). fewer (keeps_out x) r back shop.rentals (λ it. and-false (it.copy == x)) in
    record {
      one = λ x. let now = few x in let before = h.one x in omega (arith, now, before);
      here = λ x out. h.here x (rw (any_fewer (keeps_out x) shop.rentals (set_at r back shop.rentals) (few x) (out_now x (set_at r back shop.rentals) out)));
    }
holder_kept rules b catalogue command (Import lot file) shop h none = record {
  one = h.one;
  here = λ x out. any_at_more is_here x shop.copies (map here (films_in (rules.stock_of file))) (h.here x out);
}
holder_kept rules b catalogue command (Dispatch to xs) shop h none = record {
  one = h.one;
  here = λ x out. elim (cases_Bool (mem x xs)) [
    | inl sent ↦
        let stays : not (in_stock x shop.rentals) ≡ false = any_none (λ x. not (in_stock x shop.rentals)) xs x none.1.1.0 sent in
        absurd (true≢false (sym (not-false _ stays) ∙ out))
    | inr unsent ↦ rw (at_set_all_other xs x (with_state Sent) shop.copies unsent) (h.here x out)
  ];
}
holder_kept rules b catalogue command (Receive source number missing) shop h none = record {
  one = h.one;
  here = λ x out. any_at_more is_here x shop.copies (map here (incoming missing (arrival source number shop))) (h.here x out);
}
holder_kept rules b catalogue command (Scrap x) shop h none = record {
  one = h.one;
  here = λ y out. elim (cases_Bool (x == y)) [
    | inl is ↦
        let e : y ≡ x = sym (same_if x y is) in
        let stays : in_stock y shop.rentals ≡ true = rw e (not-false (in_stock x shop.rentals) none.1.1.0) in absurd (true≢false (sym stays ∙ out))
    | inr isnt ↦ rw (at_set_other x y (with_state Scrapped) shop.copies (differ_if x y isnt)) (h.here y out)
  ];
}
holder_kept rules b catalogue command act shop h none = record { one = h.one; here = h.here }

-- arrivals and terms aren't read
pub good_same : (rules : Rules) (shop : Shop) (arrivals : List Arrival) (terms : List Terms)
    → IsGoodShop rules shop → IsGoodShop rules (record shop { arrivals = arrivals; terms = terms })
good_same rules shop arrivals terms h = record {
  apart = h.apart;
  created = h.created;
  rented = h.rented;
  paid = h.paid;
  rentals_rise = h.rentals_rise;
  payments_rise = h.payments_rise;
  keys = h.keys;
  copies = h.copies;
  customers_fit = h.customers_fit;
  rentals_fit = h.rentals_fit;
  payments_fit = h.payments_fit;
  lots_fit = h.lots_fit;
  sent_fit = h.sent_fit;
}

-- ---- last moments

abbrev of_one_branch : Owned Moment → Owned Moment → Bool
of_one_branch earlier later = earlier.owner == later.owner

none_of : (b : ℕ) (rows : List (Owned Moment)) → list_any (λ (row : Owned Moment). b == row.owner) (filter (λ row. not (row.owner == b)) rows) ≡ false
none_of b rows = any-filter_same (λ (row : Owned Moment). b == row.owner) (λ row. not (row.owner == b)) false (λ row is. rw (turned row.owner b, is) refl) rows

any_filtered : {A : Type 0} (p q : A → Bool) (xs : List A) → list_any p xs ≡ false → list_any p (filter q xs) ≡ false
any_filtered p q [] none = refl
any_filtered p q (x ∷ xs) none = let h = or_parts (p x) (list_any p xs) none in elim (cases_Bool (q x)) [
  | inl is ↦ rw (is, h.0) (any_filtered p q xs h.1)
  | inr isnt ↦ rw isnt (any_filtered p q xs h.1)
]

different_filtered : {A : Type 0} (same : A → A → Bool) (q : A → Bool) (xs : List A) → are_different same xs ≡ true → are_different same (filter q xs) ≡ true
different_filtered same q [] all = refl
different_filtered same q (x ∷ xs) all =
    let h = and_parts (not (list_any (same x) xs)) (are_different same xs) all in
    elim (cases_Bool (q x)) [
      | inl is ↦ rw (is, any_filtered (same x) q xs (not-true (list_any (same x) xs) h.0)) (different_filtered same q xs h.1)
      | inr isnt ↦ rw isnt (different_filtered same q xs h.1)
    ]

one_last : (b : ℕ) (moment : Moment) (lasts : List (Owned Moment))
    → are_different of_one_branch lasts ≡ true → are_different of_one_branch (set_last b moment lasts) ≡ true
one_last b moment lasts one = rw (none_of b lasts) (different_filtered of_one_branch (λ row. not (row.owner == b)) lasts one)

-- ---- custody by itself

-- a row that an import made, of that film and that mark
abbrev made_by : Row BookCopy → ℕ → Mark → Bool
made_by row film mark = is_origin row && row.it.film == film && row.it.mark.branch == mark.branch && row.it.mark.copy == mark.copy

made_parts : (row : Row BookCopy) (film : ℕ) (mark : Mark) → made_by row film mark ≡ true
    → (row.it.film ≡ film) × ((is_origin row && is_mark mark row.it.mark) ≡ true)
made_parts row film mark is =
    let last = and_parts (is_origin row && row.it.film == film && row.it.mark.branch == mark.branch) (row.it.mark.copy == mark.copy) is in
    let third = and_parts (is_origin row && row.it.film == film) (row.it.mark.branch == mark.branch) last.0 in
    let first = and_parts (is_origin row) (row.it.film == film) third.0 in
    (same_if row.it.film film first.1, rw (first.0, third.1, last.1) refl)

made_some : (film : ℕ) (mark : Mark) (rows : List (Row BookCopy)) → is_made_as rows film mark ≡ true → 1 ≤ rows_made (is_mark mark) rows
made_some film mark [] is = absurd (true≢false (sym is))
made_some film mark (row ∷ rows) is = elim (cases_Bool (made_by row film mark)) [
  | inl here ↦ rw (made_parts row film mark here).1 (omega arith)
  | inr there ↦ let more = made_some film mark rows (rw there at is) in omega (arith, more)
]

-- a mark that is made once goes with one film
one_film : (mark : Mark) (f g : ℕ) (rows : List (Row BookCopy)) → rows_made (is_mark mark) rows ≤ 1
    → is_made_as rows f mark ≡ true → is_made_as rows g mark ≡ true → g ≡ f
one_film mark f g [] once is was = absurd (true≢false (sym is))
one_film mark f g (row ∷ rows) once is was = elim (cases_Bool (made_by row f mark)) [
  | inl here ↦ elim (cases_Bool (made_by row g mark)) [
    | inl too ↦ sym (made_parts row g mark too).0 ∙ (made_parts row f mark here).0
    | inr other ↦
        let some = made_some g mark rows (rw other at was) in
        let one : 1 + rows_made (is_mark mark) rows ≤ 1 = rw (made_parts row f mark here).1 at once in absurd (omega (arith, some, one))
  ]
  | inr there ↦ elim (cases_Bool (made_by row g mark)) [
    | inl here ↦
        let some = made_some f mark rows (rw there at is) in
        let one : 1 + rows_made (is_mark mark) rows ≤ 1 = rw (made_parts row g mark here).1 at once in absurd (omega (arith, some, one))
    | inr other ↦ one_film mark f g rows (omega (arith, once)) (rw there at is) (rw other at was)
  ]
]

same_mark : (mark it : Mark) → is_mark mark it ≡ true → it ≡ mark
same_mark mark it is =
    let h = and_parts (it.branch == mark.branch) (it.copy == mark.copy) is in
    λ i. record { branch = same_if it.branch mark.branch h.0 i; copy = same_if it.copy mark.copy h.1 i }

pub in_custody : SoundBooksAreInCustody
in_custody rules books sound = record {
  is_made = all_weaker made_as _ marks (λ it is. positive _ (made_some it.0 it.1 books.copies is)) all;
  place = all_weaker made_as _ marks (λ it is. one_place it.1 (made_some it.0 it.1 books.copies is)) all;
  film = all_weaker made_as _ marks (λ it is. all_weaker made_as _ marks (λ other was. same_film it other is was) all) all;
} where
  made_as : ℕ × Mark → Bool
  made_as it = is_made_as books.copies it.0 it.1

  marks : List (ℕ × Mark)
  marks = marked_films books

  all : list_all made_as marks ≡ true
  all =
      all_append made_as (map (λ (row : Row BookCopy). (row.it.film, row.it.mark)) books.copies)
      (map (λ (line : Line). (line.film, line.mark)) (all_lines books))
      (all_mapped made_as (λ (row : Row BookCopy). is_made_as books.copies row.it.film row.it.mark)
      (λ (row : Row BookCopy). (row.it.film, row.it.mark)) books.copies (λ row is. is) sound.origins.rows)
      (all_mapped made_as (λ (line : Line). is_made_as books.copies line.film line.mark)
      (λ (line : Line). (line.film, line.mark)) (all_lines books) (λ line is. is) sound.origins.lines)

  positive : (n : ℕ) → 1 ≤ n → nat_lt 0 n ≡ true
  positive n some = grind (arith, nat_tests)

  once : (mark : Mark) → rows_made (is_mark mark) books.copies ≤ 1
  once mark = made_once mark 1 books.copies (sound.numbers.rows CopyRows mark.branch)

  one_place : (mark : Mark) → 1 ≤ rows_made (is_mark mark) books.copies → (places (is_mark mark) books == 1) ≡ true
  one_place mark some = let c = sound.custody (is_mark mark) in let most = once mark in equal_test _ 1 (omega (arith, c, some, most))

  same_film : (it other : ℕ × Mark) → is_made_as books.copies it.0 it.1 ≡ true
      → is_made_as books.copies other.0 other.1 ≡ true → (not (is_mark it.1 other.1) || other.0 == it.0) ≡ true
  same_film it other is was = elim (cases_Bool (is_mark it.1 other.1)) [
    | inr apart ↦ rw apart refl
    | inl same ↦
        let mine : is_made_as books.copies other.0 it.1 ≡ true =
        subst (λ (mark : Mark). is_made_as books.copies other.0 mark ≡ true) (same_mark it.1 other.1 same) was in
        let film : other.0 ≡ it.0 = one_film it.1 it.0 other.0 books.copies (once it.1) is mine in
        rw (same, film, same_test it.0) refl
  ]

-- ---- terms

-- a copy that is there has a film that is there
pub one_film_now : (b : ℕ) (catalogue : Catalogue) (shop : Shop) (x : ℕ) → IsLinkedShop b catalogue shop
    → lacks shop.copies x ≡ false → length (terms_now catalogue shop x) ≡ 1
one_film_now b catalogue shop x linked there =
    length_map film_terms (flat_map (λ (copy : Copy). at copy.film catalogue.films) (at x shop.copies))
    ∙ by_rows (at x shop.copies) (one_at x shop.copies there) (all_at (λ (it : Copy). has_row catalogue.films it.film) x shop.copies linked.copy_films) where
      by_rows : (rows : List Copy) → length rows ≡ 1 → list_all (λ (it : Copy). has_row catalogue.films it.film) rows ≡ true
          → length (flat_map (λ (copy : Copy). at copy.film catalogue.films) rows) ≡ 1
      by_rows [] single all = cc
      by_rows (copy ∷ []) single all =
          let h = and_parts (has_row catalogue.films copy.film) true all in
          ap length (append-nil (at copy.film catalogue.films)) ∙ one_at copy.film catalogue.films (not-true (lacks catalogue.films copy.film) h.0)
      by_rows (copy ∷ other ∷ rows) single all = absurd (omega (arith, single))

terms_kept : (rules : Rules) (b : ℕ) (catalogue : Catalogue) (command : Command) (act : Act) (shop : Shop) → IsLinkedShop b catalogue shop
    → NoneHold (act_refusals rules b catalogue shop command.moment act) → HasTerms shop → HasTerms (acted rules catalogue command act shop)
terms_kept rules b catalogue command (Rent c x) shop linked none same =
    let new = one_film_now b catalogue shop x linked none.1.1.0 in
    let terms = length-append shop.terms (terms_now catalogue shop x) in
    let rentals = length-append shop.rentals (record { rented = command.moment; copy = x; customer = c; returned = None; staff = command.staff } ∷ []) in
    omega (arith, new, terms, rentals, same)
terms_kept rules b catalogue command (TakeBack r) shop linked none same =
    same ∙ sym (length_set r (λ (it : Rental). record it { returned = Some command.moment }) shop.rentals)
terms_kept rules b catalogue command act shop linked none same = same

-- ---- a step and a run

-- what holds of the branch that acts, and of each other one, holds of all
of_each : (P : ℕ → Type 0) (b : ℕ) → P b → ((c : ℕ) → (b == c) ≡ false → P c) → (c : ℕ) → P c
of_each P b own other c = elim (cases_Bool (b == c)) [
  | inl is ↦ subst P (same_if b c is) own
  | inr isnt ↦ other c isnt
]

done_sound : (rules sizes : Rules) (b : ℕ) (command : Command) (books : Books)
    → rules.commands ≤ sizes.commands → rules.copies ≤ sizes.copies → IsSound sizes books
    → verdict rules b books.catalogue (shop_of b books) command ≡ Accepted → IsSound sizes (book_done rules b command books)
done_sound rules sizes b command books most fit sound e =
    let all = accepted_holds rules b books.catalogue (shop_of b books) command e in
    let none = act_holds rules b books.catalogue (shop_of b books) command e in
    let away = not_self rules b books.catalogue (shop_of b books) command.moment command.act none in
    let numbers = acted_numbers rules b command command.act books sound.numbers in
    let same = catalogue_stays rules b command command.act books in
    let works = staff_works b books.catalogue.staff command.staff (not-false _ all.1.1.0) in
    let there = branch_there b books.catalogue.branches books.catalogue.staff command.staff sound.catalogue.names.staff_branches works in
    let done = book_done rules b command books in
    let edits = edits_of rules b command command.act books in
    let allowed = edits_allowed rules b command command.act books sound.numbers (sound.links b) works none in
    record {
      catalogue = rw same sound.catalogue;
      owners =
          subst (λ (it : Catalogue). HasOwners it.branches (book_done rules b command books))
          (sym same) (owners_done rules b books.catalogue command books sound.owners there none);
      numbers = record { rows = numbers.rows; consignments = numbers.consignments };
      places = places_kept rules b command command.act books sound.places;
      custody = custody_kept rules sizes b books.catalogue command command.act books sound none;
      origins = let o = origins_kept rules b command command.act books sound.origins in record { rows = o.rows; lines = o.lines };
      settled = settled_kept rules b command command.act books sound.settled;
      lasts = one_last b command.moment books.lasts sound.lasts;
      held =
          let h = holder_kept rules b books.catalogue command command.act (shop_of b books) (sound.held b) none in
          of_each (λ c. HasOneHolder (shop_of c done)) b (rw (done_own rules b command books sound.numbers away) (record { one = h.one; here = h.here }))
          (λ c isnt. rw (done_other rules c b command books sound.numbers isnt)
          (arrived_or_same HasOneHolder c b command.act books (λ xs. holder_same (shop_of c books) _ refl refl (sound.held c)) (sound.held c)));
      shops =
          let good = each_weaker (IsAllowed b command.moment) (IsGoodEdit b command.moment) b (λ (books : Books) edit is. is.good) edits books allowed in
          of_each (λ c. IsGoodShop sizes (shop_of c done)) b
          (good_shop_done rules sizes b command books most fit sound.numbers (sound.shops b) all.0 all.1.0 none good)
          (λ c isnt. rw (done_other rules c b command books sound.numbers isnt)
          (arrived_or_same (IsGoodShop sizes) c b command.act books (λ xs. good_same sizes (shop_of c books) _ _ (sound.shops c)) (sound.shops c)));
      links =
          let linked = each_weaker (IsAllowed b command.moment) (IsLinkedEdit b) b (λ (books : Books) edit is. is.linked) edits books allowed in
          let shop = shop_of b books in
          let fresh =
          (none_kept command (filter (λ (k : Kept). bytes_eq k.command.key command.key) shop.kept)
          (first (refusals rules b books.catalogue shop command)) e).0 in
          of_each (λ c. IsLinkedShop c done.catalogue (shop_of c done)) b
          (rw same
          (linked_done rules b command books sound.numbers (sound.links b)
          (none_left (λ (it : Kept). bytes_eq it.command.key command.key) shop.kept fresh) linked))
          (λ c isnt. rw (same, done_other rules c b command books sound.numbers isnt) (linked_other c b command.act books (sound.links c) (sound.links b)));
      terms = of_each (λ c. HasTerms (shop_of c done)) b
          (subst HasTerms (sym (done_own rules b command books sound.numbers away))
          (terms_kept rules b books.catalogue command command.act (shop_of b books) (sound.links b) none (sound.terms b)))
          (λ c isnt.
          subst HasTerms (sym (done_other rules c b command books sound.numbers isnt))
          (arrived_or_same HasTerms c b command.act books (λ xs. sound.terms c) (sound.terms c)));
    }

branch_sound : (rules sizes : Rules) (b : ℕ) (request : Request) (books : Books) → rules.commands ≤ sizes.commands
    → rules.copies ≤ sizes.copies → IsSound sizes books → IsSound sizes (branch_after rules b request books)
branch_sound rules sizes b (Do command) books most fit sound =
    by_verdict (IsSound sizes) (verdict rules b books.catalogue (shop_of b books) command)
    (book_done rules b command books) books (done_sound rules sizes b command books most fit sound) sound
branch_sound rules sizes b request books most fit sound = sound

-- another catalogue, which is sound and has grown
grown_sound : (sizes : Rules) (catalogue : Catalogue) (books : Books) → IsSound sizes books → IsGoodCatalogue sizes catalogue
    → Grows books.catalogue catalogue → IsSound sizes (record books { catalogue = catalogue })
grown_sound sizes catalogue books sound good grows = record {
  catalogue = good;
  owners = let h = owners_grow books.catalogue.branches catalogue.branches books grows.branches sound.owners in
      record { rows = h.rows; lots = h.lots; kept = h.kept; lasts = h.lasts; sources = h.sources; addressees = h.addressees };
  numbers = record { rows = sound.numbers.rows; consignments = sound.numbers.consignments };
  places = sound.places;
  custody = sound.custody;
  origins = record { rows = sound.origins.rows; lines = sound.origins.lines };
  settled = sound.settled;
  lasts = sound.lasts;
  held = λ b. holder_same (shop_of b books) _ refl refl (sound.held b);
  shops = sound.shops;
  links = λ b. linked_grows b books.catalogue catalogue (shop_of b books) grows (sound.links b);
  terms = sound.terms;
}

office_sound : (rules sizes : Rules) (command : OfficeCommand) (books : Books) → rules.commands ≤ sizes.commands
    → IsSound sizes books → IsSound sizes (record books { catalogue = catalogue_after rules command books.catalogue })
office_sound rules sizes command books most sound =
    by_verdict (λ (it : Catalogue). IsSound sizes (record books { catalogue = it }))
    (office_verdict rules books.catalogue command) (office_done command books.catalogue) books.catalogue
    (λ e.
    grown_sound sizes (office_done command books.catalogue) books sound
    (good_done rules sizes command books.catalogue most sound.catalogue e) (done_grows command books.catalogue))
    sound

pub after_sound : (rules sizes : Rules) (caller : Caller) (request : Request) (books : Books) → rules.commands ≤ sizes.commands
    → rules.copies ≤ sizes.copies → IsSound sizes books → IsSound sizes (after_for rules caller request books)
after_sound rules sizes (Counter b) request books most fit sound = branch_sound rules sizes b request books most fit sound
after_sound rules sizes HeadOffice (Office command) books most fit sound = office_sound rules sizes command books most sound
after_sound rules sizes caller request books most fit sound = sound

pub stays_sound_within : StaySoundWithin
stays_sound_within rules sizes [] books most fit sound = sound
stays_sound_within rules sizes (event ∷ events) books most fit sound =
    let caller = caller_in event books in
    stays_sound_within rules sizes events (after rules event books) most fit (after_sound rules sizes caller (event.request caller) books most fit sound)

pub stays_sound : StaySound
stays_sound rules events books sound = stays_sound_within rules rules events books (omega arith) (omega arith) sound

pub in_one_place : CopiesAreInOnePlace
in_one_place rules events books sound =
    let s = stays_sound rules events books sound in
    record {
      once = λ mark. made_once mark 1 (last_books rules events books).copies (s.numbers.rows CopyRows mark.branch);
      place = λ mark. s.custody (is_mark mark);
      sums = s.custody (λ _. true);
      origins = s.origins;
      out = λ b. (s.held b).one;
      inside = s.held;
    }

pub opening_sound : OpeningIsSound
opening_sound rules catalogue good = record {
  catalogue = good;
  owners = record {
    rows = by_none (AreRowsOwned catalogue.branches) catalogue (λ t. refl);
    lots = refl;
    kept = refl;
    lasts = refl;
    sources = refl;
    addressees = refl;
  };
  places = tt;
  numbers = record { rows = by_none AreRowsNumbered catalogue (λ t b. tt); consignments = λ s a. tt };
  custody = λ test. refl;
  origins = record { rows = refl; lines = refl };
  settled = refl;
  lasts = refl;
  held = λ b. record { one = λ x. omega arith; here = λ x out. absurd (true≢false out) };
  shops = λ b.
      record {
        apart = refl;
        created = refl;
        rented = refl;
        paid = refl;
        rentals_rise = refl;
        payments_rise = refl;
        keys = omega arith;
        copies = omega arith;
        customers_fit = omega arith;
        rentals_fit = omega arith;
        payments_fit = omega arith;
        lots_fit = omega arith;
        sent_fit = omega arith;
      };
  links = λ b. linked_opening b catalogue;
  terms = λ b. refl;
}

pub empty_sound : EmptyIsSound
empty_sound rules token = opening_sound rules (empty_catalogue token) (record {
  names = record {
    city_countries = refl;
    film_languages = refl;
    film_categories = refl;
    cast_films = refl;
    cast_actors = refl;
    branch_cities = refl;
    managers = λ b. refl;
    staff_branches = refl;
    staff_cities = refl;
  };
  sizes = record {
    casts = omega arith;
    countries = omega arith;
    cities = omega arith;
    languages = omega arith;
    categories = omega arith;
    actors = omega arith;
    films = omega arith;
    branches = omega arith;
    staff = omega arith;
  };
  single = record { casts = refl; countries = refl; languages = refl; categories = refl };
  keys_fit = omega arith;
  keys = refl;
  tokens = refl;
  office_token = refl;
})

pub opening_books_sound : OpeningBooksAreSound
opening_books_sound rules = opening_sound rules opening_catalogue (record {
  names = record {
    city_countries = refl;
    film_languages = refl;
    film_categories = refl;
    cast_films = refl;
    cast_actors = refl;
    branch_cities = refl;
    managers = λ b. managed b;
    staff_branches = refl;
    staff_cities = refl;
  };
  sizes = record {
    casts = omega arith;
    countries = omega arith;
    cities = omega arith;
    languages = omega arith;
    categories = omega arith;
    actors = omega arith;
    films = omega arith;
    branches = omega arith;
    staff = omega arith;
  };
  single = record { casts = refl; countries = refl; languages = refl; categories = refl };
  keys_fit = omega arith;
  keys = refl;
  tokens = refl;
  office_token = refl;
}) where
  managed : (b : ℕ)
      → list_all (λ (it : Branch). list_all (is_staff_of b opening_catalogue.staff) (option_to_list it.manager)) (at b opening_catalogue.branches) ≡ true
  managed b = elim (cases_Bool (b == 1)) [
    | inl is ↦ rw (same_if b 1 is)
    | inr first ↦ elim (cases_Bool (b - 1 == 1)) [
      | inl is ↦ let two : b ≡ 2 = grind (arith, nat_tests, is) in rw two
      | inr second ↦ elim (cases_Bool (b - 1 - 1 == 1)) [
        | inl is ↦ let three : b ≡ 3 = grind (arith, nat_tests, is) in rw three
        | inr third ↦ rw (first, second, third)
      ]
    ]
  ]
