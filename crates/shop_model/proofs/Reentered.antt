-- The accepted commands of a history make its books, and bring them back.
use Rattle.shop_model.proofs.Common.{◌≡◌, AllByRecursion, ℕ, ◌==◌, append-nil, append_assoc, Owned, Kept, OfficeKept, Catalogue, ap₂, Option, Text, reply_by}
use Rattle.shop_model.proofs.Common.{caller_of, inl, inr, List, [], ◌∷◌, ◌++◌, Bool, true, false, not, refl, sym, ap, ◌∙◌, ◌||◌, cases_Bool, and_parts}
use Rattle.shop_model.proofs.Common.{false≢true, true≢false, Rules, OfficeAsk, Verdict, Again, Refused, Accepted, verdict, office_verdict, Request, Do, Office}
use Rattle.shop_model.proofs.Common.{Reply, Done, if_accepted, office_done, office_text, reply_text, Books, Event, Caller, Counter, HeadOffice, shop_of}
use Rattle.shop_model.proofs.Common.{book_done, after_for, after, caller_in, reply_for, reply_in, run, last_books, marked_ones, is_command, is_nobody}
use Rattle.shop_model.proofs.Common.{if◌then◌else◌}
use Rattle.shop_model.specs.Reentered.{kept_by, office_kept_by, kept_in, office_kept_in, AcceptedAreKept, is_accepted, accepts, are_accepted, accepted_ones}
use Rattle.shop_model.specs.Reentered.{keeps_all, IsLeftBy, BooksAreOfAccepted, LostIsBroughtBack}
use Rattle.shop_model.proofs.Resends.{verdict_of, again_told, again_through, caller_after}
use Rattle.shop_model.proofs.RowLemmas.{more_yes, more_no}
use Rattle.shop_model.proofs.SameStates.{by_cases, by_verdict}
use Rattle.shop_model.proofs.Accepted.{catalogue_stays}
use Rattle.shop_model.proofs.Resent.{done_again as branch_again}
use Rattle.shop_model.proofs.OfficeResent.{done_again as office_again}

-- ---- what isn't accepted changes nothing

other_leaves : {A : Type 0} (v : Verdict) (x y : A) → is_accepted v ≡ false → if_accepted v x y ≡ y
other_leaves (Again text) x y e = refl
other_leaves (Refused refusal) x y e = refl
other_leaves Accepted x y e = absurd (true≢false e)

pub others_leave : (rules : Rules) (caller : Caller) (request : Request) (books : Books)
    → accepts rules caller request books ≡ false → after_for rules caller request books ≡ books
others_leave rules (Counter b) (Do command) books e =
    other_leaves (verdict rules b books.catalogue (shop_of b books) command) (book_done rules b command books) books e
others_leave rules HeadOffice (Office command) books e =
    rw (other_leaves (office_verdict rules books.catalogue command) (office_done command books.catalogue) books.catalogue e)
others_leave rules caller request books e = refl

-- ---- any events that are left, with all that were accepted

pub left : (rules : Rules) (look : OfficeAsk → Books → Reply) (marks : List Bool) (events : List Event) (books : Books)
    → keeps_all (are_accepted rules events books) marks ≡ true
    → IsLeftBy rules look marks events books
left rules look [] [] books keeps = record { replies = refl; leaves = refl }
left rules look (mark ∷ marks) [] books keeps = absurd (false≢true keeps)
left rules look [] (event ∷ events) books keeps = absurd (false≢true keeps)
left rules look (mark ∷ marks) (event ∷ events) books keeps =
    let caller = caller_in event books in
    let must = accepts rules caller (event.request caller) books in
    let h = and_parts (not must || mark) (keeps_all (are_accepted rules events (after rules event books)) marks) keeps in
    let more = left rules look marks events (after rules event books) h.1 in
    elim (cases_Bool mark) [
      | inl is ↦ record { replies = rw is (ap (λ rest. (caller, reply_in rules look event books) ∷ rest) more.replies); leaves = rw is more.leaves }
      | inr isnt ↦
          let same : after rules event books ≡ books = others_leave rules caller (event.request caller) books (free must mark h.0 isnt) in
          record { replies = rw (isnt, same) (rw same at more.replies); leaves = rw (isnt, same) (rw same at more.leaves) }
    ]
  where
    free : (must mark : Bool) → (not must || mark) ≡ true → mark ≡ false → must ≡ false
    free false mark h isnt = refl
    free true mark h isnt = absurd (false≢true (sym isnt ∙ h))

all_kept : (marks : List Bool) → keeps_all marks marks ≡ true
all_kept [] = refl
all_kept (true ∷ marks) = all_kept marks
all_kept (false ∷ marks) = all_kept marks

pub of_accepted : BooksAreOfAccepted
of_accepted rules look events books = record {
  alone = left rules look (are_accepted rules events books) events books (all_kept (are_accepted rules events books));
  among = λ marks keeps. left rules look marks events books keeps;
}

-- ---- what is kept

step_kept : (rules : Rules) (b : ℕ) (caller : Caller) (request : Request) (books : Books)
    → (shop_of b (after_for rules caller request books)).kept ≡ (shop_of b books).kept ++ kept_by rules b caller request books
step_kept rules b (Counter c) (Do command) books =
    let k : Kept = record { command = command; reply = reply_text rules command (shop_of c books) } in
    let old = (shop_of b books).kept in
    let other : old ≡ old ++ (if c == b then [] else []) =
    elim (cases_Bool (c == b)) [ inl is ↦ rw is (sym (append-nil old)) | inr isnt ↦ rw isnt (sym (append-nil old)) ] in
    by_cases (λ v. (shop_of b (if_accepted v (book_done rules c command books) books)).kept ≡ old ++ (if c == b then if_accepted v (k ∷ []) [] else []))
    (verdict rules c books.catalogue (shop_of c books) command)
    (λ _. elim (cases_Bool (c == b)) [
      | inl is ↦ rw is (more_yes (λ (row : Owned Kept). row.it) (λ row. row.owner == b) books.kept (record { owner = c; it = k }) is)
      | inr isnt ↦
          rw isnt (more_no (λ (row : Owned Kept). row.it) (λ row. row.owner == b) books.kept (record { owner = c; it = k }) isnt ∙ sym (append-nil old))
    ])
    (λ _ _. other) (λ _. other)
step_kept rules b HeadOffice (Office command) books = sym (append-nil (shop_of b books).kept)
step_kept rules b caller request books = sym (append-nil (shop_of b books).kept)

step_office : (rules : Rules) (caller : Caller) (request : Request) (books : Books)
    → (after_for rules caller request books).catalogue.kept ≡ books.catalogue.kept ++ office_kept_by rules caller request books
step_office rules (Counter b) (Do command) books =
    let old = books.catalogue.kept in
    by_verdict (λ (it : Books). it.catalogue.kept ≡ old ++ [])
    (verdict rules b books.catalogue (shop_of b books) command) (book_done rules b command books) books
    (λ _. ap (λ (it : Catalogue). it.kept) (catalogue_stays rules b command command.act books) ∙ sym (append-nil old)) (sym (append-nil old))
step_office rules HeadOffice (Office command) books =
    let k : OfficeKept = record { command = command; reply = office_text command books.catalogue } in
    let old = books.catalogue.kept in
    by_cases (λ v. (if_accepted v (office_done command books.catalogue) books.catalogue).kept ≡ old ++ if_accepted v (k ∷ []) [])
    (office_verdict rules books.catalogue command)
    (λ _. refl) (λ _ _. sym (append-nil old)) (λ _. sym (append-nil old))
step_office rules caller request books = sym (append-nil books.catalogue.kept)

pub are_kept : AcceptedAreKept
are_kept rules [] books = record { branch = λ b. sym (append-nil (shop_of b books).kept); office = sym (append-nil books.catalogue.kept) }
are_kept rules (x ∷ xs) books =
    let caller = caller_in x books in
    let request = x.request caller in
    let now = after rules x books in
    let more = are_kept rules xs now in
    record {
      branch = λ b.
          more.branch b ∙ ap (λ (front : List Kept). front ++ kept_in rules b xs now) (step_kept rules b caller request books)
          ∙ append_assoc (shop_of b books).kept (kept_by rules b caller request books) (kept_in rules b xs now);
      office =
          more.office ∙ ap (λ (front : List OfficeKept). front ++ office_kept_in rules xs now) (step_office rules caller request books)
          ∙ append_assoc books.catalogue.kept (office_kept_by rules caller request books) (office_kept_in rules xs now);
    }

-- ---- one history after another

run-append : (rules : Rules) (look : OfficeAsk → Books → Reply) (xs ys : List Event) (books : Books)
    → run rules look (xs ++ ys) books ≡ run rules look xs books ++ run rules look ys (last_books rules xs books)
run-append rules look [] ys books = refl
run-append rules look (x ∷ xs) ys books =
    ap (λ rest. (caller_in x books, reply_in rules look x books) ∷ rest) (run-append rules look xs ys (after rules x books))

last-append : (rules : Rules) (xs ys : List Event) (books : Books) → last_books rules (xs ++ ys) books ≡ last_books rules ys (last_books rules xs books)
last-append rules [] ys books = refl
last-append rules (x ∷ xs) ys books = last-append rules xs ys (after rules x books)

pub accepted-append : (rules : Rules) (xs ys : List Event) (books : Books)
    → accepted_ones rules (xs ++ ys) books ≡ accepted_ones rules xs books ++ accepted_ones rules ys (last_books rules xs books)
accepted-append rules [] ys books = refl
accepted-append rules (x ∷ xs) ys books =
    let more = accepted-append rules xs ys (after rules x books) in
    elim (cases_Bool (accepts rules (caller_in x books) (x.request (caller_in x books)) books)) [
      | inl is ↦ rw is (ap (λ rest. x ∷ rest) more)
      | inr isnt ↦ rw isnt more
    ]

marked-append : (rules : Rules) (look : OfficeAsk → Books → Reply) (xs ys : List Event) (books : Books)
    → marked_ones (are_accepted rules (xs ++ ys) books) (run rules look (xs ++ ys) books)
    ≡ marked_ones (are_accepted rules xs books) (run rules look xs books)
    ++ marked_ones (are_accepted rules ys (last_books rules xs books)) (run rules look ys (last_books rules xs books))
marked-append rules look [] ys books = refl
marked-append rules look (x ∷ xs) ys books =
    let more = marked-append rules look xs ys (after rules x books) in
    elim (cases_Bool (accepts rules (caller_in x books) (x.request (caller_in x books)) books)) [
      | inl is ↦ rw is (ap (λ rest. (caller_in x books, reply_in rules look x books) ∷ rest) more)
      | inr isnt ↦ rw isnt more
    ]

-- ---- accepted commands that come again

is_given : (v : Verdict) → is_accepted v ≡ true → v ≡ Accepted
is_given (Again text) e = absurd (false≢true e)
is_given (Refused refusal) e = absurd (false≢true e)
is_given Accepted e = refl

-- the request is answered with its text, is given again from then on, and is a command of a caller who is known
abbrev pub IsGiven : Rules → (OfficeAsk → Books → Reply) → Caller → Request → Books → Type 0
IsGiven rules look caller request books =
    (text : Text) × (reply_for rules look caller request books ≡ Done text)
    × (verdict_of rules caller request (after_for rules caller request books) ≡ Again text)
    × (is_command caller request ≡ true) × (is_nobody caller ≡ false)

pub given : (rules : Rules) (look : OfficeAsk → Books → Reply) (caller : Caller) (request : Request) (books : Books)
    → accepts rules caller request books ≡ true → IsGiven rules look caller request books
given rules look (Counter b) (Do command) books e =
    let text = reply_text rules command (shop_of b books) in
    let is = is_given (verdict rules b books.catalogue (shop_of b books) command) e in (
      text,
      ap (λ v. reply_by v text) is,
      ap (λ v. verdict_of rules (Counter b) (Do command) (if_accepted v (book_done rules b command books) books)) is ∙ branch_again rules b command books is,
      refl,
      refl,
    )
given rules look HeadOffice (Office command) books e =
    let text = office_text command books.catalogue in
    let is = is_given (office_verdict rules books.catalogue command) e in (
      text,
      ap (λ v. reply_by v text) is,
      ap (λ v. office_verdict rules (if_accepted v (office_done command books.catalogue) books.catalogue) command) is
          ∙ office_again rules command books.catalogue is,
      refl,
      refl,
    )
given rules look caller request books e = absurd (false≢true e)

caller_through : (rules : Rules) (token : Option Text) (c : Caller) (events : List Event) (books : Books)
    → is_nobody c ≡ false → caller_of token books.catalogue ≡ c
    → caller_of token (last_books rules events books).catalogue ≡ c
caller_through rules token c [] books known e = e
caller_through rules token c (x ∷ xs) books known e =
    let caller = caller_in x books in
    caller_through rules token c xs (after rules x books) known (caller_after rules caller (x.request caller) token c books known e)

-- the accepted commands of a history, sent again to books that have it, get their replies once more and change nothing
pub record AreAgain (rules : Rules) (look : OfficeAsk → Books → Reply) (events : List Event) (books copy : Books) : Type 0 where
  pub replies : run rules look (accepted_ones rules events books) copy ≡ marked_ones (are_accepted rules events books) (run rules look events books)
  pub leaves : last_books rules (accepted_ones rules events books) copy ≡ copy
  pub each :
      AllByRecursion (λ (e : Event). (is_command (caller_in e copy) (e.request (caller_in e copy)) ≡ true) × (after rules e copy ≡ copy))
      (accepted_ones rules events books)

pub again : (rules : Rules) (look : OfficeAsk → Books → Reply) (events : List Event) (books : Books)
    → AreAgain rules look events books (last_books rules events books)
again rules look [] books = record { replies = refl; leaves = refl; each = tt }
again rules look (x ∷ xs) books =
    let caller = caller_in x books in
    let request = x.request caller in
    let now = after rules x books in
    let copy = last_books rules xs now in
    let rest = accepted_ones rules xs now in
    let more = again rules look xs now in
    elim (cases_Bool (accepts rules caller request books)) [
      | inr isnt ↦ record { replies = rw isnt more.replies; leaves = rw isnt more.leaves; each = rw isnt more.each }
      | inl is ↦
          let g = given rules look caller request books is in
          let c : caller_in x copy ≡ caller = caller_through rules x.token caller (x ∷ xs) books g.4 refl in
          let told = again_told rules look g.0 copy caller request g.3 (again_through rules caller request g.3 g.0 xs now g.2) in
          let stays : after rules x copy ≡ copy = ap (λ (k : Caller). after_for rules k (x.request k) copy) c ∙ told.1 in
          let same : ◌≡◌ {A = Caller × Reply} (caller_in x copy, reply_in rules look x copy) (caller, reply_in rules look x books) =
          ap (λ (k : Caller). (k, reply_for rules look k (x.request k) copy)) c ∙ ap (λ (r : Reply). (caller, r)) (told.0 ∙ sym g.1) in
          record {
            replies = rw is (ap₂ (λ (a : Caller × Reply) (l : List (Caller × Reply)). a ∷ l) same (ap (run rules look rest) stays ∙ more.replies));
            leaves = rw is (ap (last_books rules rest) stays ∙ more.leaves);
            each = rw is ((ap (λ (k : Caller). is_command k (x.request k)) c ∙ g.3, stays), more.each);
          }
    ]

pub brought_back : LostIsBroughtBack
brought_back rules look front lost books =
    let copy = last_books rules front books in
    let early = accepted_ones rules front books in
    let late = accepted_ones rules lost copy in
    let first = again rules look front books in
    let next = left rules look (are_accepted rules lost copy) lost copy (all_kept (are_accepted rules lost copy)) in
    let all = accepted-append rules front lost books in
    record {
      all_replies = ap (λ (events : List Event). run rules look events copy) all ∙ run-append rules look early late copy
          ∙ ap₂ (λ (xs ys : List (Caller × Reply)). xs ++ ys) first.replies (ap (run rules look late) first.leaves ∙ next.replies)
          ∙ sym (marked-append rules look front lost books);
      all_leave =
          ap (λ (events : List Event). last_books rules events copy) all
          ∙ last-append rules early late copy ∙ ap (last_books rules late) first.leaves ∙ next.leaves
          ∙ sym (last-append rules front lost books);
      late_replies = next.replies;
      late_leave = next.leaves ∙ sym (last-append rules front lost books);
    }
