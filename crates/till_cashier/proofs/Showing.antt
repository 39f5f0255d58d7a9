-- What is printed of the book.
use Rattle.std.proofs.Common.{◌≡◌, ◌<◌, ◌++◌, [], ℕ, Bool, true, false, List, Option, Result, Ok, Err, IfOk, inl, inr, sym, ap, subst, ◌∙◌, arith, append_assoc}
use Rattle.std.specs.Prelude.{if◌then◌else◌, ℤ, codes, string_bytes}
use Rattle.std.proofs.lemmas.Bool.{true≢false}
use Rattle.sqlite.specs.State.{State}
use Rattle.jiff_tz.specs.declared.timezone.TimeZone.{TimeZone}
use Rattle.shop_model.specs.Values.{Text}
use Rattle.shop_model.specs.Answers.{Answer}
use Rattle.till_book.specs.Steps as book
use Rattle.till_requests.specs.Requests.{is_reading}
use Rattle.till_work.specs.Desk.{GoesOn, with_replies}
use Rattle.till_work.specs.declared.place.Place.{Place}
use Rattle.till_words.specs.declared.words.TillAct.{TillAct}
use Rattle.till_words.specs.declared.words.TillAct.TheVariants as typed
use Rattle.till_cashier.specs.declared.fault.TillFault.{TillFault}
use Rattle.till_cashier.specs.declared.said.Said.{Said}
use Rattle.till_cashier.specs.declared.word.Plan.{Plan}
use Rattle.till_cashier.specs.declared.word.Plan.TheVariants as plan
use Rattle.till_cashier.specs.Again.{GivesLeft}
use Rattle.till_cashier.specs.Doing.{IsPlanOf}
use Rattle.till_cashier.specs.Listing.{OfBook, OfEach, ShowsEntries, ShowsSent}
use Rattle.till_cashier.specs.Showing.{AddsMore, SaysInTurn, SaysEntered, SaysAgain, RepeatsSaying, ShowsPlan, ShowsWord}
use Rattle.till_cashier.specs.Word.{IsPlaceOf, SendsAll}
use Rattle.till_cashier.proofs.GoingOn.{stays_both}
use Rattle.till_cashier.proofs.Left.{given_before, left_before}
use Rattle.till_cashier.proofs.Listing.{book_each}

-- both hold of a result that is no fault
pub both_ok : {A E : Type 0} (r : Result A E) (P Q R : A → Type 0) → IfOk r P → IfOk r Q → ((a : A) → P a → Q a → R a) → IfOk r R
both_ok (Ok a) P Q R one two follows = follows a one two
both_ok (Err e) P Q R one two follows = tt

pub three_ok : {A E : Type 0} (r : Result A E) (P Q R S : A → Type 0) → IfOk r P → IfOk r Q → IfOk r R → ((a : A) → P a → Q a → R a → S a) → IfOk r S
three_ok (Ok a) P Q R S one two three follows = follows a one two three
three_ok (Err e) P Q R S one two three follows = tt

-- a fault was added below
pub stopped_more : (r : Result Said TillFault) (old mid : Text) (was : ℕ) → AddsMore old mid was → IfOk r (λ it. it.status < 3 → ⊥)
    → IfOk r (λ it. AddsMore mid (string_bytes it.text) it.status) → IfOk r (λ it. AddsMore old (string_bytes it.text) it.status)
stopped_more (Ok it) old mid was one high two = (
  one.0 ++ two.0,
  two.1 ∙ ap (λ (text : Text). text ++ two.0) one.1 ∙ append_assoc old one.0 two.0,
  (λ none. absurd (high (omega (arith, none)))),
)
stopped_more (Err e) old mid was one high two = tt

-- a fault's status isn't 0
pub high_then : (r : Result Said TillFault) (P : Type 0) → IfOk r (λ it. it.status < 3 → ⊥) → IfOk r (λ it. it.status ≡ 0 → P)
high_then (Ok it) P high = λ zero. absurd (high (omega (arith, zero)))
high_then (Err e) P high = tt

module _ (Exchanged : List ℕ → Answer → Type 0) (wall : TimeZone) (offset : ℤ) (own : Option ℕ) where
  -- what waited was sent, and is shown
  pub sent_shown : (before after : Place) (old mid new : State) (text : Text) → SendsAll Exchanged before old after mid → book.Stays mid new
      → OfEach mid (λ journal. ShowsEntries wall offset own (codes "nothing waits") before.replies journal text)
      → OfBook before old (λ journal. ShowsSent Exchanged wall offset own journal new text)
  sent_shown before after old mid new text sends stays shows journal has =
      let it = sends journal has in
      record {
        answers = it.0;
        rests = stays (with_replies it.0 journal) it.1.has.rests;
        told = it.1.told;
        shows =
            subst (λ (n : ℕ). ShowsEntries wall offset own (codes "nothing waits") n (with_replies it.0 journal) text) has.replies
            (shows (with_replies it.0 journal) it.1.has.rests);
      }

  -- a till's book went on, and is shown
  pub again_shown : (shows : ℕ → Type 0) (mark token : Text) (before after : Place) (old mid new : State) (table text : Text) (status : ℕ)
      → (status ≡ 0 → GivesLeft Exchanged shows mark token own before old after new) → GoesOn Exchanged mark before old after mid → book.Stays mid new
      → OfEach mid (λ journal. ShowsEntries wall offset own [] before.replies journal table) → AddsMore table text status
      → SaysAgain Exchanged shows wall offset own mark token before old after new text status
  again_shown shows mark token before after old mid new table text status left goes stays says more = inr (
    left,
    λ journal commands at.
        let it = goes journal commands at in
        record {
          journal = it.journal;
          commands = it.commands;
          is_at = record { rests = stays it.journal it.is_at.rests; book = it.is_at.book; entries = it.is_at.entries; replies = it.is_at.replies };
          extends = it.extends;
          table = table;
          shows = subst (λ (n : ℕ). ShowsEntries wall offset own [] n it.journal table) at.replies (says it.journal it.is_at.rests);
          more = more;
        },
  )

  module _ (shows : ℕ → Type 0) (mark token : Text) (json : Bool) where
    -- what is printed of a plan is printed of the same plan by another name
    pub shows_as : (r : Result Said TillFault) (it other : Plan) (before : Place) (old : State) (after : Place) (new : State) → it ≡ other
        → IfOk r (λ said. ShowsPlan Exchanged shows wall offset own mark token json other before old after new (string_bytes said.text) said.status)
        → IfOk r (λ said. ShowsPlan Exchanged shows wall offset own mark token json it before old after new (string_bytes said.text) said.status)
    shows_as r it other before old after new same is =
        subst (λ (p : Plan). IfOk r (λ said.
        ShowsPlan Exchanged shows wall offset own mark token json p before old after new (string_bytes said.text) said.status))
        (sym same) is

    as_plan : (it other : Plan) (before : Place) (old : State) (after : Place) (new : State) (text : Text) (status : ℕ) → it ≡ other
        → ShowsPlan Exchanged shows wall offset own mark token json it before old after new text status
        → ShowsPlan Exchanged shows wall offset own mark token json other before old after new text status
    as_plan it other before old after new text status same prints =
        subst (λ (p : Plan). ShowsPlan Exchanged shows wall offset own mark token json p before old after new text status) same prints

    entered : (words : List Text) (place after : Place) (old mid new : State) (text : Text) (status : ℕ) → IsPlaceOf place old → book.Stays old mid
        → SaysInTurn Exchanged mark token json words place mid after new text status
        → SaysEntered Exchanged mark token json words old new text status
    entered words place after old mid new text status is stays (inl none) = inl none
    entered words place after old mid new text status is stays (inr (inl fault)) = inr (inl fault)
    entered words place after old mid new text status is stays (inr (inr says)) = inr (inr (
      says.0,
      (λ journal rests.
          let counted = is journal rests in
          (after, says.1 journal (record { rests = stays journal rests; entries = counted.0; replies = counted.1 }))),
      says.2,
    ))

    office_shows : (reads : Bool) (words : List Text) (it : Plan) (place after : Place) (old mid new : State) (text : Text) (status : ℕ)
        → it ≡ (if reads then plan.ReadOffice words else plan.Office words) → IsPlaceOf place old → book.Stays old mid
        → ShowsPlan Exchanged shows wall offset own mark token json it place mid after new text status
        → reads ≡ false → SaysEntered Exchanged mark token json words old new text status
    office_shows true words it place after old mid new text status same is stays prints enters = absurd (true≢false enters)
    office_shows false words it place after old mid new text status same is stays prints enters =
        entered words place after old mid new text status is stays (as_plan it (plan.Office words) place mid after new text status same prints)

    repeated : (place after : Place) (old mid new : State) (text : Text) (status : ℕ) → IsPlaceOf place old → book.Stays old mid
        → SaysAgain Exchanged shows wall offset own mark token place mid after new text status
        → RepeatsSaying Exchanged shows wall offset own mark token old new text status
    repeated place after old mid new text status is stays (inl none) =
        inl (stays_both old mid new stays none.0, none.1, λ zero. left_before [] old mid stays (none.2 zero))
    repeated place after old mid new text status is stays (inr prints) = inr (
      (λ zero. (place, after, is, given_before Exchanged shows mark token own place after old mid new stays (prints.0 zero))),
      λ journal commands rests tills.
          let counted = is journal rests in
          (after, prints.1 journal commands (record { rests = stays journal rests; book = tills; entries = counted.0; replies = counted.1 })),
    )

    -- What is printed of the word's plan is printed of the word. The plan was made of the book as it was read.
    pub word_shows : (sheet : Text) (word : TillAct) (it : Plan) (place after : Place) (old read mid new : State) (text : Text) (status : ℕ)
        → IsPlaceOf place old → book.Stays old read → book.Stays read mid → IsPlanOf sheet read word it
        → ShowsPlan Exchanged shows wall offset own mark token json it place mid after new text status
        → ShowsWord Exchanged shows wall offset own mark token json word old new text status
    word_shows sheet (typed.Do what) it place after old read mid new text status is first second plans prints = tt
    word_shows sheet (typed.ReturnCopy copy) it place after old read mid new text status is first second plans prints = tt
    word_shows sheet (typed.Office words) it place after old read mid new text status is first second plans prints = λ enters.
        office_shows (is_reading words) words it place after old mid new text status plans is (stays_both old read mid first second) prints enters
    word_shows sheet typed.Send it place after old read mid new text status is first second plans prints =
        let says = as_plan it plan.Send place mid after new text status plans prints in
        (says.0, book_each place old mid _ is (stays_both old read mid first second) says.1)
    word_shows sheet (typed.Look look) it place after old read mid new text status is first second plans prints = tt
    word_shows sheet typed.Waiting it place after old read mid new text status is first second plans prints =
        let says = as_plan it plan.Waiting place mid after new text status plans prints in
        (says.0, book_each place old mid _ is (stays_both old read mid first second) says.1)
    word_shows sheet (typed.Last count) it place after old read mid new text status is first second plans prints =
        let says = as_plan it (plan.Last count) place mid after new text status plans prints in
        (says.0, book_each place old mid _ is (stays_both old read mid first second) says.1)
    word_shows sheet (typed.Day asked) it place after old read mid new text status is first second plans prints = tt
    word_shows sheet (typed.Today date) it place after old read mid new text status is first second plans prints =
        as_plan it (plan.Today date) place mid after new text status plans prints
    word_shows sheet (typed.Again late) it place after old read mid new text status is first second plans prints =
        repeated place after old mid new text status is (stays_both old read mid first second)
        (as_plan it (plan.Again late) place mid after new text status plans prints)
    word_shows sheet typed.Slip it place after old read mid new text status is first second plans prints =
        as_plan it plan.Slip place mid after new text status plans prints
    word_shows sheet typed.Help it place after old read mid new text status is first second plans prints = tt
    word_shows sheet (typed.Zone name) it place after old read mid new text status is first second plans prints = tt
    word_shows sheet (typed.Init beginning) it place after old read mid new text status is first second plans prints = tt
    word_shows sheet (typed.Import file lot) it place after old read mid new text status is first second plans prints = tt
    word_shows sheet (typed.JoinIn who) it place after old read mid new text status is first second plans prints = tt
    word_shows sheet typed.Prompt it place after old read mid new text status is first second plans prints = tt
