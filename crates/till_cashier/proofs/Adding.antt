-- Tries that were entered, one step after another.
use Rattle.std.proofs.Common.{◌≡◌, ◌+◌, ◌≤◌, ◌++◌, ◌∷◌, [], ℕ, suc, List, Option, None, Result, Ok, Err, Some, length, inl, inr, Bool, true, false, sym, subst}
use Rattle.std.proofs.Common.{refl, append-nil, arith}
use Rattle.std.specs.Prelude.{if◌then◌else◌, IsTrue, slice_get}
use Rattle.std.proofs.lemmas.List.Elements.{All-nil}
use Rattle.std.proofs.lemmas.Bool.{false≢true}
use Rattle.sqlite.specs.State.{State}
use Rattle.shop_model.specs.Values.{Text, Act, Command}
use Rattle.shop_model.specs.Answers.{Answer}
use Rattle.till_book.specs.Journal.{Journal, with_entry}
use Rattle.till_book.specs.Steps as book
use Rattle.till_work.specs.declared.place.Place.{Place}
use Rattle.till_work.specs.Desk.{IsAt, Stays, Sends, with_replies}
use Rattle.till_work.proofs.GoingOn.{place_of, at_place, rests_stays, more_then}
use Rattle.till_cashier.specs.declared.fault.TillFault.{TillFault}
use Rattle.till_cashier.specs.Giving.{EntersTry}
use Rattle.till_cashier.specs.Office.{AddsWords}
use Rattle.till_cashier.proofs.InTurn.{stays_words, added_words}
use Rattle.till_cashier.specs.Adding.{AreTriesBy, HasTries, AddsTries, AddsOneTry, AddsNoEntry, EntersPlan, AddsWord, KeepsEntries, EntersWord, AddsFirst}
use Rattle.till_cashier.specs.Again.{IsRefusedIn}
use Rattle.till_cashier.specs.Faults.{giver_of}
use Rattle.till_cashier.specs.declared.refused.Repeat.{Repeat}
use Rattle.till_cashier.proofs.Repeating.{each_before}
use Rattle.till_cashier.specs.Doing.{IsPlanOf}
use Rattle.till_cashier.specs.Word.{IsPlaceOf}
use Rattle.till_cashier.specs.declared.word.Plan.{Plan}
use Rattle.till_cashier.specs.declared.word.Plan.TheVariants as plan
use Rattle.till_cashier.proofs.GoingOn.{stays_both}
use Rattle.till_cashier.proofs.Doing.{returned_before}
use Rattle.till_requests.specs.Requests.{is_reading}
use Rattle.till_words.specs.declared.words.TillAct.{TillAct}
use Rattle.till_words.specs.declared.words.TillAct.TheVariants as typed
use Rattle.shop_types.specs.Seen.{seen_act}
use Rattle.shop_types.specs.declared.command.Act.TheVariants as asked
use Rattle.till_work.specs.Entering.{IsTillsBook}

pub by_then : (shows : ℕ → Type 0) (token : Text) (giver : Result ℕ TillFault) (act : Act) (xs ys : List (List ℕ)) (cs ds : List Command)
    → AreTriesBy shows token giver act xs cs → AreTriesBy shows token giver act ys ds
    → AreTriesBy shows token giver act (xs ++ ys) (cs ++ ds)
by_then shows token giver act [] ys [] ds one two = two
by_then shows token giver act [] ys (c ∷ cs) ds one two = absurd one
by_then shows token giver act (x ∷ xs) ys [] ds one two = absurd one
by_then shows token giver act (x ∷ xs) ys (c ∷ cs) ds one two = (one.0, by_then shows token giver act xs ys cs ds one.1 two)

module _ (shows : ℕ → Type 0) (mark token : Text) (giver : Result ℕ TillFault) (act : Act) where
  -- a book with the same entries
  same_entries : (place : Place) (s : State) (old next : Journal) (said : List Command) (more : List Answer) → IsAt mark place s next said
      → next.entries ≡ old.entries → next.replies ≡ old.replies ++ more
      → (it : HasTries shows mark token giver act place s old said) × (length it.requests ≤ 1)
  same_entries place s old next said more at same replies = (
    record {
      journal = next;
      commands = said;
      is_at = at;
      requests = [];
      tries = [];
      entries = rw same (sym (append-nil old.entries));
      says = sym (append-nil said);
      each = tt;
      replies = (more, replies);
      refused = inl none;
    },
    none,
  )
    where
      none : 0 ≤ 1
      none = omega arith

  pub one_nothing : (before after : Place) (old new : State) → Stays before old after new → AddsOneTry shows mark token giver act before old after new
  one_nothing before after old new stays journal commands at =
      same_entries after new journal journal commands []
      (at_place mark before after old new journal journal commands at refl (stays journal (place_of mark before old journal commands at))) refl
      (sym (append-nil journal.replies))

  pub adds_nothing : (before after : Place) (old new : State) → Stays before old after new → AddsTries shows mark token giver act before old after new
  adds_nothing before after old new stays journal commands at = (one_nothing before after old new stays journal commands at).0

  pub one_try : (before after : Place) (old new : State) → EntersTry shows mark token giver act before old after new
      → AddsOneTry shows mark token giver act before old after new
  one_try before after old new enters journal commands at =
      let it = enters.2 journal commands at in (
        record {
          journal = with_entry it.0 journal;
          commands = commands ++ it.1 ∷ [];
          is_at = it.3;
          requests = it.0 ∷ [];
          tries = it.1 ∷ [];
          entries = refl;
          says = refl;
          each = ((enters.0, enters.1, it.2), tt);
          replies = ([], sym (append-nil journal.replies));
          refused = inl one;
        },
        one,
      )
    where
      one : 1 ≤ 1
      one = omega arith

  -- a try, and what was sent after it
  pub one_sent : (Exchanged : List ℕ → Answer → Type 0) (before mid after : Place) (old between new : State)
      → EntersTry shows mark token giver act before old mid between → Sends Exchanged mid between after new
      → AddsOneTry shows mark token giver act before old after new
  one_sent Exchanged before mid after old between new enters sends journal commands at =
      let it = enters.2 journal commands at in
      let next : Journal = with_entry it.0 journal in
      let sent = sends next (place_of mark mid between next (commands ++ it.1 ∷ []) it.3) in (
        record {
          journal = with_replies sent.0 next;
          commands = commands ++ it.1 ∷ [];
          is_at = at_place mark mid after between new next (with_replies sent.0 next) (commands ++ it.1 ∷ []) it.3 refl sent.1.has;
          requests = it.0 ∷ [];
          tries = it.1 ∷ [];
          entries = refl;
          says = refl;
          each = ((enters.0, enters.1, it.2), tt);
          replies = (sent.0, refl);
          refused = inl one;
        },
        one,
      )
    where
      one : 1 ≤ 1
      one = omega arith

  pub adds_stays : (before after : Place) (old mid new : State) → AddsTries shows mark token giver act before old after mid → book.Stays mid new
      → AddsTries shows mark token giver act before old after new
  adds_stays before after old mid new adds stays journal commands at =
      let it = adds journal commands at in
      record {
        journal = it.journal;
        commands = it.commands;
        is_at = at_place mark after after mid new it.journal it.journal it.commands it.is_at refl
            (rests_stays after mid new stays it.journal (place_of mark after mid it.journal it.commands it.is_at));
        requests = it.requests;
        tries = it.tries;
        entries = it.entries;
        says = it.says;
        each = it.each;
        replies = it.replies;
        refused = it.refused;
      }

-- what was sent, at the same entries
pub sends_no_entry : (Exchanged : List ℕ → Answer → Type 0) (mark : Text) (before after : Place) (old new : State) → Sends Exchanged before old after new
    → AddsNoEntry mark before old after new
sends_no_entry Exchanged mark before after old new sends journal commands at =
    let sent = sends journal (place_of mark before old journal commands at) in
    (with_replies sent.0 journal, refl, at_place mark before after old new journal (with_replies sent.0 journal) commands at refl sent.1.has)

pub no_entry_stays : (mark : Text) (before after : Place) (old mid new : State) → AddsNoEntry mark before old after mid → book.Stays mid new
    → AddsNoEntry mark before old after new
no_entry_stays mark before after old mid new adds stays journal commands at =
    let it = adds journal commands at in (
      it.0,
      it.1,
      at_place mark after after mid new it.0 it.0 commands it.2 refl
          (rests_stays after mid new stays it.0 (place_of mark after mid it.0 commands it.2)),
    )

-- ---- acts that are given once more

no_ok : (fault : TillFault) (k : ℕ) → ◌≡◌ {A = Result ℕ TillFault} (Err fault) (Ok k) → ⊥
no_ok fault k e = cc

same_giver : (own : Option ℕ) (staff k : ℕ) → giver_of own (Some staff) ≡ Ok k → ◌≡◌ {A = Result ℕ TillFault} (Ok staff) (Ok k)
same_giver None staff k e = absurd (no_ok _ k e)
same_giver (Some till) staff k e = e

tries_by : (shows : ℕ → Type 0) (token : Text) (own : Option ℕ) (staff : ℕ) (act : Act) (requests : List (List ℕ)) (commands : List Command)
    → AreTriesBy shows token (giver_of own (Some staff)) act requests commands → AreTriesBy shows token (Ok staff) act requests commands
tries_by shows token own staff act [] [] tries = tt
tries_by shows token own staff act [] (command ∷ commands) tries = absurd tries
tries_by shows token own staff act (request ∷ requests) [] tries = absurd tries
tries_by shows token own staff act (request ∷ requests) (command ∷ commands) tries =
    ((tries.0.0, same_giver own staff tries.0.0 tries.0.1, tries.0.2), tries_by shows token own staff act requests commands tries.1)

module _ (shows : ℕ → Type 0) (mark token : Text) where
  pub no_repeats : (acts : List Repeat) (place : Place) (old new : State) → book.Stays old new → AddsFirst shows mark token 0 acts place old place new
  no_repeats acts place old new stays journal commands at = record {
    journal = journal;
    commands = commands;
    is_at = record { rests = stays journal at.rests; book = at.book; entries = at.entries; replies = at.replies };
    requests = [];
    tries = [];
    entries = sym (append-nil journal.entries);
    says = sym (append-nil commands);
    each = (refl, refl);
  }

  repeats_suc : (own : Option ℕ) (n : ℕ) (acts : List Repeat) (it : Repeat) (before mid after : Place) (old s new : State)
      → AddsFirst shows mark token n acts before old mid s → slice_get acts n ≡ Some it
      → AddsTries shows mark token (giver_of own (Some it.staff)) (seen_act it.act) mid s after new
      → AddsFirst shows mark token (suc n) acts before old after new
  repeats_suc own n acts it before mid after old s new one there two journal commands at =
      let first = one journal commands at in
      let next = two first.journal first.commands first.is_at in
      record {
        journal = next.journal;
        commands = next.commands;
        is_at = next.is_at;
        requests = first.requests ++ next.requests;
        tries = first.tries ++ next.tries;
        entries = more_then journal.entries first.journal.entries next.journal.entries first.requests next.requests first.entries next.entries;
        says = more_then commands first.commands next.commands first.tries next.tries first.says next.says;
        each = (
          it,
          there,
          first.requests,
          next.requests,
          first.tries,
          next.tries,
          first.each,
          tries_by shows token own it.staff (seen_act it.act) next.requests next.tries next.each,
          refl,
          refl,
        );
      }

  -- tries of one act more
  pub repeats_next : (own : Option ℕ) (n : ℕ) (acts : List Repeat) (it : Repeat) (before mid after : Place) (old s new : State)
      → AddsFirst shows mark token n acts before old mid s → slice_get acts n ≡ Some it
      → AddsTries shows mark token (giver_of own (Some it.staff)) (seen_act it.act) mid s after new
      → AddsFirst shows mark token (n + 1) acts before old after new
  repeats_next own n acts it before mid after old s new one there two =
      let e : suc n ≡ n + 1 = omega arith in
      subst (λ (k : ℕ). AddsFirst shows mark token k acts before old after new) e (repeats_suc own n acts it before mid after old s new one there two)

  -- a book stays before
  pub repeats_later : (n : ℕ) (acts : List Repeat) (before after : Place) (old mid new : State) → book.Stays old mid
      → AddsFirst shows mark token n acts before mid after new → AddsFirst shows mark token n acts before old after new
  repeats_later n acts before after old mid new stays adds journal commands at =
      adds journal commands (record { rests = stays journal at.rests; book = at.book; entries = at.entries; replies = at.replies })

  -- and after
  pub repeats_before : (n : ℕ) (acts : List Repeat) (before after : Place) (old mid new : State) → AddsFirst shows mark token n acts before old after mid
      → book.Stays mid new → AddsFirst shows mark token n acts before old after new
  repeats_before n acts before after old mid new adds stays journal commands at =
      let it = adds journal commands at in
      record {
        journal = it.journal;
        commands = it.commands;
        is_at = record { rests = stays it.journal it.is_at.rests; book = it.is_at.book; entries = it.is_at.entries; replies = it.is_at.replies };
        requests = it.requests;
        tries = it.tries;
        entries = it.entries;
        says = it.says;
        each = it.each;
      }

module _ (shows : ℕ → Type 0) (mark token : Text) (giver : Result ℕ TillFault) where
  -- what a plan enters, the same plan by another name enters
  pub enters_as : (it other : Plan) (before : Place) (old : State) (after : Place) (new : State)
      → it ≡ other → EntersPlan shows mark token giver it before old after new → EntersPlan shows mark token giver other before old after new
  enters_as it other before old after new same enters = subst (λ (p : Plan). EntersPlan shows mark token giver p before old after new) same enters

  nothing_word : (act : Act) (old new : State) → book.Stays old new → AddsWord shows mark token giver act old new
  nothing_word act old new stays journal commands rests tills =
      let place : Place = record { entries = length journal.entries; replies = length journal.replies } in
      let at : IsAt mark place old journal commands = record { rests = rests; book = tills; entries = refl; replies = refl } in
      (place, adds_nothing shows mark token giver act place place old new (rests_stays place old new stays) journal commands at)

  -- of a word at which the book stays
  pub stays_word : (sheet : Text) (word : TillAct) (old new : State) → book.Stays old new → EntersWord shows mark token giver sheet word old new
  stays_word sheet (typed.Do what) old new stays = nothing_word (seen_act what) old new stays
  stays_word sheet (typed.ReturnCopy copy) old new stays = inl stays
  stays_word sheet (typed.Office words) old new stays = (stays_words mark token words old new stays, λ reads. stays)
  stays_word sheet typed.Send old new stays =
      λ journal commands rests tills.
      let place : Place = record { entries = length journal.entries; replies = length journal.replies } in
      (place, journal, refl, record { rests = stays journal rests; book = tills; entries = refl; replies = refl })
  stays_word sheet (typed.Again late) old new stays = (
    [],
    All-nil (IsRefusedIn old),
    0,
    λ journal commands rests tills.
        let place : Place = record { entries = length journal.entries; replies = length journal.replies } in
        let at : IsAt mark place old journal commands = record { rests = rests; book = tills; entries = refl; replies = refl } in
        (place, no_repeats shows mark token [] place old new stays journal commands at),
  )
  stays_word sheet (typed.Look look) old new stays = stays
  stays_word sheet typed.Waiting old new stays = stays
  stays_word sheet (typed.Last count) old new stays = stays
  stays_word sheet (typed.Day asked) old new stays = stays
  stays_word sheet (typed.Today date) old new stays = stays
  stays_word sheet typed.Slip old new stays = stays
  stays_word sheet typed.Help old new stays = stays
  stays_word sheet (typed.Zone name) old new stays = stays
  stays_word sheet (typed.Init beginning) old new stays = stays
  stays_word sheet (typed.Import file lot) old new stays = stays
  stays_word sheet (typed.JoinIn who) old new stays = stays
  stays_word sheet typed.Prompt old new stays = stays

  added_word : (act : Act) (place after : Place) (old mid new : State) → IsPlaceOf place old → book.Stays old mid
      → AddsTries shows mark token giver act place mid after new → AddsWord shows mark token giver act old new
  added_word act place after old mid new is stays adds journal commands rests tills =
      let counted = is journal rests in
      (after, adds journal commands (record { rests = stays journal rests; book = tills; entries = counted.0; replies = counted.1 }))

  office_adds : (reads : Bool) (words : List Text) (it : Plan) (place after : Place) (old mid new : State) → IsPlaceOf place old → book.Stays old mid
      → it ≡ (if reads then plan.ReadOffice words else plan.Office words)
      → EntersPlan shows mark token giver it place mid after new → AddsWords mark token words old new
  office_adds true words it place after old mid new is stays same enters =
      stays_words mark token words old new (stays_both old mid new stays (enters_as it (plan.ReadOffice words) place mid after new same enters))
  office_adds false words it place after old mid new is stays same enters =
      added_words mark token words place after old mid new is stays (enters_as it (plan.Office words) place mid after new same enters)

  office_stays : (reads : Bool) (words : List Text) (it : Plan) (before : Place) (old : State) (after : Place) (new : State)
      → it ≡ (if reads then plan.ReadOffice words else plan.Office words)
      → EntersPlan shows mark token giver it before old after new → IsTrue reads → book.Stays old new
  office_stays true words it before old after new same enters is = enters_as it (plan.ReadOffice words) before old after new same enters
  office_stays false words it before old after new same enters is = absurd (false≢true is)

  -- What a word's plan enters is what the word enters. The plan was made of the book as it was read.
  pub word_enters : (sheet : Text) (word : TillAct) (it : Plan) (place after : Place) (old read mid new : State)
      → IsPlaceOf place old → book.Stays old read → book.Stays read mid → IsPlanOf sheet read word it
      → EntersPlan shows mark token giver it place mid after new → EntersWord shows mark token giver sheet word old new
  word_enters sheet (typed.Do what) it place after old read mid new is first second plans enters =
      added_word (seen_act what) place after old mid new is (stays_both old read mid first second)
      (enters_as it (plan.Give what plans.0) place mid after new plans.2 enters)
  word_enters sheet (typed.ReturnCopy copy) it place after old read mid new is first second plans enters = inr (
    plans.0,
    returned_before sheet copy plans.0 old read first plans.1,
    added_word (seen_act (asked.TakeBack plans.0.rental)) place after old mid new is (stays_both old read mid first second)
        (enters_as it (plan.Give (asked.TakeBack plans.0.rental) (Some plans.0.customer)) place mid after new plans.2 enters),
  )
  word_enters sheet (typed.Office words) it place after old read mid new is first second plans enters = (
    office_adds (is_reading words) words it place after old mid new is (stays_both old read mid first second) plans enters,
    λ reads. stays_both old mid new (stays_both old read mid first second) (office_stays (is_reading words) words it place mid after new plans enters reads),
  )
  word_enters sheet typed.Send it place after old read mid new is first second plans enters =
      λ journal commands rests tills.
      let counted = is journal rests in
      let stays = stays_both old read mid first second in
      let adds = enters_as it plan.Send place mid after new plans enters journal commands
      (record { rests = stays journal rests; book = tills; entries = counted.0; replies = counted.1 }) in
      (after, adds.0, adds.1, adds.2)
  word_enters sheet (typed.Again late) it place after old read mid new is first second plans enters =
      let stays = stays_both old read mid first second in
      let adds = enters_as it (plan.Again late) place mid after new plans enters in (
        adds.0,
        each_before adds.0 old mid stays adds.1,
        adds.2,
        λ journal commands rests tills.
            let counted = is journal rests in
            (after, adds.3 journal commands (record { rests = stays journal rests; book = tills; entries = counted.0; replies = counted.1 })),
      )
  word_enters sheet (typed.Look look) it place after old read mid new is first second plans enters =
      stays_both old mid new (stays_both old read mid first second) (enters_as it (plan.Look look) place mid after new plans enters)
  word_enters sheet typed.Waiting it place after old read mid new is first second plans enters =
      stays_both old mid new (stays_both old read mid first second) (enters_as it plan.Waiting place mid after new plans enters)
  word_enters sheet (typed.Last count) it place after old read mid new is first second plans enters =
      stays_both old mid new (stays_both old read mid first second) (enters_as it (plan.Last count) place mid after new plans enters)
  word_enters sheet (typed.Day asked) it place after old read mid new is first second plans enters =
      stays_both old mid new (stays_both old read mid first second) (enters_as it (plan.Day asked) place mid after new plans enters)
  word_enters sheet (typed.Today date) it place after old read mid new is first second plans enters =
      stays_both old mid new (stays_both old read mid first second) (enters_as it (plan.Today date) place mid after new plans enters)
  word_enters sheet typed.Slip it place after old read mid new is first second plans enters =
      stays_both old mid new (stays_both old read mid first second) (enters_as it plan.Slip place mid after new plans enters)
  word_enters sheet typed.Help it place after old read mid new is first second plans enters =
      stays_both old mid new (stays_both old read mid first second) (enters_as it plan.Usage place mid after new plans enters)
  word_enters sheet (typed.Zone name) it place after old read mid new is first second plans enters =
      stays_both old mid new (stays_both old read mid first second) (enters_as it plan.Usage place mid after new plans enters)
  word_enters sheet (typed.Init beginning) it place after old read mid new is first second plans enters =
      stays_both old mid new (stays_both old read mid first second) (enters_as it plan.Usage place mid after new plans enters)
  word_enters sheet (typed.Import file lot) it place after old read mid new is first second plans enters =
      stays_both old mid new (stays_both old read mid first second) (enters_as it plan.Usage place mid after new plans enters)
  word_enters sheet (typed.JoinIn who) it place after old read mid new is first second plans enters =
      stays_both old mid new (stays_both old read mid first second) (enters_as it plan.Usage place mid after new plans enters)
  word_enters sheet typed.Prompt it place after old read mid new is first second plans enters =
      stays_both old mid new (stays_both old read mid first second) (enters_as it plan.Usage place mid after new plans enters)
