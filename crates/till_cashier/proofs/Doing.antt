-- What a word did.
use Rattle.std.proofs.Common.{◌≡◌, ◌∙◌, ◌≤◌, ◌++◌, ℕ, Bool, true, false, List, Option, None, Some, Result, Ok, Err, OnOk, IfErr, length, sym, subst, refl}
use Rattle.std.proofs.Common.{inl, inr}
use Rattle.std.specs.Prelude.{if◌then◌else◌, IsTrue}
use Rattle.std.proofs.lemmas.Bool.{false≢true}
use Rattle.sqlite.specs.State.{State}
use Rattle.shop_types.specs.Seen.{seen_act}
use Rattle.shop_types.specs.declared.command.Act.{Act as Asked}
use Rattle.shop_types.specs.declared.command.Act.TheVariants as asked
use Rattle.shop_model.specs.Values.{Text, Act, Command}
use Rattle.shop_model.specs.Answers.{Answer}
use Rattle.till_book.specs.Journal.{Journal}
use Rattle.till_book.specs.Steps as book
use Rattle.till_book.specs.declared.rents.HeldRental.{HeldRental}
use Rattle.till_work.specs.Entering.{IsTillsBook}
use Rattle.till_work.specs.Desk.{HasPlace, Sends, with_replies}
use Rattle.till_work.specs.declared.place.Place.{Place}
use Rattle.till_words.specs.declared.words.TillAct.{TillAct}
use Rattle.till_words.specs.declared.words.TillAct.TheVariants as typed
use Rattle.till_requests.specs.Requests.{is_reading}
use Rattle.till_cashier.specs.declared.fault.TillFault.{TillFault}
use Rattle.till_cashier.specs.declared.word.Plan.{Plan}
use Rattle.till_cashier.specs.declared.word.Plan.TheVariants as plan
use Rattle.till_cashier.specs.Word.{IsPlaceOf, SendsAll}
use Rattle.till_cashier.specs.Returns.{IsReturned}
use Rattle.till_cashier.specs.Giving.{Gives, GivesAct}
use Rattle.till_cashier.specs.Doing.{IsPlanOf, IsCarriedOut, GivesWord, SendsWord, DoesWord}
use Rattle.till_cashier.proofs.GoingOn.{stays_both}

pub on_ok : {A E : Type 0} (r : Result A E) {P : Type 0} → P → OnOk r P
on_ok (Ok a) holds = holds
on_ok (Err e) holds = tt

pub ok_then : {A E : Type 0} (r : Result A E) {P Q : Type 0} → OnOk r P → (P → Q) → OnOk r Q
ok_then (Ok a) holds follows = follows holds
ok_then (Err e) holds follows = tt

-- of a result that is no fault
pub ok_is : {A E : Type 0} (r : Result A E) {P : Type 0} → IfErr r (λ _. ⊥) → OnOk r P → P
ok_is (Ok a) is holds = holds
ok_is (Err e) is holds = absurd is

-- what was done of a plan was done of the same plan by another name
pub carried_out :
    {A E : Type 0} (r : Result A E) (Exchanged : List ℕ → Answer → Type 0) (shows : ℕ → Type 0) (mark token : Text)
    (giver : Result ℕ TillFault) (it other : Plan)
    (before : Place) (old : State) (after : Place) (new : State) → it ≡ other
    → OnOk r (IsCarriedOut Exchanged shows mark token giver other before old after new)
    → OnOk r (IsCarriedOut Exchanged shows mark token giver it before old after new)
carried_out r Exchanged shows mark token giver it other before old after new same done =
    subst (λ (p : Plan). OnOk r (IsCarriedOut Exchanged shows mark token giver p before old after new)) (sym same) done

-- what the book is read for stays so in front of a look
pub returned_before : (sheet : Text) (copy : ℕ) (held : HeldRental) (old new : State) → book.Stays old new
    → IsReturned sheet copy held new → IsReturned sheet copy held old
returned_before sheet copy held old new stays (inl is) = inl (λ journal rests. is journal (stays journal rests))
returned_before sheet copy held old new stays (inr is) = inr ((λ journal rests. is.0 journal (stays journal rests)), is.1)

module _ (Exchanged : List ℕ → Answer → Type 0) where
  -- ---- what waited was sent

  pub sends_all : (before after : Place) (old new : State) → Sends Exchanged before old after new
      → (before.replies ≤ before.entries → after.replies ≡ before.entries)
      → SendsAll Exchanged before old after new
  sends_all before after old new sends all journal has =
      let it = sends journal has in (
        it.0,
        it.1,
        (λ fits. sym it.1.has.replies ∙ all (rw (has.replies, has.entries) fits) ∙ has.entries),
      )

  pub all_stays : {A E : Type 0} (r : Result A E) (before after : Place) (old mid new : State) → SendsAll Exchanged before old after mid → book.Stays mid new
      → OnOk r (SendsAll Exchanged before old after new)
  all_stays r before after old mid new sends stays =
      on_ok r (λ journal has.
      let it = sends journal has in (
        it.0,
        record {
          has = record { rests = stays (with_replies it.0 journal) it.1.has.rests; entries = it.1.has.entries; replies = it.1.has.replies };
          told = it.1.told;
        },
        it.2,
      ))

  sent_word : (place after : Place) (old mid new : State) → IsPlaceOf place old
      → book.Stays old mid → SendsAll Exchanged place mid after new → SendsWord Exchanged old new
  sent_word place after old mid new is stays sends journal rests =
      let counted = is journal rests in
      let it = sends journal (record { rests = stays journal rests; entries = counted.0; replies = counted.1 }) in
      (it.0, it.1.has.rests, it.1.told, it.2)

  -- ---- an act was given

  module _ (shows : ℕ → Type 0) (mark token : Text) (giver : Result ℕ TillFault) where
    -- a look at the book leaves it so
    pub gives_stays : (act : Act) (answer : Answer) (before after : Place) (old mid new : State)
        → Gives Exchanged shows mark token giver act answer before old after mid
        → book.Stays mid new → Gives Exchanged shows mark token giver act answer before old after new
    gives_stays act answer before after old mid new gives stays = (
      gives.0,
      gives.1,
      (λ journal commands at.
          let given = gives.2 journal commands at in
          let it = given.2 in (
            given.0,
            given.1,
            record {
              journal = it.journal;
              commands = it.commands;
              is_at = record { rests = stays it.journal it.is_at.rests; book = it.is_at.book; entries = it.is_at.entries; replies = it.is_at.replies };
              extends = it.extends;
              requests = it.requests;
              tries = it.tries;
              entries = it.entries;
              says = it.says;
              each = it.each;
              waited = it.waited;
              replies = it.replies;
              first = it.first;
              counted = it.counted;
              settled = it.settled;
            },
          )),
    )

    pub gives_told : {A E : Type 0} (r : Result A E) (act : Act) (answer : Answer) (before after : Place) (old mid new : State)
        → Gives Exchanged shows mark token giver act answer before old after mid → book.Stays mid new
        → OnOk r (GivesAct Exchanged shows mark token giver act before old after new)
    gives_told (Ok a) act answer before after old mid new gives stays = (answer, gives_stays act answer before after old mid new gives stays)
    gives_told (Err e) act answer before after old mid new gives stays = tt

    given_word : (what : Act) (place after : Place) (old mid new : State) → IsPlaceOf place old
        → book.Stays old mid → GivesAct Exchanged shows mark token giver what place mid after new
        → GivesWord Exchanged shows mark token giver what old new
    given_word what place after old mid new is stays gives = (
      gives.0,
      gives.1.0,
      gives.1.1,
      (λ journal commands rests tills.
          let counted = is journal rests in
          (after, gives.1.2 journal commands (record { rests = stays journal rests; book = tills; entries = counted.0; replies = counted.1 }))),
    )

    -- of the plan that it is
    as_planned : (it other : Plan) (before : Place) (old : State) (after : Place) (new : State)
        → it ≡ other → IsCarriedOut Exchanged shows mark token giver it before old after new
        → IsCarriedOut Exchanged shows mark token giver other before old after new
    as_planned it other before old after new same done = subst (λ (p : Plan). IsCarriedOut Exchanged shows mark token giver p before old after new) same done

    -- words of head office that only read
    reading_stays : (reads : Bool) (words : List Text) (it : Plan) (before : Place) (old : State) (after : Place) (new : State)
        → it ≡ (if reads then plan.ReadOffice words else plan.Office words)
        → IsCarriedOut Exchanged shows mark token giver it before old after new → IsTrue reads → book.Stays old new
    reading_stays true words it before old after new same done is = as_planned it (plan.ReadOffice words) before old after new same done
    reading_stays false words it before old after new same done is = absurd (false≢true is)

    -- What was carried out of the word's plan is the word. The plan was made of the book as it was read.
    pub word_done : (sheet : Text) (word : TillAct) (it : Plan) (place after : Place) (old read mid new : State)
        → IsPlaceOf place old → book.Stays old read → book.Stays read mid → IsPlanOf sheet read word it
        → IsCarriedOut Exchanged shows mark token giver it place mid after new → DoesWord Exchanged shows mark token giver sheet word old new
    word_done sheet (typed.Do what) it place after old read mid new is first second plans done =
        given_word (seen_act what) place after old mid new is (stays_both old read mid first second)
        (as_planned it (plan.Give what plans.0) place mid after new plans.2 done)
    word_done sheet (typed.ReturnCopy copy) it place after old read mid new is first second plans done = (
      plans.0,
      returned_before sheet copy plans.0 old read first plans.1,
      given_word (seen_act (asked.TakeBack plans.0.rental)) place after old mid new is (stays_both old read mid first second)
          (as_planned it (plan.Give (asked.TakeBack plans.0.rental) (Some plans.0.customer)) place mid after new plans.2 done),
    )
    word_done sheet (typed.Office words) it place after old read mid new is first second plans done =
        λ reads. stays_both old mid new (stays_both old read mid first second) (reading_stays (is_reading words) words it place mid after new plans done reads)
    word_done sheet typed.Send it place after old read mid new is first second plans done =
        sent_word place after old mid new is (stays_both old read mid first second) (as_planned it plan.Send place mid after new plans done)
    word_done sheet (typed.Look look) it place after old read mid new is first second plans done =
        stays_both old mid new (stays_both old read mid first second) (as_planned it (plan.Look look) place mid after new plans done)
    word_done sheet typed.Waiting it place after old read mid new is first second plans done =
        stays_both old mid new (stays_both old read mid first second) (as_planned it plan.Waiting place mid after new plans done)
    word_done sheet (typed.Last count) it place after old read mid new is first second plans done =
        stays_both old mid new (stays_both old read mid first second) (as_planned it (plan.Last count) place mid after new plans done)
    word_done sheet (typed.Day asked) it place after old read mid new is first second plans done =
        stays_both old mid new (stays_both old read mid first second) (as_planned it (plan.Day asked) place mid after new plans done)
    word_done sheet (typed.Today date) it place after old read mid new is first second plans done =
        stays_both old mid new (stays_both old read mid first second) (as_planned it (plan.Today date) place mid after new plans done)
    word_done sheet (typed.Again late) it place after old read mid new is first second plans done = tt
    word_done sheet typed.Slip it place after old read mid new is first second plans done =
        stays_both old mid new (stays_both old read mid first second) (as_planned it plan.Slip place mid after new plans done)
    word_done sheet typed.Help it place after old read mid new is first second plans done =
        stays_both old mid new (stays_both old read mid first second) (as_planned it plan.Usage place mid after new plans done)
    word_done sheet (typed.Zone name) it place after old read mid new is first second plans done =
        stays_both old mid new (stays_both old read mid first second) (as_planned it plan.Usage place mid after new plans done)
    word_done sheet (typed.Init beginning) it place after old read mid new is first second plans done =
        stays_both old mid new (stays_both old read mid first second) (as_planned it plan.Usage place mid after new plans done)
    word_done sheet (typed.Import file lot) it place after old read mid new is first second plans done =
        stays_both old mid new (stays_both old read mid first second) (as_planned it plan.Usage place mid after new plans done)
    word_done sheet (typed.JoinIn who) it place after old read mid new is first second plans done =
        stays_both old mid new (stays_both old read mid first second) (as_planned it plan.Usage place mid after new plans done)
    word_done sheet typed.Prompt it place after old read mid new is first second plans done =
        stays_both old mid new (stays_both old read mid first second) (as_planned it plan.Usage place mid after new plans done)
