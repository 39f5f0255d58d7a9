-- Which answer is printed.
use Rattle.std.proofs.Common.{◌≡◌, ℕ, [], Bool, true, false, List, Option, Some, Result, Ok, Err, IfOk, sym, subst}
use Rattle.std.specs.Prelude.{if◌then◌else◌, IsTrue, string_bytes}
use Rattle.std.proofs.lemmas.Bool.{false≢true}
use Rattle.sqlite.specs.State.{State}
use Rattle.shop_types.specs.Seen.{seen_act}
use Rattle.shop_types.specs.declared.command.Act.{Act as Asked}
use Rattle.shop_types.specs.declared.command.Act.TheVariants as asked
use Rattle.shop_model.specs.Values.{Text, Act}
use Rattle.shop_model.specs.Answers.{Answer}
use Rattle.shop_model.specs.Calendar.{Moment}
use Rattle.till_book.specs.Steps as book
use Rattle.till_book.specs.declared.sums.Tally.{Tally}
use Rattle.till_work.specs.declared.place.Place.{Place}
use Rattle.till_requests.specs.Requests.{is_reading}
use Rattle.till_words.specs.declared.words.Drawer.{Drawer}
use Rattle.till_words.specs.declared.words.Drawer.TheVariants as drawer
use Rattle.till_words.specs.declared.words.TillAct.{TillAct}
use Rattle.till_words.specs.declared.words.TillAct.TheVariants as typed
use Rattle.till_cashier.specs.declared.fault.TillFault.{TillFault}
use Rattle.till_cashier.specs.declared.said.Said.{Said}
use Rattle.till_cashier.specs.declared.word.Plan.{Plan}
use Rattle.till_cashier.specs.declared.word.Plan.TheVariants as plan
use Rattle.till_cashier.specs.Asking.{IsLookedUp, IsOwing}
use Rattle.till_cashier.specs.Giving.{Gives}
use Rattle.till_cashier.specs.LastMoment.{TellsMoment}
use Rattle.till_cashier.specs.Doing.{IsPlanOf}
use Rattle.till_cashier.specs.Drawers.{SaysDay, SaysSums}
use Rattle.till_cashier.specs.Printing.{GivesSaying, SaysPlan, SaysReading, GivesWordSaying, SaysWord}
use Rattle.till_cashier.specs.Following.{SaysAct}
use Rattle.till_cashier.specs.Word.{IsDebtor, IsPlaceOf}
use Rattle.till_cashier.proofs.Departed.{looked_before}
use Rattle.till_cashier.proofs.Doing.{gives_stays, returned_before}
use Rattle.till_cashier.proofs.GoingOn.{stays_both}

-- of a result that is no fault, what follows for it
pub if_ok_so : {A E : Type 0} (r : Result A E) (P Q : A → Type 0) → IfOk r P → ((a : A) → P a → Q a) → IfOk r Q
if_ok_so (Ok a) P Q holds follows = follows a holds
if_ok_so (Err e) P Q holds follows = tt

-- the customer of an act's rental is the same in front of a look
debtor_before : (what : Asked) (customer : Option ℕ) (old new : State) → book.Stays old new → IsDebtor what customer new → IsDebtor what customer old
debtor_before (asked.TakeBack rental) customer old new stays is = λ journal rests. is journal (stays journal rests)
debtor_before (asked.Customer it) customer old new stays is = is
debtor_before (asked.Active who active) customer old new stays is = is
debtor_before (asked.Rent who copy) customer old new stays is = is
debtor_before (asked.Pay who rental amount) customer old new stays is = is
debtor_before (asked.Import lot file) customer old new stays is = is
debtor_before (asked.Dispatch to copies) customer old new stays is = is
debtor_before (asked.Receive from number missing) customer old new stays is = is
debtor_before (asked.Scrap copy) customer old new stays is = is

-- a drawer's sums are the same in front of a look
sums_before : (place : Place) (tally : Tally) (text : Text) (old new : State) → book.Stays old new → SaysSums place new tally text
    → SaysSums place old tally text
sums_before place tally text old new stays says = (says.0, says.1, says.2, says.3, λ journal rests. says.4 journal (stays journal rests))

day_before : (asked : Drawer) (place : Place) (old new : State) (text : Text) (status : ℕ) → book.Stays old new → SaysDay asked place new text status
    → SaysDay asked place old text status
day_before drawer.Since place old new text status stays says = (says.0, (says.1.0, sums_before place says.1.0 text old new stays says.1.1))
day_before (drawer.Close counted) place old new text status stays says =
    (says.0, (says.1.0, says.1.1, says.1.2, sums_before place says.1.0 says.1.1 old new stays says.1.3, says.1.4))
day_before (drawer.Closings day) place old new text status stays says = tt

module _ (Exchanged Answers : List ℕ → Answer → Type 0) (shows : ℕ → Type 0) (mark token : Text) (giver : Result ℕ TillFault) (json : Bool) (sheet : Text) where
  -- a look at the book leaves it so
  pub gives_saying : (r : Result Said TillFault) (act : Act) (customer : Option ℕ) (answer : Answer) (before after : Place) (old mid new : State)
      → Gives Exchanged shows mark token giver act answer before old after mid → book.Stays mid new
      → IfOk r (λ said. SaysAct (IsOwing Answers token) json sheet act customer answer (string_bytes said.text) said.status)
      → IfOk r (λ said. GivesSaying Exchanged Answers shows mark token giver json sheet act customer before old after new (string_bytes said.text) said.status)
  gives_saying r act customer answer before after old mid new gives stays says =
      if_ok_so r _ _ says (λ said is. (answer, gives_stays Exchanged shows mark token giver act answer before after old mid new gives stays, is))

module _ (Exchanged Answers : List ℕ → Answer → Type 0) (shows : ℕ → Type 0) (OnWall : Moment → Moment → Type 0) (mark token : Text)
    (giver : Result ℕ TillFault) (json : Bool) (sheet : Text) where
  -- what is printed of a plan is printed of the same plan by another name
  pub says_as : (last : Option Moment) (r : Result Said TillFault) (it other : Plan) (before : Place) (old : State) (after : Place) (new : State) → it ≡ other
      → IfOk r (λ said.
      SaysPlan Exchanged Answers shows OnWall mark token giver json sheet last other before old after new (string_bytes said.text) said.status)
      → IfOk r (λ said. SaysPlan Exchanged Answers shows OnWall mark token giver json sheet last it before old after new (string_bytes said.text) said.status)
  says_as last r it other before old after new same is =
      subst (λ (p : Plan). IfOk r (λ said.
      SaysPlan Exchanged Answers shows OnWall mark token giver json sheet last p before old after new (string_bytes said.text) said.status))
      (sym same) is

  word_saying : (act : Act) (customer : Option ℕ) (place after : Place) (old mid new : State) (text : Text) (status : ℕ)
      → IsPlaceOf place old → book.Stays old mid
      → GivesSaying Exchanged Answers shows mark token giver json sheet act customer place mid after new text status
      → GivesWordSaying Exchanged Answers shows mark token giver json sheet act customer old new text status
  word_saying act customer place after old mid new text status is stays says = (
    says.0,
    says.1.0,
    says.1.1,
    (λ journal commands rests tills.
        let counted = is journal rests in
        (after, says.1.2 journal commands (record { rests = stays journal rests; book = tills; entries = counted.0; replies = counted.1 }))),
    says.2,
  )

  as_plan : (last : Option Moment) (it other : Plan) (before : Place) (old : State) (after : Place) (new : State) (text : Text) (status : ℕ) → it ≡ other
      → SaysPlan Exchanged Answers shows OnWall mark token giver json sheet last it before old after new text status
      → SaysPlan Exchanged Answers shows OnWall mark token giver json sheet last other before old after new text status
  as_plan last it other before old after new text status same says =
      subst (λ (p : Plan). SaysPlan Exchanged Answers shows OnWall mark token giver json sheet last p before old after new text status) same says

  -- words of head office that only read
  reading_says : (last : Option Moment) (reads : Bool) (words : List Text) (it : Plan) (before : Place) (old : State) (after : Place) (new : State)
      (text : Text) (status : ℕ)
      → it ≡ (if reads then plan.ReadOffice words else plan.Office words)
      → SaysPlan Exchanged Answers shows OnWall mark token giver json sheet last it before old after new text status
      → IsTrue reads → SaysReading Answers token json words text status
  reading_says last true words it before old after new text status same says is =
      as_plan last it (plan.ReadOffice words) before old after new text status same says
  reading_says last false words it before old after new text status same says is = absurd (false≢true is)

  -- What is printed of the word's plan is printed of the word. The plan was made of the book as it was read.
  pub word_says : (last : Option Moment) (word : TillAct) (it : Plan) (place after : Place) (old read mid new : State) (text : Text) (status : ℕ)
      → IsPlaceOf place old → TellsMoment last old → book.Stays old read → book.Stays read mid → IsPlanOf sheet read word it
      → SaysPlan Exchanged Answers shows OnWall mark token giver json sheet last it place mid after new text status
      → SaysWord Exchanged Answers shows OnWall mark token giver json sheet word old new text status
  word_says last (typed.Do what) it place after old read mid new text status is moment first second plans says = (
    plans.0,
    debtor_before what plans.0 old read first plans.1,
    word_saying (seen_act what) plans.0 place after old mid new text status is (stays_both old read mid first second)
        (as_plan last it (plan.Give what plans.0) place mid after new text status plans.2 says),
  )
  word_says last (typed.ReturnCopy copy) it place after old read mid new text status is moment first second plans says = (
    plans.0,
    returned_before sheet copy plans.0 old read first plans.1,
    word_saying (seen_act (asked.TakeBack plans.0.rental)) (Some plans.0.customer) place after old mid new text status is (stays_both old read mid first second)
        (as_plan last it (plan.Give (asked.TakeBack plans.0.rental) (Some plans.0.customer)) place mid after new text status plans.2 says),
  )
  word_says last (typed.Office words) it place after old read mid new text status is moment first second plans says =
      λ reads. reading_says last (is_reading words) words it place mid after new text status plans says reads
  word_says last typed.Send it place after old read mid new text status is moment first second plans says = tt
  word_says last (typed.Look look) it place after old read mid new text status is moment first second plans says = (
    last,
    moment,
    looked_before (IsLookedUp Answers token) OnWall old mid (stays_both old read mid first second) sheet shows last json look [] 0 text status
        (as_plan last it (plan.Look look) place mid after new text status plans says),
  )
  word_says last typed.Waiting it place after old read mid new text status is moment first second plans says = tt
  word_says last (typed.Last count) it place after old read mid new text status is moment first second plans says = tt
  word_says last (typed.Day asked) it place after old read mid new text status is moment first second plans says = (
    place,
    is,
    day_before asked place old mid text status (stays_both old read mid first second)
        (as_plan last it (plan.Day asked) place mid after new text status plans says),
  )
  word_says last (typed.Today date) it place after old read mid new text status is moment first second plans says = tt
  word_says last (typed.Again late) it place after old read mid new text status is moment first second plans says = tt
  word_says last typed.Slip it place after old read mid new text status is moment first second plans says = tt
  word_says last typed.Help it place after old read mid new text status is moment first second plans says =
      as_plan last it plan.Usage place mid after new text status plans says
  word_says last (typed.Zone name) it place after old read mid new text status is moment first second plans says =
      as_plan last it plan.Usage place mid after new text status plans says
  word_says last (typed.Init beginning) it place after old read mid new text status is moment first second plans says =
      as_plan last it plan.Usage place mid after new text status plans says
  word_says last (typed.Import file lot) it place after old read mid new text status is moment first second plans says =
      as_plan last it plan.Usage place mid after new text status plans says
  word_says last (typed.JoinIn who) it place after old read mid new text status is moment first second plans says =
      as_plan last it plan.Usage place mid after new text status plans says
  word_says last typed.Prompt it place after old read mid new text status is moment first second plans says =
      as_plan last it plan.Usage place mid after new text status plans says
