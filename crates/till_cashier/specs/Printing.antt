-- Which answer is printed: that of the act that was given.
use Rattle.std.specs.Prelude.{◌≡◌, ◌⊎◌, ⊤, ℕ, Bool, List, Option, Some, Result, Ok, IsTrue}
use Rattle.sqlite.specs.State.{State}
use Rattle.shop_model.specs.Answers.{Answer}
use Rattle.shop_model.specs.Calendar.{Moment}
use Rattle.shop_model.specs.Values.{Text, Act, Command}
use Rattle.shop_types.specs.Seen.{seen_act}
use Rattle.shop_types.specs.declared.command.Act.TheVariants.{TakeBack}
use Rattle.till_book.specs.Journal.{Journal}
use Rattle.till_book.specs.Steps.{Rests}
use Rattle.till_book.specs.declared.rents.HeldRental.{HeldRental}
use Rattle.till_work.specs.Entering.{IsTillsBook}
use Rattle.till_work.specs.declared.place.Place.{Place}
use Rattle.till_words.specs.declared.words.TillAct.{TillAct}
use Rattle.till_words.specs.declared.words.TillAct.TheVariants as typed
use Rattle.till_cashier.specs.declared.fault.TillFault.{TillFault}
use Rattle.till_cashier.specs.declared.word.Plan.{Plan}
use Rattle.till_cashier.specs.declared.word.Plan.TheVariants as plan
use Rattle.till_requests.specs.Requests.{IsNoLine, is_reading}
use Rattle.till_cashier.specs.Asking.{IsOwing, IsReadOut}
use Rattle.till_cashier.specs.Drawers.{SaysDay}
use Rattle.till_cashier.specs.Following.{SaysAct}
use Rattle.till_cashier.specs.Giving.{IsGivenAt, Gives}
use Rattle.till_cashier.specs.LastMoment.{TellsMoment}
use Rattle.till_cashier.specs.Looking.{PrintsLook}
use Rattle.till_cashier.specs.Returns.{IsReturned}
use Rattle.till_cashier.specs.Saying.{SaysOfficeAnswer, status_of}
use Rattle.till_cashier.specs.Word.{IsDebtor, IsPlaceOf}

-- The act was given, its last reply is some answer, and what is printed is of that very answer.
abbrev pub GivesSaying : (List ℕ → Answer → Type 0) → (List ℕ → Answer → Type 0) → (ℕ → Type 0) → Text → Text → Result ℕ TillFault → Bool → Text → Act
    → Option ℕ → Place → State → Place → State → Text → ℕ → Type 0
GivesSaying Exchanged Answers shows mark token giver json sheet act customer before old after new text status =
    (answer : Answer) × Gives Exchanged shows mark token giver act answer before old after new
    × SaysAct (IsOwing Answers token) json sheet act customer answer text status

-- What is printed of words of head office that only read is of some answer to them. Or the words are none, and it says how words are given, with status 2.
abbrev pub SaysReading : (List ℕ → Answer → Type 0) → Text → Bool → List Text → Text → ℕ → Type 0
SaysReading Answers token json words text status =
    ((status ≡ 2) × IsNoLine words)
    ⊎ ((answer : Answer) × IsReadOut Answers token words answer × SaysOfficeAnswer json answer text × (status ≡ status_of answer.status))

-- What a plan prints: the answer that an act got, some answer to a look or a reading, a drawer's sums, and that a usage is one. Of what other plans print
-- nothing is said.
-- `last` is the last entry's moment, and `OnWall` what the clock on the wall shows at an entry's moment.
abbrev pub SaysPlan : (List ℕ → Answer → Type 0) → (List ℕ → Answer → Type 0) → (ℕ → Type 0) → (Moment → Moment → Type 0) → Text → Text → Result ℕ TillFault
    → Bool → Text → Option Moment → Plan → Place → State → Place → State → Text → ℕ → Type 0
SaysPlan Exchanged Answers shows OnWall mark token giver json sheet last (plan.Give what customer) before old after new text status =
    GivesSaying Exchanged Answers shows mark token giver json sheet (seen_act what) customer before old after new text status
SaysPlan Exchanged Answers shows OnWall mark token giver json sheet last (plan.Office words) before old after new text status = ⊤
SaysPlan Exchanged Answers shows OnWall mark token giver json sheet last plan.Send before old after new text status = ⊤
SaysPlan Exchanged Answers shows OnWall mark token giver json sheet last (plan.Look look) before old after new text status =
    PrintsLook Answers token OnWall old shows last json sheet look text status
SaysPlan Exchanged Answers shows OnWall mark token giver json sheet last (plan.ReadOffice words) before old after new text status =
    SaysReading Answers token json words text status
SaysPlan Exchanged Answers shows OnWall mark token giver json sheet last plan.Waiting before old after new text status = ⊤
SaysPlan Exchanged Answers shows OnWall mark token giver json sheet last (plan.Last count) before old after new text status = ⊤
SaysPlan Exchanged Answers shows OnWall mark token giver json sheet last (plan.Day asked) before old after new text status =
    SaysDay asked before old text status
SaysPlan Exchanged Answers shows OnWall mark token giver json sheet last (plan.Today date) before old after new text status = ⊤
SaysPlan Exchanged Answers shows OnWall mark token giver json sheet last (plan.Again late) before old after new text status = ⊤
SaysPlan Exchanged Answers shows OnWall mark token giver json sheet last plan.Slip before old after new text status = ⊤
SaysPlan Exchanged Answers shows OnWall mark token giver json sheet last plan.Usage before old after new text status = status ≡ 2

-- so of a till's book
abbrev pub GivesWordSaying : (List ℕ → Answer → Type 0) → (List ℕ → Answer → Type 0) → (ℕ → Type 0) → Text → Text → Result ℕ TillFault → Bool → Text → Act
    → Option ℕ → State → State → Text → ℕ → Type 0
GivesWordSaying Exchanged Answers shows mark token giver json sheet act customer old new text status =
    (answer : Answer) × (staff : ℕ) × (giver ≡ Ok staff)
    × ((journal : Journal) (commands : List Command) → Rests old journal → IsTillsBook mark journal commands
    → (place : Place) × IsGivenAt Exchanged shows mark token staff act answer place new journal commands)
    × SaysAct (IsOwing Answers token) json sheet act customer answer text status

-- What is printed of an act that was typed, or of a copy's return, is of the very answer that it got. What a return's customer owes is asked of the rental's
-- customer: the register's, or the sheet's if the register has none. Of a look, or of head office's words that only read, it is some answer to them. Of a
-- drawer it is the sums of its entries since a closing. A word that needs no book is answered as a usage. Of what other words print nothing is said here.
abbrev pub SaysWord : (List ℕ → Answer → Type 0) → (List ℕ → Answer → Type 0) → (ℕ → Type 0) → (Moment → Moment → Type 0) → Text → Text → Result ℕ TillFault
    → Bool → Text → TillAct → State → State → Text → ℕ → Type 0
SaysWord Exchanged Answers shows OnWall mark token giver json sheet (typed.Do what) old new text status =
    (customer : Option ℕ) × IsDebtor what customer old
    × GivesWordSaying Exchanged Answers shows mark token giver json sheet (seen_act what) customer old new text status
SaysWord Exchanged Answers shows OnWall mark token giver json sheet (typed.ReturnCopy copy) old new text status =
    (held : HeldRental) × IsReturned sheet copy held old
    × GivesWordSaying Exchanged Answers shows mark token giver json sheet (seen_act (TakeBack held.rental)) (Some held.customer) old new text status
SaysWord Exchanged Answers shows OnWall mark token giver json sheet (typed.Office words) old new text status =
    IsTrue (is_reading words) → SaysReading Answers token json words text status
SaysWord Exchanged Answers shows OnWall mark token giver json sheet typed.Send old new text status = ⊤
SaysWord Exchanged Answers shows OnWall mark token giver json sheet (typed.Look look) old new text status =
    (last : Option Moment) × TellsMoment last old × PrintsLook Answers token OnWall old shows last json sheet look text status
SaysWord Exchanged Answers shows OnWall mark token giver json sheet typed.Waiting old new text status = ⊤
SaysWord Exchanged Answers shows OnWall mark token giver json sheet (typed.Last count) old new text status = ⊤
SaysWord Exchanged Answers shows OnWall mark token giver json sheet (typed.Day asked) old new text status =
    (place : Place) × IsPlaceOf place old × SaysDay asked place old text status
SaysWord Exchanged Answers shows OnWall mark token giver json sheet (typed.Today date) old new text status = ⊤
SaysWord Exchanged Answers shows OnWall mark token giver json sheet (typed.Again late) old new text status = ⊤
SaysWord Exchanged Answers shows OnWall mark token giver json sheet typed.Slip old new text status = ⊤
SaysWord Exchanged Answers shows OnWall mark token giver json sheet typed.Help old new text status = status ≡ 2
SaysWord Exchanged Answers shows OnWall mark token giver json sheet (typed.Zone name) old new text status = status ≡ 2
SaysWord Exchanged Answers shows OnWall mark token giver json sheet (typed.Init beginning) old new text status = status ≡ 2
SaysWord Exchanged Answers shows OnWall mark token giver json sheet (typed.Import file lot) old new text status = status ≡ 2
SaysWord Exchanged Answers shows OnWall mark token giver json sheet (typed.JoinIn who) old new text status = status ≡ 2
SaysWord Exchanged Answers shows OnWall mark token giver json sheet typed.Prompt old new text status = status ≡ 2
