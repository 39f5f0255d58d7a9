-- What a word does to an open book.
use Rattle.std.specs.Prelude.{◌≡◌, ◌≤◌, ⊤, ℕ, if◌then◌else◌, List, ◌++◌, length, Option, Some, Result, Ok, IsTrue}
use Rattle.sqlite.specs.State.{State}
use Rattle.shop_model.specs.Values.{Text, Act, Command}
use Rattle.shop_model.specs.Answers.{Answer}
use Rattle.shop_types.specs.Seen.{seen_act}
use Rattle.shop_types.specs.declared.command.Act.TheVariants.{TakeBack}
use Rattle.till_book.specs.Journal.{Journal}
use Rattle.till_requests.specs.Requests.{is_reading}
use Rattle.till_book.specs.Steps.{Rests, Stays}
use Rattle.till_book.specs.declared.rents.HeldRental.{HeldRental}
use Rattle.till_work.specs.Entering.{IsTillsBook}
use Rattle.till_work.specs.Exchanged.{AreExchanged}
use Rattle.till_work.specs.Desk.{with_replies}
use Rattle.till_work.specs.declared.place.Place.{Place}
use Rattle.till_words.specs.declared.words.TillAct.{TillAct}
use Rattle.till_words.specs.declared.words.TillAct.TheVariants as typed
use Rattle.till_cashier.specs.declared.fault.TillFault.{TillFault}
use Rattle.till_cashier.specs.declared.word.Plan.{Plan}
use Rattle.till_cashier.specs.declared.word.Plan.TheVariants as plan
use Rattle.till_cashier.specs.Giving.{IsGivenAt, GivesAct}
use Rattle.till_cashier.specs.Again.{GivesAll}
use Rattle.till_cashier.specs.Word.{IsDebtor, IsPlaceOf, SendsAll}
use Rattle.till_cashier.specs.Returns.{IsReturned}

-- head office's words are read, or entered if they aren't a reading
abbrev pub office_planned : List Text → Plan
office_planned words = if is_reading words then plan.ReadOffice words else plan.Office words

-- A word has the plan that it asks for. An act is planned as it was typed, and for a return its rental's customer owes. A copy's return is of the register's
-- rental, or of the sheet's if the register has none. Then that rental's customer owes. Head office's words are read or entered, as the first of them asks.
abbrev pub IsPlanOf : Text → State → TillAct → Plan → Type 0
IsPlanOf sheet s (typed.Do what) it = (customer : Option ℕ) × IsDebtor what customer s × (it ≡ plan.Give what customer)
IsPlanOf sheet s (typed.ReturnCopy copy) it = (held : HeldRental) × IsReturned sheet copy held s × (it ≡ plan.Give (TakeBack held.rental) (Some held.customer))
IsPlanOf sheet s (typed.Office words) it = it ≡ office_planned words
IsPlanOf sheet s typed.Send it = it ≡ plan.Send
IsPlanOf sheet s (typed.Look look) it = it ≡ plan.Look look
IsPlanOf sheet s typed.Waiting it = it ≡ plan.Waiting
IsPlanOf sheet s (typed.Last count) it = it ≡ plan.Last count
IsPlanOf sheet s (typed.Day asked) it = it ≡ plan.Day asked
IsPlanOf sheet s (typed.Today date) it = it ≡ plan.Today date
IsPlanOf sheet s (typed.Again late) it = it ≡ plan.Again late
IsPlanOf sheet s typed.Slip it = it ≡ plan.Slip
IsPlanOf sheet s typed.Help it = it ≡ plan.Usage
IsPlanOf sheet s (typed.Zone name) it = it ≡ plan.Usage
IsPlanOf sheet s (typed.Init beginning) it = it ≡ plan.Usage
IsPlanOf sheet s (typed.Import file lot) it = it ≡ plan.Usage
IsPlanOf sheet s (typed.JoinIn who) it = it ≡ plan.Usage
IsPlanOf sheet s typed.Prompt it = it ≡ plan.Usage

-- An act that was planned was given, and got some answer. What waited was sent. Of a look the book stays.
abbrev pub IsCarriedOut : (List ℕ → Answer → Type 0) → (ℕ → Type 0) → Text → Text → Result ℕ TillFault → Plan → Place → State → Place → State → Type 0
IsCarriedOut Exchanged shows mark token giver (plan.Give what customer) before old after new =
    GivesAct Exchanged shows mark token giver (seen_act what) before old after new
IsCarriedOut Exchanged shows mark token giver (plan.Office words) before old after new = ⊤
IsCarriedOut Exchanged shows mark token giver plan.Send before old after new = SendsAll Exchanged before old after new
IsCarriedOut Exchanged shows mark token giver (plan.Look look) before old after new = Stays old new
IsCarriedOut Exchanged shows mark token giver (plan.ReadOffice words) before old after new = Stays old new
IsCarriedOut Exchanged shows mark token giver plan.Waiting before old after new = Stays old new
IsCarriedOut Exchanged shows mark token giver (plan.Last count) before old after new = Stays old new
IsCarriedOut Exchanged shows mark token giver (plan.Day asked) before old after new = Stays old new
IsCarriedOut Exchanged shows mark token giver (plan.Today date) before old after new = Stays old new
IsCarriedOut Exchanged shows mark token giver (plan.Again late) before old after new = ⊤
IsCarriedOut Exchanged shows mark token giver plan.Slip before old after new = Stays old new
IsCarriedOut Exchanged shows mark token giver plan.Usage before old after new = Stays old new

-- the act was given at a till's book, and got some answer
abbrev pub GivesWord : (List ℕ → Answer → Type 0) → (ℕ → Type 0) → Text → Text → Result ℕ TillFault → Act → State → State → Type 0
GivesWord Exchanged shows mark token giver what old new =
    (answer : Answer) × (staff : ℕ) × (giver ≡ Ok staff)
    × ((journal : Journal) (commands : List Command) → Rests old journal → IsTillsBook mark journal commands
    → (place : Place) × IsGivenAt Exchanged shows mark token staff what answer place new journal commands)

-- What waited was sent, and nothing else is other than it was. If no reply was without its entry, each entry has its reply.
abbrev pub SendsWord : (List ℕ → Answer → Type 0) → State → State → Type 0
SendsWord Exchanged old new =
    (journal : Journal) → Rests old journal
    → (answers : List Answer) × Rests new (with_replies answers journal) × AreExchanged Exchanged journal.entries (length journal.replies) answers
    × (length journal.replies ≤ length journal.entries → length (journal.replies ++ answers) ≡ length journal.entries)

-- Acts of the plan that gives acts once more were given, one after another. Of another plan nothing is said.
abbrev pub RepeatsPlan : (List ℕ → Answer → Type 0) → (ℕ → Type 0) → Text → Text → Option ℕ → Plan → Place → State → Place → State → Type 0
RepeatsPlan Exchanged shows mark token own (plan.Again late) before old after new = GivesAll Exchanged shows mark token own before old after new
RepeatsPlan Exchanged shows mark token own (plan.Give what customer) before old after new = ⊤
RepeatsPlan Exchanged shows mark token own (plan.Office words) before old after new = ⊤
RepeatsPlan Exchanged shows mark token own plan.Send before old after new = ⊤
RepeatsPlan Exchanged shows mark token own (plan.Look look) before old after new = ⊤
RepeatsPlan Exchanged shows mark token own (plan.ReadOffice words) before old after new = ⊤
RepeatsPlan Exchanged shows mark token own plan.Waiting before old after new = ⊤
RepeatsPlan Exchanged shows mark token own (plan.Last count) before old after new = ⊤
RepeatsPlan Exchanged shows mark token own (plan.Day asked) before old after new = ⊤
RepeatsPlan Exchanged shows mark token own (plan.Today date) before old after new = ⊤
RepeatsPlan Exchanged shows mark token own plan.Slip before old after new = ⊤
RepeatsPlan Exchanged shows mark token own plan.Usage before old after new = ⊤

-- Acts were given once more, one after another, at a book with so many entries and replies. Of another word nothing is said here.
abbrev pub RepeatsWord : (List ℕ → Answer → Type 0) → (ℕ → Type 0) → Text → Text → Option ℕ → TillAct → State → State → Type 0
RepeatsWord Exchanged shows mark token own (typed.Again late) old new =
    (before after : Place) × IsPlaceOf before old × GivesAll Exchanged shows mark token own before old after new
RepeatsWord Exchanged shows mark token own (typed.Do what) old new = ⊤
RepeatsWord Exchanged shows mark token own (typed.ReturnCopy copy) old new = ⊤
RepeatsWord Exchanged shows mark token own (typed.Office words) old new = ⊤
RepeatsWord Exchanged shows mark token own typed.Send old new = ⊤
RepeatsWord Exchanged shows mark token own (typed.Look look) old new = ⊤
RepeatsWord Exchanged shows mark token own typed.Waiting old new = ⊤
RepeatsWord Exchanged shows mark token own (typed.Last count) old new = ⊤
RepeatsWord Exchanged shows mark token own (typed.Day asked) old new = ⊤
RepeatsWord Exchanged shows mark token own (typed.Today date) old new = ⊤
RepeatsWord Exchanged shows mark token own typed.Slip old new = ⊤
RepeatsWord Exchanged shows mark token own typed.Help old new = ⊤
RepeatsWord Exchanged shows mark token own (typed.Zone name) old new = ⊤
RepeatsWord Exchanged shows mark token own (typed.Init beginning) old new = ⊤
RepeatsWord Exchanged shows mark token own (typed.Import file lot) old new = ⊤
RepeatsWord Exchanged shows mark token own (typed.JoinIn who) old new = ⊤
RepeatsWord Exchanged shows mark token own typed.Prompt old new = ⊤

-- An act that was typed was given. Of a copy that comes back the return of the register's rental was given, or of the sheet's. What waited was sent. Over a
-- look, and over words of head office that only read, the book stays. Of its other words, and of acts
-- that are given once more, nothing is said here.
abbrev pub DoesWord : (List ℕ → Answer → Type 0) → (ℕ → Type 0) → Text → Text → Result ℕ TillFault → Text → TillAct → State → State → Type 0
DoesWord Exchanged shows mark token giver sheet (typed.Do what) old new = GivesWord Exchanged shows mark token giver (seen_act what) old new
DoesWord Exchanged shows mark token giver sheet (typed.ReturnCopy copy) old new =
    (held : HeldRental) × IsReturned sheet copy held old × GivesWord Exchanged shows mark token giver (seen_act (TakeBack held.rental)) old new
DoesWord Exchanged shows mark token giver sheet (typed.Office words) old new = IsTrue (is_reading words) → Stays old new
DoesWord Exchanged shows mark token giver sheet typed.Send old new = SendsWord Exchanged old new
DoesWord Exchanged shows mark token giver sheet (typed.Look look) old new = Stays old new
DoesWord Exchanged shows mark token giver sheet typed.Waiting old new = Stays old new
DoesWord Exchanged shows mark token giver sheet (typed.Last count) old new = Stays old new
DoesWord Exchanged shows mark token giver sheet (typed.Day asked) old new = Stays old new
DoesWord Exchanged shows mark token giver sheet (typed.Today date) old new = Stays old new
DoesWord Exchanged shows mark token giver sheet (typed.Again late) old new = ⊤
DoesWord Exchanged shows mark token giver sheet typed.Slip old new = Stays old new
DoesWord Exchanged shows mark token giver sheet typed.Help old new = Stays old new
DoesWord Exchanged shows mark token giver sheet (typed.Zone name) old new = Stays old new
DoesWord Exchanged shows mark token giver sheet (typed.Init beginning) old new = Stays old new
DoesWord Exchanged shows mark token giver sheet (typed.Import file lot) old new = Stays old new
DoesWord Exchanged shows mark token giver sheet (typed.JoinIn who) old new = Stays old new
DoesWord Exchanged shows mark token giver sheet typed.Prompt old new = Stays old new
