-- What a word leaves of a till's book.
use Rattle.std.specs.Prelude.{◌≡◌, ◌≤◌, ◌↔◌, ⊤, ℕ, Bool, true, List, ◌++◌, length, Option, None, Some, IsSome, IsTrue}
use Rattle.sqlite.specs.State.{State}
use Rattle.shop_model.specs.Values.{Text, Command}
use Rattle.shop_model.specs.Answers.{Answer}
use Rattle.shop_types.specs.declared.command.Act.{Act}
use Rattle.shop_types.specs.declared.command.Act.TheVariants as asked
use Rattle.till_model.specs.Numbered.{has_mark}
use Rattle.till_book.specs.Held.{last_or}
use Rattle.till_book.specs.Journal.{Journal}
use Rattle.till_book.specs.Saying.{Says, Say}
use Rattle.till_book.specs.Steps.{Rests}
use Rattle.till_book.specs.Register.{IsHeld, IsRenter}
use Rattle.till_book.specs.declared.rents.HeldRental.{HeldRental}
use Rattle.till_work.specs.Entering.{IsTillsBook}
use Rattle.till_work.specs.Exchanged.{AreSettled}
use Rattle.till_work.specs.Desk.{HasPlace, Extends, AreSent, FailsToSend}
use Rattle.till_work.specs.declared.fault.DeskFault.{DeskFault}
use Rattle.till_work.specs.declared.place.Place.{Place}
use Rattle.till_words.specs.declared.words.TillAct.{TillAct}
use Rattle.till_words.specs.declared.words.TillAct.TheVariants as act
use Rattle.till_cashier.specs.declared.fault.TillFault.{TillFault}
use Rattle.till_cashier.specs.Faults.{told_fault}
use Rattle.till_cashier.specs.declared.word.Plan.{Plan}
use Rattle.till_cashier.specs.declared.word.Plan.TheVariants as plan

-- so many entries and replies are in the book
abbrev pub IsPlaceOf : Place → State → Type 0
IsPlaceOf place s = (journal : Journal) → Rests s journal → (place.entries ≡ length journal.entries) × (place.replies ≡ length journal.replies)

-- that rental is the register's of the copy, with its customer, in each journal that the book stands for
abbrev pub IsHeldIn : ℕ → HeldRental → State → Type 0
IsHeldIn copy held s = (journal : Journal) → Rests s journal → IsHeld copy (Some held) journal

-- the customer is the one that the register has for that rental, in each journal that the book stands for; none if it has none
abbrev pub IsRenterIn : ℕ → Option ℕ → State → Type 0
IsRenterIn rental customer s = (journal : Journal) → Rests s journal → IsRenter rental customer journal

-- whose debt is said after an act: after a return its rental's customer's, and after another act nobody's
abbrev pub IsDebtor : Act → Option ℕ → State → Type 0
IsDebtor (asked.TakeBack rental) customer s = IsRenterIn rental customer s
IsDebtor (asked.Customer new) customer s = customer ≡ None
IsDebtor (asked.Active who active) customer s = customer ≡ None
IsDebtor (asked.Rent who copy) customer s = customer ≡ None
IsDebtor (asked.Pay who rental amount) customer s = customer ≡ None
IsDebtor (asked.Import lot file) customer s = customer ≡ None
IsDebtor (asked.Dispatch to copies) customer s = customer ≡ None
IsDebtor (asked.Receive from number missing) customer s = customer ≡ None
IsDebtor (asked.Scrap copy) customer s = customer ≡ None

-- ---- whose book it is

-- the last command's key has the mark, if there is a command
abbrev pub LastHasMark : Text → List Command → Type 0
LastHasMark mark commands = (last : Command) → last_or None commands ≡ Some last → has_mark mark last.key ≡ true

-- The book's last entry was entered with the mark, or there is none. Of a book that says no commands, as head office's, nothing is said.
abbrev pub IsOwnBook : Text → State → Type 0
IsOwnBook mark s = (journal : Journal) (commands : List Command) → Rests s journal → Say journal.entries commands → LastHasMark mark commands

-- the answer is yes exactly if the book's last entry was entered with the mark, or there is none
abbrev pub TellsMark : Text → Bool → State → Type 0
TellsMark mark is_own s =
    (journal : Journal) (commands : List Command) → Rests s journal → Say journal.entries commands → IsTrue is_own ↔ LastHasMark mark commands

-- whatever command the last entry says, the answer is whether its key has the mark; it is yes without an entry
abbrev pub TellsLastMark : Text → Bool → Option (List ℕ) → Type 0
TellsLastMark mark is_own None = IsTrue is_own
TellsLastMark mark is_own (Some request) = (command : Command) → Says request command → is_own ≡ has_mark mark command.key

-- the answer is yes for a till's book under the mark
abbrev pub KnowsOwn : Text → Bool → State → Type 0
KnowsOwn mark is_own s = (journal : Journal) (commands : List Command) → Rests s journal → IsTillsBook mark journal commands → IsTrue is_own

-- the word enters or sends, or may
abbrev pub EntersOrSends : TillAct → Type 0
EntersOrSends (act.Do what) = ⊤
EntersOrSends (act.ReturnCopy copy) = ⊤
EntersOrSends (act.Office words) = ⊤
EntersOrSends act.Send = ⊤
EntersOrSends (act.Init beginning) = ⊥
EntersOrSends (act.Import file lot) = ⊥
EntersOrSends (act.JoinIn who) = ⊥
EntersOrSends (act.Look look) = ⊥
EntersOrSends act.Waiting = ⊥
EntersOrSends (act.Last count) = ⊥
EntersOrSends (act.Day asked) = ⊥
EntersOrSends (act.Today date) = ⊥
EntersOrSends (act.Again late) = ⊤
EntersOrSends act.Slip = ⊥
EntersOrSends act.Help = ⊥
EntersOrSends (act.Zone name) = ⊥
EntersOrSends act.Prompt = ⊥

-- ---- for which book a word is

-- head office's words are planned for its own book alone, and a branch's commands and looks for a branch's
abbrev pub IsPlannedFor : Option ℕ → Plan → Type 0
IsPlannedFor staff (plan.Give what customer) = IsSome staff
IsPlannedFor staff (plan.Office words) = staff ≡ None
IsPlannedFor staff plan.Send = ⊤
IsPlannedFor staff (plan.Look look) = IsSome staff
IsPlannedFor staff (plan.ReadOffice words) = staff ≡ None
IsPlannedFor staff plan.Waiting = ⊤
IsPlannedFor staff (plan.Last count) = ⊤
IsPlannedFor staff (plan.Day asked) = IsSome staff
IsPlannedFor staff (plan.Today date) = ⊤
IsPlannedFor staff (plan.Again late) = IsSome staff
IsPlannedFor staff plan.Slip = IsSome staff
IsPlannedFor staff plan.Usage = ⊤

-- a branch's commands and looks are for a branch's book, and head office's words for its own
abbrev pub IsFor : Option ℕ → TillAct → Type 0
IsFor staff (act.Do what) = IsSome staff
IsFor staff (act.ReturnCopy copy) = IsSome staff
IsFor staff (act.Office words) = staff ≡ None
IsFor staff (act.Init beginning) = ⊤
IsFor staff (act.Import file lot) = ⊤
IsFor staff (act.JoinIn who) = ⊤
IsFor staff (act.Look look) = IsSome staff
IsFor staff act.Waiting = ⊤
IsFor staff act.Send = ⊤
IsFor staff (act.Last count) = ⊤
IsFor staff (act.Day asked) = IsSome staff
IsFor staff (act.Today date) = ⊤
IsFor staff (act.Again late) = IsSome staff
IsFor staff act.Slip = IsSome staff
IsFor staff act.Help = ⊤
IsFor staff (act.Zone name) = ⊤
IsFor staff act.Prompt = ⊤

-- the fault tells one of the desk's, at which sending ended, and why
abbrev pub FailsToSendAll : {R W : Type 0} → (List ℕ → Answer → Type 0) → Type 0
    → (R → W → Type 0) → (W → Option (List ℕ)) → Place → State → Place → State → TillFault → Type 0
FailsToSendAll Exchanged refuses opens contents before old after new told =
    (it : DeskFault) × (told ≡ told_fault it) × FailsToSend Exchanged refuses opens contents before old after new it

-- Some of what waited was sent. If no reply was without its entry, each entry has its reply.
abbrev pub SendsAll : (List ℕ → Answer → Type 0) → Place → State → Place → State → Type 0
SendsAll Exchanged before old after new =
    (journal : Journal) → HasPlace before old journal
    → (answers : List Answer) × AreSent Exchanged answers after new journal
    × (length journal.replies ≤ length journal.entries → length (journal.replies ++ answers) ≡ length journal.entries)

-- a till's book that was this one, and goes on
pub record IsBehind (Exchanged : List ℕ → Answer → Type 0) (mark : Text) (s : State) (old : Journal) (said : List Command) : Type 0 where
  pub journal : Journal
  pub commands : List Command
  pub rests : Rests s journal
  pub book : IsTillsBook mark journal commands
  pub extends : Extends Exchanged old journal
  pub says : (more : List Command) × (commands ≡ said ++ more)

-- a till's book stays one, and what stood in it stays
abbrev pub KeepsATillsBook : (List ℕ → Answer → Type 0) → Text → State → State → Type 0
KeepsATillsBook Exchanged mark old new =
    (journal : Journal) (commands : List Command) → Rests old journal → IsTillsBook mark journal commands → IsBehind Exchanged mark new journal commands

-- a book that was that one, whatever its entries say, and has what stood in it
pub record HasMore (Exchanged : List ℕ → Answer → Type 0) (s : State) (old : Journal) : Type 0 where
  pub journal : Journal
  pub rests : Rests s journal
  pub extends : Extends Exchanged old journal

-- what stood in a book stays in it
abbrev pub KeepsABook : (List ℕ → Answer → Type 0) → State → State → Type 0
KeepsABook Exchanged old new = (journal : Journal) → Rests old journal → HasMore Exchanged new journal

-- a book with the same entries and replies; each settlement that was added is a reply to the entry of its number
pub record IsSame (Exchanged : List ℕ → Answer → Type 0) (s : State) (old : Journal) : Type 0 where
  pub journal : Journal
  pub rests : Rests s journal
  pub entries : journal.entries ≡ old.entries
  pub replies : journal.replies ≡ old.replies
  pub settled : (more : List (ℕ × Answer)) × (journal.settled ≡ old.settled ++ more) × AreSettled Exchanged old.entries more

-- nothing is entered or recorded but settlements of entries that were sent once more
abbrev pub EntersNothing : (List ℕ → Answer → Type 0) → State → State → Type 0
EntersNothing Exchanged old new = (journal : Journal) → Rests old journal → IsSame Exchanged new journal
