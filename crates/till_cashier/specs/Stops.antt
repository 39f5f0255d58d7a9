-- What a stop in the midst of a word leaves of an open book: the book with a front of what the word does (`Leaves`). Then the book that is opened after it.
use Rattle.std.specs.Prelude.{◌≡◌, ◌≤◌, ◌⊎◌, ℕ, List, ◌++◌, length, Result, IsTrue}
use Rattle.sqlite.specs.State.{State}
use Rattle.shop_model.specs.Values.{Text, Act, Command}
use Rattle.shop_model.specs.Answers.{Answer}
use Rattle.shop_types.specs.Seen.{seen_act}
use Rattle.shop_types.specs.declared.command.Act.TheVariants.{TakeBack}
use Rattle.till_book.specs.Journal.{Journal}
use Rattle.till_book.specs.Steps.{Rests}
use Rattle.till_book.specs.declared.rents.HeldRental.{HeldRental}
use Rattle.till_requests.specs.Requests.{is_reading}
use Rattle.till_work.specs.Entering.{IsTillsBook}
use Rattle.till_work.specs.Desk.{Extends}
use Rattle.till_work.specs.Stops.{IsAny, IsLater, IsSentAfter, IsUnchanged, Leaves}
use Rattle.till_words.specs.declared.words.TillAct.{TillAct}
use Rattle.till_words.specs.declared.words.TillAct.TheVariants as typed
use Rattle.till_cashier.specs.declared.fault.TillFault.{TillFault}
use Rattle.till_cashier.specs.declared.word.Plan.{Plan}
use Rattle.till_cashier.specs.declared.word.Plan.TheVariants as plan
use Rattle.till_cashier.specs.Adding.{AreTriesBy}
use Rattle.till_cashier.specs.Giving.{AreRefused}
use Rattle.till_cashier.specs.Returns.{IsReturned}

-- What was in the book is a front part of the later one (`Extends`). The entries that were added are tries of the act by its giver. There may be none. Each but
-- the last was refused for its moment. No settlement was added.
pub record IsTriedAfter (Exchanged : List ℕ → Answer → Type 0) (shows : ℕ → Type 0) (token : Text) (giver : Result ℕ TillFault) (act : Act)
    (old : Journal) (said : List Command) (new : Journal) (known : List Command) : Type 0 where
  pub extends : Extends Exchanged old new
  pub requests : List (List ℕ)
  pub tries : List Command
  pub entries : new.entries ≡ old.entries ++ requests
  pub says : known ≡ said ++ tries
  pub each : AreTriesBy shows token giver act requests tries
  pub settled : new.settled ≡ old.settled
  pub refused : AreRefused old.entries new.replies requests

-- one try was added, or none
abbrev pub IsTriedOnce : (List ℕ → Answer → Type 0) → (ℕ → Type 0) → Text → Result ℕ TillFault → Act → Journal → List Command → Journal → List Command → Type 0
IsTriedOnce Exchanged shows token giver act old said new known =
    (it : IsTriedAfter Exchanged shows token giver act old said new known) × (length it.requests ≤ 1)

-- What a stop leaves in the midst of a plan. For an act the entries that were added are tries of it.
abbrev pub LeavesPlan : (List ℕ → Answer → Type 0) → (ℕ → Type 0) → Text → Text → Result ℕ TillFault → Plan → (Journal → Type 0) → State → Type 0
LeavesPlan Exchanged shows mark token giver (plan.Give what customer) Had new =
    Leaves Had (IsTillsBook mark) (IsTriedAfter Exchanged shows token giver (seen_act what)) new
LeavesPlan Exchanged shows mark token giver (plan.Office words) Had new = Leaves Had IsAny (IsLater Exchanged) new
LeavesPlan Exchanged shows mark token giver plan.Send Had new = Leaves Had IsAny (IsSentAfter Exchanged) new
LeavesPlan Exchanged shows mark token giver (plan.Look look) Had new = Leaves Had IsAny IsUnchanged new
LeavesPlan Exchanged shows mark token giver (plan.ReadOffice words) Had new = Leaves Had IsAny IsUnchanged new
LeavesPlan Exchanged shows mark token giver plan.Waiting Had new = Leaves Had IsAny IsUnchanged new
LeavesPlan Exchanged shows mark token giver (plan.Last count) Had new = Leaves Had IsAny IsUnchanged new
LeavesPlan Exchanged shows mark token giver (plan.Day asked) Had new = Leaves Had IsAny IsUnchanged new
LeavesPlan Exchanged shows mark token giver (plan.Today date) Had new = Leaves Had IsAny IsUnchanged new
LeavesPlan Exchanged shows mark token giver (plan.Again late) Had new = Leaves Had (IsTillsBook mark) (IsLater Exchanged) new
LeavesPlan Exchanged shows mark token giver plan.Slip Had new = Leaves Had IsAny IsUnchanged new
LeavesPlan Exchanged shows mark token giver plan.Usage Had new = Leaves Had IsAny IsUnchanged new

-- ---- a word

-- What is left of the book after a word. `Left Is Goes` says: from each book of the kind `Is` that was there, `Goes` leads to what is left. An act leaves tries
-- of it. A copy that comes back leaves the book as it was, or tries of the return of the register's rental, or of the sheet's.
abbrev pub LeftOf : ((Journal → List Command → Type 0) → (Journal → List Command → Journal → List Command → Type 0) → Type 0)
    → (List ℕ → Answer → Type 0) → (ℕ → Type 0) → Text → Text → Result ℕ TillFault → Text → TillAct → State → Type 0
LeftOf Left Exchanged shows mark token giver sheet (typed.Do what) old = Left (IsTillsBook mark) (IsTriedAfter Exchanged shows token giver (seen_act what))
LeftOf Left Exchanged shows mark token giver sheet (typed.ReturnCopy copy) old =
    Left IsAny IsUnchanged
    ⊎ ((held : HeldRental) × IsReturned sheet copy held old
    × Left (IsTillsBook mark) (IsTriedAfter Exchanged shows token giver (seen_act (TakeBack held.rental))))
LeftOf Left Exchanged shows mark token giver sheet (typed.Office words) old =
    Left IsAny (IsLater Exchanged) × (IsTrue (is_reading words) → Left IsAny IsUnchanged)
LeftOf Left Exchanged shows mark token giver sheet typed.Send old = Left IsAny (IsSentAfter Exchanged)
LeftOf Left Exchanged shows mark token giver sheet (typed.Look look) old = Left IsAny IsUnchanged
LeftOf Left Exchanged shows mark token giver sheet typed.Waiting old = Left IsAny IsUnchanged
LeftOf Left Exchanged shows mark token giver sheet (typed.Last count) old = Left IsAny IsUnchanged
LeftOf Left Exchanged shows mark token giver sheet (typed.Day asked) old = Left IsAny IsUnchanged
LeftOf Left Exchanged shows mark token giver sheet (typed.Today date) old = Left IsAny IsUnchanged
LeftOf Left Exchanged shows mark token giver sheet (typed.Again late) old = Left (IsTillsBook mark) (IsLater Exchanged)
LeftOf Left Exchanged shows mark token giver sheet typed.Slip old = Left IsAny IsUnchanged
LeftOf Left Exchanged shows mark token giver sheet typed.Help old = Left IsAny IsUnchanged
LeftOf Left Exchanged shows mark token giver sheet (typed.Zone name) old = Left IsAny IsUnchanged
LeftOf Left Exchanged shows mark token giver sheet (typed.Init beginning) old = Left IsAny IsUnchanged
LeftOf Left Exchanged shows mark token giver sheet (typed.Import file lot) old = Left IsAny IsUnchanged
LeftOf Left Exchanged shows mark token giver sheet (typed.JoinIn who) old = Left IsAny IsUnchanged
LeftOf Left Exchanged shows mark token giver sheet typed.Prompt old = Left IsAny IsUnchanged

-- what a stop leaves in the midst of a word
abbrev pub LeavesWord : (List ℕ → Answer → Type 0) → (ℕ → Type 0) → Text → Text → Result ℕ TillFault → Text → TillAct → State → State → Type 0
LeavesWord Exchanged shows mark token giver sheet word old new =
    LeftOf (λ Is Goes. Leaves (Rests old) Is Goes new) Exchanged shows mark token giver sheet word old

-- Whatever the word is, a stop leaves a till's book one, with what was in it.
abbrev pub LeavesATillsBook : (List ℕ → Answer → Type 0) → Text → State → State → Type 0
LeavesATillsBook Exchanged mark old new = Leaves (Rests old) (IsTillsBook mark) (IsLater Exchanged) new

-- Whatever the entries of a book say, a stop leaves what was in it.
abbrev pub LeavesABook : (List ℕ → Answer → Type 0) → State → State → Type 0
LeavesABook Exchanged old new = Leaves (Rests old) IsAny (IsLater Exchanged) new

-- ---- the book that is opened after a crash

-- a book of that kind rests, to which `Goes` leads
pub record RestsLater (Is : Journal → List Command → Type 0) (Goes : Journal → List Command → Type 0) (s : State) : Type 0 where
  pub journal : Journal
  pub commands : List Command
  pub rests : Rests s journal
  pub is : Is journal commands
  pub goes : Goes journal commands

-- From each book of that kind that was there, `Goes` leads to the opened one. That is a book of the same kind.
abbrev pub Opens : State → (Journal → List Command → Type 0) → (Journal → List Command → Journal → List Command → Type 0) → State → Type 0
Opens old Is Goes again =
    (journal : Journal) (commands : List Command) → Rests old journal → Is journal commands → ∥ RestsLater Is (Goes journal commands) again ∥₁

-- the book with a front of what the word does
abbrev pub OpensWord : (List ℕ → Answer → Type 0) → (ℕ → Type 0) → Text → Text → Result ℕ TillFault → Text → TillAct → State → State → Type 0
OpensWord Exchanged shows mark token giver sheet word old again = LeftOf (λ Is Goes. Opens old Is Goes again) Exchanged shows mark token giver sheet word old

-- a till's book is one still, and what was in it is there
abbrev pub OpensATillsBook : (List ℕ → Answer → Type 0) → Text → State → State → Type 0
OpensATillsBook Exchanged mark old again = Opens old (IsTillsBook mark) (IsLater Exchanged) again

-- what was in a book is there, whatever its entries say
abbrev pub OpensABook : (List ℕ → Answer → Type 0) → State → State → Type 0
OpensABook Exchanged old again = Opens old IsAny (IsLater Exchanged) again
