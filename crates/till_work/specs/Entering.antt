-- A till's book as entering keeps it, and what comes of one more entry.
use Rattle.std.specs.Prelude.{◌≡◌, ◌≢◌, ⊤, ℕ, ◌+◌, List, [], ◌∷◌, ◌++◌, length, slice_get, Option, Some, None}
use Rattle.sqlite_trees.specs.Tree.{Trees}
use Rattle.sqlite.specs.State.{State}
use Rattle.shop_model.specs.Values.{Text, Command}
use Rattle.shop_model.specs.Calendar.{Moment}
use Rattle.till_model.specs.Numbered.{key_of, AreNumbered, IsAfterLast}
use Rattle.till_client.specs.Sealing.{SaysCommand}
use Rattle.till_book.specs.Saying.{Say}
use Rattle.till_book.specs.Journal.{Journal, StandsFor, with_entry}
use Rattle.till_book.specs.Steps.{Rests, Stays, IsNext, IsEntered}
use Rattle.till_work.specs.declared.fault.DeskFault.{DeskFault}
use Rattle.till_work.specs.declared.fault.DeskFault.TheVariants.{Book, Full, Memory, NoCommand, OtherKey, NotLater, OtherBook, NoEntry, Unopened, Unanswered}
use Rattle.till_work.specs.declared.fault.DeskFault.TheVariants.{NotNow, NotKnown}

-- ---- the book

-- The book's entries say these commands. The n-th has the till's mark and its number for a key, and moments rise.
pub record IsTillsBook (mark : Text) (journal : Journal) (commands : List Command) : Type 0 where
  pub says : Say journal.entries commands
  pub numbered : AreNumbered mark commands

-- the last command's moment, and none where there is no command
abbrev pub IsLast : Option Moment → List Command → Type 0
IsLast None commands = commands ≡ []
IsLast (Some moment) commands = (i : ℕ) × (last : Command) × (length commands ≡ i + 1) × (slice_get commands i ≡ Some last) × (last.moment ≡ moment)

-- the last entry's moment, where the number is the next entry's; the book stays
abbrev pub FindsLast : ℕ → Option Moment → State → State → Type 0
FindsLast n last old new =
    Stays old new × ((journal : Journal) (commands : List Command) → Rests old journal → IsNext n journal → Say journal.entries commands → IsLast last commands)

-- ---- one more entry

-- The request says that command with the till's token, its key is the entry's, and it was added after the last, on the disk too. So a till's book stays one.
pub record Enters (mark token : Text) (n : ℕ) (command : Command) (request : List ℕ) (old new : State) : Type 0 where
  pub says : SaysCommand request token command
  pub key : command.key ≡ key_of mark n
  pub entered : IsEntered n request old new
  pub keeps : (journal : Journal) (commands : List Command) → Rests old journal → IsNext n journal → IsTillsBook mark journal commands
      → IsTillsBook mark (with_entry request journal) (commands ++ command ∷ [])

-- a till's book stays one with the request after the last entry, which says a command with that token
abbrev pub GoesOnWith : Text → Text → List ℕ → Journal → Type 0
GoesOnWith mark token request journal =
    (commands : List Command) → IsTillsBook mark journal commands
    → (command : Command) × SaysCommand request token command × IsTillsBook mark (with_entry request journal) (commands ++ command ∷ [])

-- what a stop may leave on the disk: the book with the entry, and a till's book stays one
abbrev pub LeavesCommand : Text → Text → ℕ → List ℕ → State → Trees → Type 0
LeavesCommand mark token n request old db =
    (journal : Journal) → Rests old journal → IsNext n journal → StandsFor db (with_entry request journal) × GoesOnWith mark token request journal

-- why a request is no entry of that number, whatever the book has
abbrev pub IsUnfit : Text → Text → ℕ → DeskFault → List ℕ → Type 0
IsUnfit mark token n NoCommand request = (command : Command) → ¬ (SaysCommand request token command)
IsUnfit mark token n OtherKey request = (command : Command) → SaysCommand request token command → command.key ≢ key_of mark n
IsUnfit mark token n Memory request = ⊤
IsUnfit mark token n Book request = ⊥
IsUnfit mark token n Full request = ⊥
IsUnfit mark token n NotLater request = ⊥
IsUnfit mark token n OtherBook request = ⊥
IsUnfit mark token n NoEntry request = ⊥
IsUnfit mark token n Unopened request = ⊥
IsUnfit mark token n (Unanswered why) request = ⊥
IsUnfit mark token n NotNow request = ⊥
IsUnfit mark token n NotKnown request = ⊥

-- Why the last entry's moment isn't told: the store failed, or there was no memory, or this isn't the book, or not the number.
abbrev pub FindsNoLast : ℕ → DeskFault → State → State → Type 0
FindsNoLast n Book old new = ⊤
FindsNoLast n Memory old new = Stays old new
FindsNoLast n OtherBook old new =
    Stays old new × ((journal : Journal) (commands : List Command) → Rests old journal → IsNext n journal → ¬ (Say journal.entries commands))
FindsNoLast n Full old new = ⊥
FindsNoLast n NoCommand old new = ⊥
FindsNoLast n OtherKey old new = ⊥
FindsNoLast n NotLater old new = ⊥
FindsNoLast n NoEntry old new = ⊥
FindsNoLast n Unopened old new = ⊥
FindsNoLast n (Unanswered why) old new = ⊥
FindsNoLast n NotNow old new = ⊥
FindsNoLast n NotKnown old new = ⊥

-- Nothing is entered, unless the book failed; and why. Faults of sending never come.
abbrev pub FailsToEnter : Text → Text → ℕ → DeskFault → List ℕ → State → State → Type 0
FailsToEnter mark token n Book request old new = ⊤
FailsToEnter mark token n Memory request old new = Stays old new
FailsToEnter mark token n NoCommand request old new = Stays old new × IsUnfit mark token n NoCommand request
FailsToEnter mark token n OtherKey request old new = Stays old new × IsUnfit mark token n OtherKey request
FailsToEnter mark token n NotLater request old new =
    Stays old new
    × ((journal : Journal) (commands : List Command) (command : Command) → Rests old journal
    → IsNext n journal → Say journal.entries commands → SaysCommand request token command
    → ¬ (IsAfterLast commands command.moment))
FailsToEnter mark token n OtherBook request old new =
    Stays old new × ((journal : Journal) (commands : List Command) → Rests old journal → IsNext n journal → ¬ (Say journal.entries commands))
FailsToEnter mark token n Full request old new = ⊥
FailsToEnter mark token n NoEntry request old new = ⊥
FailsToEnter mark token n Unopened request old new = ⊥
FailsToEnter mark token n (Unanswered why) request old new = ⊥
FailsToEnter mark token n NotNow request old new = ⊥
FailsToEnter mark token n NotKnown request old new = ⊥
