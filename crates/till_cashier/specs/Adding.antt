-- What a word enters, whatever its outcome: tries of what was typed, and nothing else.
use Rattle.std.specs.Prelude.{◌≡◌, ◌≤◌, ◌⊎◌, ⊤, ℕ, zero, suc, List, [], ◌∷◌, ◌++◌, length, slice_get, Some, Result, Ok, IsTrue}
use Rattle.std.specs.List.{All}
use Rattle.sqlite.specs.State.{State}
use Rattle.shop_model.specs.Values.{Text, Act, Command}
use Rattle.shop_model.specs.Answers.{Answer}
use Rattle.shop_types.specs.Seen.{seen_act}
use Rattle.shop_types.specs.declared.command.Act.TheVariants.{TakeBack}
use Rattle.till_book.specs.Journal.{Journal}
use Rattle.till_book.specs.Steps.{Rests, Stays}
use Rattle.till_book.specs.declared.rents.HeldRental.{HeldRental}
use Rattle.till_requests.specs.Requests.{is_reading}
use Rattle.till_work.specs.Entering.{IsTillsBook}
use Rattle.till_work.specs.Desk.{IsAt}
use Rattle.till_work.specs.declared.place.Place.{Place}
use Rattle.till_cashier.specs.declared.fault.TillFault.{TillFault}
use Rattle.till_words.specs.declared.words.TillAct.{TillAct}
use Rattle.till_words.specs.declared.words.TillAct.TheVariants as typed
use Rattle.till_cashier.specs.declared.word.Plan.{Plan}
use Rattle.till_cashier.specs.declared.word.Plan.TheVariants as plan
use Rattle.till_cashier.specs.declared.refused.Repeat.{Repeat}
use Rattle.till_cashier.specs.Again.{IsRefusedIn}
use Rattle.till_cashier.specs.Giving.{IsTry, AreRefused}
use Rattle.till_cashier.specs.Office.{AddsInTurn, AddsWords}
use Rattle.till_cashier.specs.Returns.{IsReturned}

-- each request is a try of the act by its giver, and says the command of its place
abbrev pub AreTriesBy : (ℕ → Type 0) → Text → Result ℕ TillFault → Act → List (List ℕ) → List Command → Type 0
AreTriesBy shows token giver act [] [] = ⊤
AreTriesBy shows token giver act [] (command ∷ commands) = ⊥
AreTriesBy shows token giver act (request ∷ requests) [] = ⊥
AreTriesBy shows token giver act (request ∷ requests) (command ∷ commands) =
    ((staff : ℕ) × (giver ≡ Ok staff) × IsTry shows token staff act request command) × AreTriesBy shows token giver act requests commands

-- A till's book that was that one. Tries of the act were entered after its last entry, and nothing else was. There may be no try. Each but the last was refused
-- for its moment, also if no reply came to the last.
pub record HasTries (shows : ℕ → Type 0) (mark token : Text) (giver : Result ℕ TillFault) (act : Act)
    (place : Place) (s : State) (old : Journal) (said : List Command) : Type 0 where
  pub journal : Journal
  pub commands : List Command
  pub is_at : IsAt mark place s journal commands
  pub requests : List (List ℕ)
  pub tries : List Command
  pub entries : journal.entries ≡ old.entries ++ requests
  pub says : commands ≡ said ++ tries
  pub each : AreTriesBy shows token giver act requests tries
  pub replies : (more : List Answer) × (journal.replies ≡ old.replies ++ more)
  pub refused : AreRefused old.entries journal.replies requests

-- tries of the act were entered, and nothing else
abbrev pub AddsTries : (ℕ → Type 0) → Text → Text → Result ℕ TillFault → Act → Place → State → Place → State → Type 0
AddsTries shows mark token giver act before old after new =
    (journal : Journal) (commands : List Command) → IsAt mark before old journal commands → HasTries shows mark token giver act after new journal commands

-- one try was entered, or none, and nothing else
abbrev pub AddsOneTry : (ℕ → Type 0) → Text → Text → Result ℕ TillFault → Act → Place → State → Place → State → Type 0
AddsOneTry shows mark token giver act before old after new =
    (journal : Journal) (commands : List Command) → IsAt mark before old journal commands
    → (it : HasTries shows mark token giver act after new journal commands) × (length it.requests ≤ 1)

-- a till's book stays one, with the same entries
abbrev pub AddsNoEntry : Text → Place → State → Place → State → Type 0
AddsNoEntry mark before old after new =
    (journal : Journal) (commands : List Command) → IsAt mark before old journal commands
    → (next : Journal) × (next.entries ≡ journal.entries) × IsAt mark after new next commands

-- Tries of the first n acts, one act after another, each by whoever had given it. Of an act there may be no try.
abbrev pub AreTriesOf : (ℕ → Type 0) → Text → ℕ → List Repeat → List (List ℕ) → List Command → Type 0
AreTriesOf shows token zero acts requests commands = (requests ≡ []) × (commands ≡ [])
AreTriesOf shows token (suc n) acts requests commands =
    (it : Repeat) × (slice_get acts n ≡ Some it)
    × (before tries : List (List ℕ)) × (known more : List Command) × AreTriesOf shows token n acts before known
    × AreTriesBy shows token (Ok it.staff) (seen_act it.act) tries more × (requests ≡ before ++ tries) × (commands ≡ known ++ more)

-- A till's book that was that one. Tries of the first n acts were entered after its last entry, and nothing else was.
pub record HasRepeats (shows : ℕ → Type 0) (mark token : Text) (n : ℕ) (acts : List Repeat) (place : Place) (s : State) (old : Journal)
    (said : List Command) : Type 0 where
  pub journal : Journal
  pub commands : List Command
  pub is_at : IsAt mark place s journal commands
  pub requests : List (List ℕ)
  pub tries : List Command
  pub entries : journal.entries ≡ old.entries ++ requests
  pub says : commands ≡ said ++ tries
  pub each : AreTriesOf shows token n acts requests tries

abbrev pub AddsFirst : (ℕ → Type 0) → Text → Text → ℕ → List Repeat → Place → State → Place → State → Type 0
AddsFirst shows mark token n acts before old after new =
    (journal : Journal) (commands : List Command) → IsAt mark before old journal commands → HasRepeats shows mark token n acts after new journal commands

-- tries of acts that were refused since another moment was later, and nothing else
abbrev pub AddsRepeats : (ℕ → Type 0) → Text → Text → Place → State → Place → State → Type 0
AddsRepeats shows mark token before old after new =
    (acts : List Repeat) × All (IsRefusedIn old) acts × (n : ℕ) × AddsFirst shows mark token n acts before old after new

-- What a plan enters, whatever its outcome.
abbrev pub EntersPlan : (ℕ → Type 0) → Text → Text → Result ℕ TillFault → Plan → Place → State → Place → State → Type 0
EntersPlan shows mark token giver (plan.Give what customer) before old after new = AddsTries shows mark token giver (seen_act what) before old after new
EntersPlan shows mark token giver (plan.Office words) before old after new = AddsInTurn mark token words before old after new
EntersPlan shows mark token giver plan.Send before old after new = AddsNoEntry mark before old after new
EntersPlan shows mark token giver (plan.Look look) before old after new = Stays old new
EntersPlan shows mark token giver (plan.ReadOffice words) before old after new = Stays old new
EntersPlan shows mark token giver plan.Waiting before old after new = Stays old new
EntersPlan shows mark token giver (plan.Last count) before old after new = Stays old new
EntersPlan shows mark token giver (plan.Day asked) before old after new = Stays old new
EntersPlan shows mark token giver (plan.Today date) before old after new = Stays old new
EntersPlan shows mark token giver (plan.Again late) before old after new = AddsRepeats shows mark token before old after new
EntersPlan shows mark token giver plan.Slip before old after new = Stays old new
EntersPlan shows mark token giver plan.Usage before old after new = Stays old new

-- tries of the act were entered at a till's book, and nothing else
abbrev pub AddsWord : (ℕ → Type 0) → Text → Text → Result ℕ TillFault → Act → State → State → Type 0
AddsWord shows mark token giver act old new =
    (journal : Journal) (commands : List Command) → Rests old journal → IsTillsBook mark journal commands
    → (place : Place) × HasTries shows mark token giver act place new journal commands

-- a till's book stays one, with the same entries
abbrev pub KeepsEntries : Text → State → State → Type 0
KeepsEntries mark old new =
    (journal : Journal) (commands : List Command) → Rests old journal → IsTillsBook mark journal commands
    → (place : Place) × (next : Journal) × (next.entries ≡ journal.entries) × IsAt mark place new next commands

-- so it was at a till's book
abbrev pub AddsAgain : (ℕ → Type 0) → Text → Text → State → State → Type 0
AddsAgain shows mark token old new =
    (acts : List Repeat) × All (IsRefusedIn old) acts × (n : ℕ)
    × ((journal : Journal) (commands : List Command) → Rests old journal → IsTillsBook mark journal commands
    → (place : Place) × HasRepeats shows mark token n acts place new journal commands)

-- What a word enters, whatever its outcome: tries of the act that was typed, and nothing else. For a copy that comes back they are tries of the return of the
-- register's rental, or of the sheet's, or there are none. Head office's words are entered in turn, each under the key that is open. A reading isn't
-- entered.
-- What `again` enters are tries of acts that were refused since another moment was later. No other word of a branch enters anything.
abbrev pub EntersWord : (ℕ → Type 0) → Text → Text → Result ℕ TillFault → Text → TillAct → State → State → Type 0
EntersWord shows mark token giver sheet (typed.Do what) old new = AddsWord shows mark token giver (seen_act what) old new
EntersWord shows mark token giver sheet (typed.ReturnCopy copy) old new =
    Stays old new ⊎ ((held : HeldRental) × IsReturned sheet copy held old × AddsWord shows mark token giver (seen_act (TakeBack held.rental)) old new)
EntersWord shows mark token giver sheet (typed.Office words) old new = AddsWords mark token words old new × (IsTrue (is_reading words) → Stays old new)
EntersWord shows mark token giver sheet typed.Send old new = KeepsEntries mark old new
EntersWord shows mark token giver sheet (typed.Look look) old new = Stays old new
EntersWord shows mark token giver sheet typed.Waiting old new = Stays old new
EntersWord shows mark token giver sheet (typed.Last count) old new = Stays old new
EntersWord shows mark token giver sheet (typed.Day asked) old new = Stays old new
EntersWord shows mark token giver sheet (typed.Today date) old new = Stays old new
EntersWord shows mark token giver sheet (typed.Again late) old new = AddsAgain shows mark token old new
EntersWord shows mark token giver sheet typed.Slip old new = Stays old new
EntersWord shows mark token giver sheet typed.Help old new = Stays old new
EntersWord shows mark token giver sheet (typed.Zone name) old new = Stays old new
EntersWord shows mark token giver sheet (typed.Init beginning) old new = Stays old new
EntersWord shows mark token giver sheet (typed.Import file lot) old new = Stays old new
EntersWord shows mark token giver sheet (typed.JoinIn who) old new = Stays old new
EntersWord shows mark token giver sheet typed.Prompt old new = Stays old new
