-- A command that is given at a till: tries of it are entered and sent, until one isn't refused for its moment.
use Rattle.std.specs.Prelude.{◌≡◌, ◌≤◌, ◌+◌, ◌⊎◌, ⊤, ℕ, List, [], ◌∷◌, ◌++◌, length, Option, Result, Ok}
use Rattle.std.specs.List.{AllByRecursion}
use Rattle.sqlite.specs.State.{State}
use Rattle.shop_model.specs.Calendar.{Moment, seconds_of}
use Rattle.shop_model.specs.Values.{Text, Act, Command}
use Rattle.shop_model.specs.Refusals.{MomentBack}
use Rattle.shop_model.specs.Machine.{Sorry}
use Rattle.shop_model.specs.Answers.{Answer, answer_of}
use Rattle.till_client.specs.Sealing.{SaysCommand}
use Rattle.till_requests.specs.Moments.{next_second}
use Rattle.till_book.specs.Journal.{Journal, with_entry}
use Rattle.till_work.specs.Desk.{IsAt, Extends}
use Rattle.till_work.specs.declared.place.Place.{Place}
use Rattle.till_cashier.specs.declared.fault.TillFault.{TillFault}

-- ---- one try

-- The clock showed `now`. The moment is that many seconds after it, or a second after the last entry's, whichever is later, and at most two minutes after it.
abbrev pub IsDated : (ℕ → Type 0) → Option Moment → ℕ → Moment → Type 0
IsDated shows last ahead at = (now : Moment) × shows (seconds_of now) × (seconds_of at ≡ next_second now last ahead) × (seconds_of at ≤ seconds_of now + 120)

-- The request says this command with that token: that act by that member of staff. Its moment is one that the clock showed, or up to two minutes later.
pub record IsTry (shows : ℕ → Type 0) (token : Text) (staff : ℕ) (act : Act) (request : List ℕ) (command : Command) : Type 0 where
  pub says : SaysCommand request token command
  pub by : command.staff ≡ staff
  pub does : command.act ≡ act
  pub dated : (now : ℕ) × shows now × (now ≤ seconds_of command.moment) × (seconds_of command.moment ≤ now + 120)

-- each request says its command so
abbrev pub AreTries : (ℕ → Type 0) → Text → ℕ → Act → List (List ℕ) → List Command → Type 0
AreTries shows token staff act [] [] = ⊤
AreTries shows token staff act [] (command ∷ commands) = ⊥
AreTries shows token staff act (request ∷ requests) [] = ⊥
AreTries shows token staff act (request ∷ requests) (command ∷ commands) =
    IsTry shows token staff act request command × AreTries shows token staff act requests commands

-- the request is a try of the act by its giver
abbrev pub IsRequest : (ℕ → Type 0) → Text → Result ℕ TillFault → Act → List ℕ → Type 0
IsRequest shows token giver act request = (staff : ℕ) × (giver ≡ Ok staff) × ((command : Command) × IsTry shows token staff act request command)

-- one try was added after the last entry
abbrev pub EntersTry : (ℕ → Type 0) → Text → Text → Result ℕ TillFault → Act → Place → State → Place → State → Type 0
EntersTry shows mark token giver act before old after new =
    (staff : ℕ) × (giver ≡ Ok staff)
    × ((journal : Journal) (commands : List Command) → IsAt mark before old journal commands
    → (request : List ℕ) × (command : Command) × IsTry shows token staff act request command
    × IsAt mark after new (with_entry request journal) (commands ++ command ∷ []))

-- ---- tries, until one isn't refused for its moment

-- What had waited got replies. Tries of the act were added after the last entry, in a till's book still: so they have the next keys, and moments that rise.
-- Each try
-- got its own reply, and no entry waits.
pub record IsTried (Exchanged : List ℕ → Answer → Type 0) (shows : ℕ → Type 0) (mark token : Text)
    (staff : ℕ) (act : Act) (told : List Answer) (place : Place) (s : State)
    (old : Journal) (said : List Command) : Type 0 where
  pub journal : Journal
  pub commands : List Command
  pub is_at : IsAt mark place s journal commands
  pub extends : Extends Exchanged old journal
  pub requests : List (List ℕ)
  pub tries : List Command
  pub entries : journal.entries ≡ old.entries ++ requests
  pub says : commands ≡ said ++ tries
  pub each : AreTries shows token staff act requests tries
  pub waited : List Answer
  pub replies : journal.replies ≡ (old.replies ++ waited) ++ told
  pub first : length (old.replies ++ waited) ≡ length old.entries
  pub counted : length told ≡ length requests
  pub settled : journal.settled ≡ old.settled

-- the giver of the act tried it so
abbrev pub Tries : (List ℕ → Answer → Type 0) → (ℕ → Type 0) → Text → Text → Result ℕ TillFault → Act → List Answer → Place → State → Place → State → Type 0
Tries Exchanged shows mark token giver act told before old after new =
    (staff : ℕ) × (giver ≡ Ok staff)
    × ((journal : Journal) (commands : List Command) → IsAt mark before old journal commands
    → IsTried Exchanged shows mark token staff act told after new journal commands)

-- refused for its moment
abbrev pub IsBack : Answer → Type 0
IsBack answer = answer ≡ answer_of (Sorry MomentBack)

-- At most one entry was added after these. Or each that was added but the last has a reply at its own place, which refused it for its moment.
abbrev pub AreRefused : List (List ℕ) → List Answer → List (List ℕ) → Type 0
AreRefused entries replies added =
    (length added ≤ 1)
    ⊎ ((earlier backs later : List Answer) × (replies ≡ (earlier ++ backs) ++ later) × (length earlier ≡ length entries)
    × (length added ≤ length backs + 1) × AllByRecursion IsBack backs)

-- The act was tried once or more: each try but the last was refused for its moment, and the last got that answer.
abbrev pub IsGivenAt : (List ℕ → Answer → Type 0) → (ℕ → Type 0) → Text → Text → ℕ → Act → Answer → Place → State → Journal → List Command → Type 0
IsGivenAt Exchanged shows mark token staff act answer place s journal commands =
    (backs : List Answer) × AllByRecursion IsBack backs × IsTried Exchanged shows mark token staff act (backs ++ answer ∷ []) place s journal commands

-- so it was given by its giver
abbrev pub Gives : (List ℕ → Answer → Type 0) → (ℕ → Type 0) → Text → Text → Result ℕ TillFault → Act → Answer → Place → State → Place → State → Type 0
Gives Exchanged shows mark token giver act answer before old after new =
    (staff : ℕ) × (giver ≡ Ok staff)
    × ((journal : Journal) (commands : List Command) → IsAt mark before old journal commands
    → IsGivenAt Exchanged shows mark token staff act answer after new journal commands)

-- with some answer
abbrev pub GivesAct : (List ℕ → Answer → Type 0) → (ℕ → Type 0) → Text → Text → Result ℕ TillFault → Act → Place → State → Place → State → Type 0
GivesAct Exchanged shows mark token giver act before old after new = (answer : Answer) × Gives Exchanged shows mark token giver act answer before old after new
