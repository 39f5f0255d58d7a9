-- Acts that are given once more, one after another.
use Rattle.std.specs.Prelude.{◌≡◌, ◌<◌, ◌+◌, ◌⊎◌, ℕ, zero, suc, List, [], ◌∷◌, ◌++◌, length, slice_get, Option, Some, Result, Ok}
use Rattle.std.specs.List.{All, AllByRecursion}
use Rattle.sqlite.specs.State.{State}
use Rattle.shop_model.specs.Values.{Text, Act, Command}
use Rattle.shop_model.specs.Answers.{Answer}
use Rattle.shop_types.specs.Seen.{seen_act}
use Rattle.till_book.specs.Journal.{Journal}
use Rattle.till_book.specs.Saying.{Says}
use Rattle.till_book.specs.Steps.{Rests}
use Rattle.till_work.specs.Desk.{IsAt, Extends}
use Rattle.till_work.specs.declared.place.Place.{Place}
use Rattle.till_cashier.specs.declared.refused.Repeat.{Repeat}
use Rattle.till_cashier.specs.declared.fault.TillFault.{TillFault}
use Rattle.till_cashier.specs.Faults.{giver_of}
use Rattle.till_cashier.specs.Giving.{AreTries, IsBack}

-- the reply at that place is that another moment was later
abbrev pub IsBackAt : List Answer → ℕ → Type 0
IsBackAt replies at = (answer : Answer) × (slice_get replies at ≡ Some answer) × IsBack answer

-- the entry at that place says the command
abbrev pub SaysAt : List (List ℕ) → ℕ → Command → Type 0
SaysAt entries at command = (request : List ℕ) × (slice_get entries at ≡ Some request) × Says request command

-- one of the entries is of that act by that member of staff, and its reply is that another moment was later
pub record IsRefused (entries : List (List ℕ)) (replies : List Answer) (it : Repeat) : Type 0 where
  pub at : ℕ
  pub command : Command
  pub back : IsBackAt replies at
  pub says : SaysAt entries at command
  pub staff : command.staff ≡ it.staff
  pub act : command.act ≡ seen_act it.act

-- a later entry asks for the same by the same member of staff
abbrev pub IsRepeated : List (List ℕ) → ℕ → Command → Type 0
IsRepeated entries at command =
    (later : ℕ) × (other : Command) × (at < later) × SaysAt entries later other × (other.staff ≡ command.staff) × (other.act ≡ command.act)

-- the entry at that place wasn't refused for its moment, or it was repeated
abbrev pub IsSettledAt : List (List ℕ) → List Answer → ℕ → Type 0
IsSettledAt entries replies at = (command : Command) → IsBackAt replies at → SaysAt entries at command → IsRepeated entries at command

-- the entry at that place was refused for its moment, and is of that act by that member of staff
abbrev pub IsRefusedAt : List (List ℕ) → List Answer → ℕ → Repeat → Type 0
IsRefusedAt entries replies at it =
    (command : Command) × IsBackAt replies at × SaysAt entries at command × (command.staff ≡ it.staff) × (command.act ≡ seen_act it.act)

-- Each act is of one of the first n entries that was refused for its moment, in their order. Any other entry so refused was repeated.
abbrev pub AreLeft : List (List ℕ) → List Answer → ℕ → List Repeat → Type 0
AreLeft entries replies zero acts = acts ≡ []
AreLeft entries replies (suc n) acts =
    (AreLeft entries replies n acts × IsSettledAt entries replies n)
    ⊎ ((before : List Repeat) × (it : Repeat) × AreLeft entries replies n before × IsRefusedAt entries replies n it × (acts ≡ before ++ it ∷ []))

-- so of all entries of each journal that the book stands for
abbrev pub AreLeftIn : State → List Repeat → Type 0
AreLeftIn s acts = (journal : Journal) → Rests s journal → AreLeft journal.entries journal.replies (length journal.entries) acts

-- If nothing is left out with the entry at that place, nothing was before, and the acts are of one entry more.
abbrev pub AddsLeft : List (List ℕ) → List Answer → ℕ → Text → List Repeat → Text → List Repeat → Type 0
AddsLeft entries replies at left acts more with_it =
    more ≡ [] → (left ≡ []) × (AreLeft entries replies at acts → AreLeft entries replies (at + 1) with_it)

-- so of each journal that the book stands for
abbrev pub IsRefusedIn : State → Repeat → Type 0
IsRefusedIn s it = (journal : Journal) → Rests s journal → IsRefused journal.entries journal.replies it

-- ---- from a journal to a later one

-- What had waited got replies. Tries of the act were added after the last entry, and each got its own reply (`IsTried`).
pub record TriesFrom (Exchanged : List ℕ → Answer → Type 0) (shows : ℕ → Type 0) (token : Text) (staff : ℕ) (act : Act) (told : List Answer)
    (old : Journal) (said : List Command) (new : Journal) (commands : List Command) : Type 0 where
  pub extends : Extends Exchanged old new
  pub requests : List (List ℕ)
  pub tries : List Command
  pub entries : new.entries ≡ old.entries ++ requests
  pub says : commands ≡ said ++ tries
  pub each : AreTries shows token staff act requests tries
  pub waited : List Answer
  pub replies : new.replies ≡ (old.replies ++ waited) ++ told
  pub first : length (old.replies ++ waited) ≡ length old.entries
  pub counted : length told ≡ length requests
  pub settled : new.settled ≡ old.settled

-- the giver's act was tried until it wasn't refused for its moment, and got some answer
abbrev pub GivesFrom : (List ℕ → Answer → Type 0) → (ℕ → Type 0) → Text → Result ℕ TillFault → Act → Journal → List Command → Journal → List Command → Type 0
GivesFrom Exchanged shows token giver act old said new commands =
    (answer : Answer) × (staff : ℕ) × (giver ≡ Ok staff)
    × (backs : List Answer) × AllByRecursion IsBack backs × TriesFrom Exchanged shows token staff act (backs ++ answer ∷ []) old said new commands

-- the n-th of the acts was given, by whoever had given it
abbrev pub GivesNth : (List ℕ → Answer → Type 0) → (ℕ → Type 0) → Text → Option ℕ → ℕ → List Repeat → Journal → List Command → Journal → List Command → Type 0
GivesNth Exchanged shows token own n acts old said new commands =
    (it : Repeat) × (slice_get acts n ≡ Some it)
    × GivesFrom Exchanged shows token (giver_of own (Some it.staff)) (seen_act it.act) old said new commands

-- the first n acts were given, one after another, and nothing else happened to the book
abbrev pub GivesFirst : (List ℕ → Answer → Type 0) → (ℕ → Type 0) → Text → Option ℕ → ℕ → List Repeat → Journal → List Command → Journal → List Command → Type 0
GivesFirst Exchanged shows token own zero acts old said new commands = (new ≡ old) × (commands ≡ said)
GivesFirst Exchanged shows token own (suc n) acts old said new commands =
    (mid : Journal) × (known : List Command) × GivesFirst Exchanged shows token own n acts old said mid known
    × GivesNth Exchanged shows token own n acts mid known new commands

-- ---- from a book to a later one

-- of a till's book the first n acts were given, and it is a till's book still
abbrev pub GivesBook : (List ℕ → Answer → Type 0) → (ℕ → Type 0) → Text → Text → Option ℕ → ℕ → List Repeat → Place → State → Place → State → Type 0
GivesBook Exchanged shows mark token own n acts before old after new =
    (journal : Journal) (commands : List Command) → IsAt mark before old journal commands
    → (last : Journal) × (known : List Command) × IsAt mark after new last known × GivesFirst Exchanged shows token own n acts journal commands last known

-- some acts were given so, each of an entry that was refused since another moment was later
abbrev pub GivesAll : (List ℕ → Answer → Type 0) → (ℕ → Type 0) → Text → Text → Option ℕ → Place → State → Place → State → Type 0
GivesAll Exchanged shows mark token own before old after new =
    (acts : List Repeat) × All (IsRefusedIn old) acts × GivesBook Exchanged shows mark token own (length acts) acts before old after new

-- all that are left were given so
abbrev pub GivesLeft : (List ℕ → Answer → Type 0) → (ℕ → Type 0) → Text → Text → Option ℕ → Place → State → Place → State → Type 0
GivesLeft Exchanged shows mark token own before old after new =
    (acts : List Repeat) × AreLeftIn old acts × GivesBook Exchanged shows mark token own (length acts) acts before old after new
