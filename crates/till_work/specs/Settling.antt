-- What becomes known of an entry that is sent once more.
use Rattle.std.specs.Prelude.{◌≡◌, ◌≢◌, ◌⊎◌, ◌+◌, ℕ, List, [], ◌∷◌, slice_get, Option, Some, None}
use Rattle.std.specs.Io.KnownBytes.{Appends, Consumes, Keeps}
use Rattle.sqlite_trees.specs.Tree.{Trees}
use Rattle.sqlite.specs.State.{State}
use Rattle.shop_model.specs.Refusals.{MomentBack}
use Rattle.shop_model.specs.Machine.{Sorry}
use Rattle.shop_model.specs.Answers.{Answer, answer_of}
use Rattle.till_book.specs.Journal.{Journal, StandsFor, IsUnsettled, settled_of, with_settled}
use Rattle.till_book.specs.Steps.{Rests, LeavesChanged}
use Rattle.till_client.specs.Replies.{seen_answer, answer_bytes}
use Rattle.till_client.specs.Exchanges.{FailsToAsk}
use Rattle.till_work.specs.Exchanged.{IsDecided}
use Rattle.till_work.specs.declared.settling.Settled.{Settled}
use Rattle.till_work.specs.declared.settling.Settled.TheVariants.{Acted, Never, Open}
use Rattle.till_work.specs.declared.fault.DeskFault.{DeskFault}
use Rattle.till_work.specs.declared.fault.DeskFault.TheVariants.{Book, Full, Memory, NoCommand, OtherKey, NotLater, OtherBook, NoEntry, Unopened, Unanswered}
use Rattle.till_work.specs.declared.fault.DeskFault.TheVariants.{NotNow, NotKnown}

-- accepted; refused for its moment; neither
abbrev pub IsSettledBy : Answer → Settled → Type 0
IsSettledBy answer (Acted read) = (seen_answer read ≡ answer) × (answer.status ≡ 200)
IsSettledBy answer Never = answer ≡ answer_of (Sorry MomentBack)
IsSettledBy answer (Open read) = (seen_answer read ≡ answer) × (answer.status ≢ 200) × (answer ≢ answer_of (Sorry MomentBack))

-- what was decided is recorded, and nothing where it is open
abbrev pub after_settling : ℕ → Answer → Settled → Journal → Journal
after_settling n answer (Acted read) journal = with_settled n answer journal
after_settling n answer Never journal = with_settled n answer journal
after_settling n answer (Open read) journal = journal

-- if nothing was recorded of the entry but its reply
abbrev pub IsKept : ℕ → Answer → Settled → State → State → Type 0
IsKept n answer settled old new = (journal : Journal) → Rests old journal → IsUnsettled n journal → Rests new (after_settling n answer settled journal)

-- that is known of the entry at that place
abbrev pub OfEntry : ℕ → Journal → (List ℕ → Type 0) → Type 0
OfEntry n journal Known = (i : ℕ) → n ≡ i + 1 → (request : List ℕ) × (slice_get journal.entries i ≡ Some request) × Known request

-- The entry was settled before: nothing is written or read, the result follows from what is recorded, and the book stays.
pub record WasSettled (n : ℕ) (settled : Settled) (journal : Journal) (new : State) (input left output written : Option (List ℕ)) : Type 0 where
  pub answer : Answer
  pub recorded : settled_of n journal.settled ≡ answer ∷ []
  pub writes : Keeps output written
  pub reads : Keeps input left
  pub says : IsSettledBy answer settled
  pub rests : Rests new journal

-- That entry was written whole, and a reply was read whole, which is no 503. The result follows from it, and what was decided is recorded, on the disk too.
pub record IsSettled (n : ℕ) (settled : Settled) (journal : Journal) (new : State) (input left output written : Option (List ℕ)) : Type 0 where
  pub unsettled : IsUnsettled n journal
  pub answer : Answer
  pub writes : OfEntry n journal (λ request. Appends output written request)
  pub reads : Consumes input left (answer_bytes answer)
  pub decided : answer.status ≢ 503
  pub says : IsSettledBy answer settled
  pub rests : Rests new (after_settling n answer settled journal)

abbrev pub Settles : ℕ → Settled → State → State → Option (List ℕ) → Option (List ℕ) → Option (List ℕ) → Option (List ℕ) → Type 0
Settles n settled old new input left output written =
    (journal : Journal) → Rests old journal
    → WasSettled n settled journal new input left output written ⊎ IsSettled n settled journal new input left output written

-- Without a result the book stays, and the fault says how much of the entry was written. If there is no such entry, nothing was. If the book failed, nothing
-- was written
-- or the whole entry, and the book is to be opened anew. Other faults never come.
abbrev pub FailsToSettle : ℕ → DeskFault → State → State → Option (List ℕ) → Option (List ℕ) → Type 0
FailsToSettle n Book old new output written =
    (journal : Journal) → Rests old journal → Keeps output written ⊎ OfEntry n journal (λ request. Appends output written request)
FailsToSettle n NoEntry old new output written =
    (journal : Journal) → Rests old journal → Rests new journal × Keeps output written × ((i : ℕ) → n ≡ i + 1 → slice_get journal.entries i ≡ None)
FailsToSettle n (Unanswered why) old new output written =
    (journal : Journal) → Rests old journal → Rests new journal × OfEntry n journal (λ request. FailsToAsk why request output written)
FailsToSettle n NotNow old new output written =
    (journal : Journal) → Rests old journal → Rests new journal × OfEntry n journal (λ request. Appends output written request)
FailsToSettle n Full old new output written = ⊥
FailsToSettle n Memory old new output written = ⊥
FailsToSettle n NoCommand old new output written = ⊥
FailsToSettle n OtherKey old new output written = ⊥
FailsToSettle n NotLater old new output written = ⊥
FailsToSettle n OtherBook old new output written = ⊥
FailsToSettle n Unopened old new output written = ⊥
FailsToSettle n NotKnown old new output written = ⊥

-- what a stop may leave on the disk of an entry that got this reply: the book with that settlement, if the reply decides the entry
abbrev pub LeavesDecision : ℕ → Answer → State → Trees → Type 0
LeavesDecision n answer old db = IsDecided answer × LeavesChanged (IsUnsettled n) (with_settled n answer) old db

-- That entry was written whole, and a reply was read whole, which decides it.
pub record IsDecidedBy (n : ℕ) (journal : Journal) (answer : Answer) (input left output written : Option (List ℕ)) : Type 0 where
  pub writes : OfEntry n journal (λ request. Appends output written request)
  pub reads : Consumes input left (answer_bytes answer)
  pub given : answer.status ≢ 503
  pub decides : IsDecided answer

-- what a stop may leave on the disk: the book with the settlement, whose reply was read whole by then, and nothing else
abbrev pub MayNote : ℕ → State → Option (List ℕ) → Option (List ℕ) → Option (List ℕ) → Option (List ℕ) → Trees → Type 0
MayNote n old input left output written db =
    (journal : Journal) → Rests old journal
    → (answer : Answer) × IsDecidedBy n journal answer input left output written × StandsFor db (with_settled n answer journal)
