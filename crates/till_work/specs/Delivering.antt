-- The outcome when the oldest entry is sent.
use Rattle.std.specs.Prelude.{◌≡◌, ◌≢◌, ℕ, List, ◌⊎◌, Option, Some, None}
use Rattle.std.specs.Io.KnownBytes.{Appends, Consumes, Keeps}
use Rattle.sqlite_trees.specs.Tree.{Trees}
use Rattle.sqlite.specs.State.{State}
use Rattle.shop_model.specs.Refusals.{NoCounter}
use Rattle.shop_model.specs.Machine.{Sorry}
use Rattle.shop_model.specs.Answers.{Answer, answer_of}
use Rattle.till_book.specs.Journal.{Journal, StandsFor, waiting, with_reply}
use Rattle.till_book.specs.Steps.{Rests, IsNextReply}
use Rattle.till_client.specs.Replies.{seen_answer, answer_bytes}
use Rattle.till_client.specs.Exchanges.{FailsToAsk}
use Rattle.till_client.specs.declared.replies.Answer.{Answer as Read}
use Rattle.till_work.specs.declared.fault.DeskFault.{DeskFault}
use Rattle.till_work.specs.declared.fault.DeskFault.TheVariants.{Book, Full, Memory, NoCommand, OtherKey, NotLater, OtherBook, NoEntry, Unopened, Unanswered}
use Rattle.till_work.specs.declared.fault.DeskFault.TheVariants.{NotNow, NotKnown}

-- That entry was written whole, and the reply was read whole. The reply is recorded for that entry and no other, on the disk too. It says neither that the
-- store
-- couldn't do its part nor that the server doesn't know who asks.
pub record DeliversOne (journal : Journal) (answer : Answer) (new : State) (input left output written : Option (List ℕ)) : Type 0 where
  pub request : List ℕ
  pub oldest : waiting journal ≡ Some request
  pub writes : Appends output written request
  pub reads : Consumes input left (answer_bytes answer)
  pub decided : answer.status ≢ 503
  pub known : answer ≢ answer_of (Sorry NoCounter)
  pub rests : Rests new (with_reply answer journal)

-- each entry has its reply: nothing is written or read, and the book stays
pub record HasNone (journal : Journal) (new : State) (input left output written : Option (List ℕ)) : Type 0 where
  pub none : waiting journal ≡ None
  pub writes : Keeps output written
  pub reads : Keeps input left
  pub rests : Rests new journal

abbrev pub Delivers : ℕ → Option Read → State → State → Option (List ℕ) → Option (List ℕ) → Option (List ℕ) → Option (List ℕ) → Type 0
Delivers n (Some answer) old new input left output written =
    (journal : Journal) → Rests old journal → IsNextReply n journal → DeliversOne journal (seen_answer answer) new input left output written
Delivers n None old new input left output written =
    (journal : Journal) → Rests old journal → IsNextReply n journal → HasNone journal new input left output written

-- that is known of the oldest entry
abbrev pub OfOldest : Journal → (List ℕ → Type 0) → Type 0
OfOldest journal Known = (request : List ℕ) × (waiting journal ≡ Some request) × Known request

-- If no reply came, or none that counts, the entry stays without one, and the fault says how much of it was written. If the book failed, nothing was written or
-- the
-- whole entry, and the book is to be opened anew. Other faults never come.
abbrev pub FailsToDeliver : ℕ → DeskFault → State → State → Option (List ℕ) → Option (List ℕ) → Type 0
FailsToDeliver n (Unanswered why) old new output written =
    (journal : Journal) → Rests old journal → IsNextReply n journal → Rests new journal × OfOldest journal (λ request. FailsToAsk why request output written)
FailsToDeliver n NotNow old new output written =
    (journal : Journal) → Rests old journal → IsNextReply n journal → Rests new journal × OfOldest journal (λ request. Appends output written request)
FailsToDeliver n NotKnown old new output written =
    (journal : Journal) → Rests old journal → IsNextReply n journal → Rests new journal × OfOldest journal (λ request. Appends output written request)
FailsToDeliver n Book old new output written =
    (journal : Journal) → Rests old journal → IsNextReply n journal → Keeps output written ⊎ OfOldest journal (λ request. Appends output written request)
FailsToDeliver n Full old new output written = ⊥
FailsToDeliver n Memory old new output written = ⊥
FailsToDeliver n NoCommand old new output written = ⊥
FailsToDeliver n OtherKey old new output written = ⊥
FailsToDeliver n NotLater old new output written = ⊥
FailsToDeliver n OtherBook old new output written = ⊥
FailsToDeliver n NoEntry old new output written = ⊥
FailsToDeliver n Unopened old new output written = ⊥

-- The oldest entry was written whole, and the reply was read whole. It says neither that the store couldn't do its part nor that the server doesn't know who
-- asks.
pub record IsReceived (journal : Journal) (answer : Answer) (input left output written : Option (List ℕ)) : Type 0 where
  pub request : List ℕ
  pub oldest : waiting journal ≡ Some request
  pub writes : Appends output written request
  pub reads : Consumes input left (answer_bytes answer)
  pub decided : answer.status ≢ 503
  pub known : answer ≢ answer_of (Sorry NoCounter)

-- what a stop may leave on the disk: the book with one more reply, which was read whole by then, and nothing else
abbrev pub MayLeave : ℕ → State → Option (List ℕ) → Option (List ℕ) → Option (List ℕ) → Option (List ℕ) → Trees → Type 0
MayLeave n old input left output written db =
    (journal : Journal) → Rests old journal → IsNextReply n journal
    → (answer : Answer) × IsReceived journal answer input left output written × StandsFor db (with_reply answer journal)
