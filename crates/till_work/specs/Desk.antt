-- An open book of a till, and what changes in it.
use Rattle.std.specs.Prelude.{◌≡◌, ◌≢◌, ◌^◌, ◌-◌, ⊤, ℕ, List, [], ◌∷◌, ◌++◌, length, Option, Some, None, Result, Err}
use Rattle.sqlite_trees.specs.Tree.{Trees}
use Rattle.sqlite.specs.State.{State}
use Rattle.shop_model.specs.Values.{Text, Command}
use Rattle.shop_model.specs.Answers.{Answer}
use Rattle.till_book.specs.Journal.{Journal, StandsFor, waiting, with_entry, with_reply}
use Rattle.till_book.specs.Steps.{Rests}
use Rattle.till_work.specs.Entering.{IsTillsBook}
use Rattle.till_work.specs.Delivering.{OfOldest}
use Rattle.till_client.specs.Replies.{seen_answer}
use Rattle.till_client.specs.Sealing.{SaysCommand}
use Rattle.till_client.specs.declared.replies.Answer.{Answer as Read}
use Rattle.till_work.specs.Exchanged.{IsExchangedAt, AreExchanged, AreSettled, IsUnanswered, IsPutOff}
use Rattle.till_work.specs.declared.fault.DeskFault.{DeskFault}
use Rattle.till_work.specs.declared.fault.DeskFault.TheVariants as fault
use Rattle.till_work.specs.declared.place.Place.{Place}

-- ---- the book

-- the book rests with that journal, whatever its entries say, and so many entries and replies are in it
pub record HasPlace (place : Place) (s : State) (journal : Journal) : Type 0 where
  pub rests : Rests s journal
  pub entries : place.entries ≡ length journal.entries
  pub replies : place.replies ≡ length journal.replies

-- The book rests with that journal, which says these commands: a till's, under its mark. So many entries and replies are in it.
pub record IsAt (mark : Text) (place : Place) (s : State) (journal : Journal) (commands : List Command) : Type 0 where
  pub rests : Rests s journal
  pub book : IsTillsBook mark journal commands
  pub entries : place.entries ≡ length journal.entries
  pub replies : place.replies ≡ length journal.replies

-- What was entered, recorded and settled is a front part of the new journal. Each later reply is the reply to the entry of its own place, one after another.
-- Each later settlement is a reply to the entry of its number.
pub record Extends (Exchanged : List ℕ → Answer → Type 0) (old new : Journal) : Type 0 where
  pub entries : (more : List (List ℕ)) × (new.entries ≡ old.entries ++ more)
  pub replies : (more : List Answer) × (new.replies ≡ old.replies ++ more) × AreExchanged Exchanged new.entries (length old.replies) more
  pub settled : (more : List (ℕ × Answer)) × (new.settled ≡ old.settled ++ more) × AreSettled Exchanged new.entries more

-- a book that was that one, and has what stood in it
pub record HasMore (Exchanged : List ℕ → Answer → Type 0) (place : Place) (s : State) (old : Journal) : Type 0 where
  pub journal : Journal
  pub has : HasPlace place s journal
  pub extends : Extends Exchanged old journal

-- whatever the entries of a book say, what stood in it stays
abbrev pub Grows : (List ℕ → Answer → Type 0) → Place → State → Place → State → Type 0
Grows Exchanged before old after new = (journal : Journal) → HasPlace before old journal → HasMore Exchanged after new journal

-- a book that was this one, and goes on
pub record Becomes (Exchanged : List ℕ → Answer → Type 0) (mark : Text) (place : Place) (s : State) (old : Journal) (said : List Command) : Type 0 where
  pub journal : Journal
  pub commands : List Command
  pub is_at : IsAt mark place s journal commands
  pub extends : Extends Exchanged old journal
  pub says : (more : List Command) × (commands ≡ said ++ more)

-- a till's book stays one, and what stood in it stays
abbrev pub GoesOn : (List ℕ → Answer → Type 0) → Text → Place → State → Place → State → Type 0
GoesOn Exchanged mark before old after new =
    (journal : Journal) (commands : List Command) → IsAt mark before old journal commands → Becomes Exchanged mark after new journal commands

-- nothing more stands in a book, whatever its entries say
abbrev pub Stays : Place → State → Place → State → Type 0
Stays before old after new = (journal : Journal) → HasPlace before old journal → HasPlace after new journal

-- ---- entering

-- the request stands after the last entry, and the command that it says, with that token, after the last command
abbrev pub EntersOne : Text → Text → List ℕ → Place → State → Place → State → Type 0
EntersOne mark token request before old after new =
    (journal : Journal) (commands : List Command) → IsAt mark before old journal commands
    → (command : Command) × SaysCommand request token command × IsAt mark after new (with_entry request journal) (commands ++ command ∷ [])

-- what entering may leave on the disk, at a stop: the book with the entry, which is a till's still
abbrev pub LeavesEntry : Text → Text → List ℕ → Place → State → Trees → Type 0
LeavesEntry mark token request before old db =
    (journal : Journal) (commands : List Command) → IsAt mark before old journal commands
    → (command : Command) × SaysCommand request token command × IsTillsBook mark (with_entry request journal) (commands ++ command ∷ [])
    × StandsFor db (with_entry request journal)

-- ---- sending

-- One reply was added after the last, and nothing else changed. It is the reply to the oldest entry that had none.
abbrev pub AnswersOne : (List ℕ → Answer → Type 0) → Answer → Place → State → Place → State → Type 0
AnswersOne Exchanged answer before old after new =
    (journal : Journal) → HasPlace before old journal
    → HasPlace after new (with_reply answer journal) × IsExchangedAt Exchanged journal.entries (length journal.replies) answer

-- with these replies after the last
abbrev pub with_replies : List Answer → Journal → Journal
with_replies answers journal = record journal { replies = journal.replies ++ answers }

-- These replies were added after the last, and nothing else changed. They are the replies to the oldest entries that had none, one after another.
pub record AreSent (Exchanged : List ℕ → Answer → Type 0) (answers : List Answer) (place : Place) (s : State) (old : Journal) : Type 0 where
  pub has : HasPlace place s (with_replies answers old)
  pub told : AreExchanged Exchanged old.entries (length old.replies) answers

-- Why the oldest entry without a reply got none: no connection was opened, or over streams that were opened no answer came, or the server did nothing. Or each
-- entry
-- has its reply, or there is no number for one more. Of a book that failed nothing is said.
abbrev pub IsWhy : {R W : Type 0} → Type 0 → (R → W → Type 0) → (W → Option (List ℕ)) → Place → Journal → DeskFault → Type 0
IsWhy refuses opens contents place journal fault.Book = ⊤
IsWhy refuses opens contents place journal fault.Full = place.replies ≡ 2 ^ 32 - 1
IsWhy refuses opens contents place journal fault.Memory = ⊥
IsWhy refuses opens contents place journal fault.NoCommand = ⊥
IsWhy refuses opens contents place journal fault.OtherKey = ⊥
IsWhy refuses opens contents place journal fault.NotLater = ⊥
IsWhy refuses opens contents place journal fault.OtherBook = ⊥
IsWhy refuses opens contents place journal fault.NoEntry = waiting journal ≡ None
IsWhy refuses opens contents place journal fault.Unopened = refuses
IsWhy refuses opens contents place journal (fault.Unanswered why) = OfOldest journal (IsUnanswered why opens contents)
IsWhy refuses opens contents place journal fault.NotNow = OfOldest journal (IsPutOff opens contents)
IsWhy refuses opens contents place journal fault.NotKnown = OfOldest journal (IsPutOff opens contents)

-- so it is of each journal with which the book rests
abbrev pub FailsToExchange : {R W : Type 0} → Type 0 → (R → W → Type 0) → (W → Option (List ℕ)) → Place → State → DeskFault → Type 0
FailsToExchange refuses opens contents place s it = (journal : Journal) → HasPlace place s journal → IsWhy refuses opens contents place journal it

-- some of what waited was sent
abbrev pub Sends : (List ℕ → Answer → Type 0) → Place → State → Place → State → Type 0
Sends Exchanged before old after new = (journal : Journal) → HasPlace before old journal → (answers : List Answer) × AreSent Exchanged answers after new journal

-- That is the last of them. Without one the list is empty.
abbrev pub IsLastOf : Option Read → List Answer → Type 0
IsLastOf None answers = answers ≡ []
IsLastOf (Some answer) answers = (front : List Answer) × (answers ≡ front ++ seen_answer answer ∷ [])

-- some of what waited was sent, and that is the last reply to it
abbrev pub ReturnsLast : (List ℕ → Answer → Type 0) → Option Read → Place → State → Place → State → Type 0
ReturnsLast Exchanged last before old after new =
    (journal : Journal) → HasPlace before old journal → (answers : List Answer) × AreSent Exchanged answers after new journal × IsLastOf last answers

-- Some of what waited was sent, and that is why the next got no reply. Of a book that failed nothing is said.
abbrev pub FailsToSend : {R W : Type 0} → (List ℕ → Answer → Type 0) → Type 0 → (R → W → Type 0)
    → (W → Option (List ℕ)) → Place → State → Place → State → DeskFault → Type 0
FailsToSend Exchanged refuses opens contents before old after new it =
    it ≢ fault.Book → (journal : Journal) → HasPlace before old journal
    → (answers : List Answer) × AreSent Exchanged answers after new journal × IsWhy refuses opens contents after (with_replies answers journal) it

-- ---- faults

-- the book didn't fail
abbrev pub IsBookKept : {A : Type 0} → Result A DeskFault → Type 0
IsBookKept result = result ≢ Err fault.Book
