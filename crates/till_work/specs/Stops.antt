-- What a stop in the midst of a call leaves of a book. A stop may come at any call of the store. What a crash then leaves on the disk is among what the call's
-- new state may leave (`may_leave`), whatever the call returned. `Leaves` is the one form in which each call above a single commit says so.
use Rattle.std.specs.Prelude.{◌≡◌, ⊤, ℕ, List, ◌++◌, length}
use Rattle.sqlite_trees.specs.Tree.{Trees}
use Rattle.sqlite.specs.State.{State}
use Rattle.shop_model.specs.Values.{Command}
use Rattle.shop_model.specs.Answers.{Answer}
use Rattle.till_book.specs.Journal.{Journal, StandsFor}
use Rattle.till_work.specs.Exchanged.{AreExchanged, AreSettled}
use Rattle.till_work.specs.Desk.{Extends, with_replies}

-- ---- from a book to a later one; each book with the commands that its entries say

-- nothing changed
abbrev pub IsUnchanged : Journal → List Command → Journal → List Command → Type 0
IsUnchanged old said new known = (new ≡ old) × (known ≡ said)

-- What was in the book is a front part of the later one. Each later reply is the reply to the entry of its own place. Each later settlement is a reply to the
-- entry of its number. The commands are in front of the later ones.
pub record IsLater (Exchanged : List ℕ → Answer → Type 0) (old : Journal) (said : List Command) (new : Journal) (known : List Command) : Type 0 where
  pub extends : Extends Exchanged old new
  pub says : (more : List Command) × (known ≡ said ++ more)

-- Replies were added, and nothing else. They are the replies to the oldest entries that had none, one after another.
abbrev pub IsSentAfter : (List ℕ → Answer → Type 0) → Journal → List Command → Journal → List Command → Type 0
IsSentAfter Exchanged old said new known =
    (answers : List Answer) × (new ≡ with_replies answers old) × (known ≡ said) × AreExchanged Exchanged old.entries (length old.replies) answers

-- with these settlements after the last
abbrev pub with_settlements : List (ℕ × Answer) → Journal → Journal
with_settlements more journal = record journal { settled = journal.settled ++ more }

-- Settlements were added, and nothing else. Each is a reply to the entry of its number, and decides it.
abbrev pub IsSettledAfter : (List ℕ → Answer → Type 0) → Journal → List Command → Journal → List Command → Type 0
IsSettledAfter Exchanged old said new known =
    (more : List (ℕ × Answer)) × (new ≡ with_settlements more old) × (known ≡ said) × AreSettled Exchanged old.entries more

-- ---- on the disk

-- a book, whatever its entries say
abbrev pub IsAny : Journal → List Command → Type 0
IsAny journal commands = ⊤

-- a database that stands for a book of that kind, to which `Goes` leads
pub record StandsLater (Is : Journal → List Command → Type 0) (Goes : Journal → List Command → Type 0) (db : Trees) : Type 0 where
  pub journal : Journal
  pub commands : List Command
  pub stands : StandsFor db journal
  pub is : Is journal commands
  pub goes : Goes journal commands

-- From each book of that kind that was there (`Had`), `Goes` leads to what a crash may leave on the disk. That is a book of the same kind.
abbrev pub Leaves : (Journal → Type 0) → (Journal → List Command → Type 0) → (Journal → List Command → Journal → List Command → Type 0) → State → Type 0
Leaves Had Is Goes new =
    (journal : Journal) (commands : List Command) → Had journal → Is journal commands
    → (db : Trees) → new.may_leave db → StandsLater Is (Goes journal commands) db
