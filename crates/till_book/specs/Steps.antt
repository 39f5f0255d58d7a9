-- The book between two calls, and the book after one change.
use Rattle.std.specs.Prelude.{◌≡◌, ℕ, ◌+◌, IsTrue, List, length, slice_get, Option, option_map}
use Rattle.std.specs.Option.{option_to_list}
use Rattle.sqlite_trees.specs.Tree.{Trees}
use Rattle.sqlite.specs.State.{State}
use Rattle.till_book.specs.declared.rows.BookReply.{BookReply}
use Rattle.till_book.specs.declared.lists.BookRows.{BookRows}
use Rattle.till_book.specs.Seen.{seen_reply}
use Rattle.till_book.specs.Read.{IsReadOf}
use Rattle.till_book.specs.Register.{IsHeld}
use Rattle.till_book.specs.declared.rents.HeldRental.{HeldRental}
use Rattle.till_book.specs.Journal.{Journal, StandsFor, Holds, waiting, settled_of, IsUnsettled, with_entry, with_reply, with_settled}

-- The tables hold the journal, all of it is committed, and a crash leaves it. If the store has shut the connection, only the last is claimed.
pub record Rests (s : State) (journal : Journal) : Type 0 where
  pub now : IsTrue s.is_open → Holds s journal
  pub committed : IsTrue s.is_open → s.committed ≡ s.now
  pub left : (db : Trees) → s.may_leave db → StandsFor db journal

-- the book stays
abbrev pub Stays : State → State → Type 0
Stays old new = (journal : Journal) → Rests old journal → Rests new journal

-- `Says` holds for the book's journal, and the book stays
abbrev pub FindsAtRest : (Journal → Type 0) → State → State → Type 0
FindsAtRest Says old new = (journal : Journal) → Rests old journal → Rests new journal × Says journal

-- If this is given of the journal, the book rests with the changed journal.
abbrev pub Comes : (Journal → Type 0) → (Journal → Journal) → State → State → Type 0
Comes Given change old new = (journal : Journal) → Rests old journal → Given journal → Rests new (change journal)

-- what the commit of a change may leave on the disk
abbrev pub LeavesChanged : (Journal → Type 0) → (Journal → Journal) → State → Trees → Type 0
LeavesChanged Given change old db = (journal : Journal) → Rests old journal → Given journal → StandsFor db (change journal)

abbrev pub IsNext : ℕ → Journal → Type 0
IsNext n journal = n ≡ length journal.entries + 1

abbrev pub IsNextReply : ℕ → Journal → Type 0
IsNextReply n journal = n ≡ length journal.replies + 1

-- the request is the last, on the disk too
abbrev pub IsEntered : ℕ → List ℕ → State → State → Type 0
IsEntered n request = Comes (IsNext n) (with_entry request)

abbrev pub LeavesEntered : ℕ → List ℕ → State → Trees → Type 0
LeavesEntered n request = LeavesChanged (IsNext n) (with_entry request)

-- the reply is recorded for the oldest request without one, on the disk too
abbrev pub IsRecorded : ℕ → ℕ → List ℕ → State → State → Type 0
IsRecorded n status body = Comes (IsNextReply n) (with_reply (record { status = status; body = body }))

abbrev pub LeavesRecorded : ℕ → ℕ → List ℕ → State → Trees → Type 0
LeavesRecorded n status body = LeavesChanged (IsNextReply n) (with_reply (record { status = status; body = body }))

-- the settlement is in the book, on the disk too; the entry had none before
abbrev pub IsNoted : ℕ → ℕ → List ℕ → State → State → Type 0
IsNoted n status body = Comes (IsUnsettled n) (with_settled n (record { status = status; body = body }))

abbrev pub LeavesNoted : ℕ → ℕ → List ℕ → State → Trees → Type 0
LeavesNoted n status body = LeavesChanged (IsUnsettled n) (with_settled n (record { status = status; body = body }))

-- the request of that number, if there is one; the book stays
abbrev pub FindsNumbered : ℕ → Option (List ℕ) → State → State → Type 0
FindsNumbered n it old new = (journal : Journal) → Rests old journal → Rests new journal × ((i : ℕ) → n ≡ i + 1 → it ≡ slice_get journal.entries i)

-- the oldest request without a reply, if the number is the next reply's; the book stays
abbrev pub FindsWaiting : ℕ → Option (List ℕ) → State → State → Type 0
FindsWaiting n it old new = (journal : Journal) → Rests old journal → IsNextReply n journal → Rests new journal × (it ≡ waiting journal)

-- the reply that settled the entry of that number, if one is recorded; the book stays
abbrev pub FindsSettled : ℕ → Option BookReply → State → State → Type 0
FindsSettled n it old new =
    (journal : Journal) → Rests old journal → Rests new journal × (option_to_list (option_map seen_reply it) ≡ settled_of n journal.settled)

-- these rows are the whole book; the book stays
abbrev pub ReadsBook : BookRows → State → State → Type 0
ReadsBook rows old new = (journal : Journal) → Rests old journal → Rests new journal × IsReadOf rows journal

-- the copy's rental is that of the journal; the book stays
abbrev pub FindsHeld : ℕ → Option HeldRental → State → State → Type 0
FindsHeld copy it = FindsAtRest (IsHeld copy it)
