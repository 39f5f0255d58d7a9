-- How a book that was made before it had tables beside the journal gets them.
use Rattle.std.specs.Prelude.{◌≡◌, [], ◌∷◌, codes}
use Rattle.sqlite_trees.specs.Tree.{Trees}
use Rattle.sqlite.specs.Schema.{Schema}
use Rattle.sqlite.specs.State.{State}
use Rattle.sql_rows.specs.Tables.{automatic_of}
use Rattle.sql_rows.specs.Books.{IsOf, IsKeyed}
use Rattle.sql_rows.specs.Calls as calls
use Rattle.till_book.specs.Tables.{book_schema, entry_table, reply_table, settled_table}
use Rattle.till_book.specs.Journal.{Journal, StandsFor, IsWritten, Holds}
use Rattle.till_book.specs.Steps.{Rests}

-- the journal's three tables, and no other
abbrev pub first_schema : Schema
first_schema = record {
  tables = entry_table ∷ reply_table ∷ settled_table ∷ [];
  indexes =
      automatic_of (codes "entry") (codes "1") 1 0 (1 ∷ []) ∷ automatic_of (codes "reply") (codes "1") 3 2 (1 ∷ [])
      ∷ automatic_of (codes "settled") (codes "1") 5 4 (1 ∷ []) ∷ [];
  views = [];
}

-- the state has these tables, and they are this journal
abbrev pub HoldsFirst : State → Journal → Type 0
HoldsFirst = calls.Holds first_schema IsWritten

-- the tables beside the journal are new and have no row, and the journal's are as they were
pub record HasTables (old new : State) : Type 0 where
  pub schema_is : IsOf book_schema new
  pub keyed : IsKeyed first_schema old → IsKeyed book_schema new
  pub entries : new.now.trees 0 ≡ old.now.trees 0
  pub replies : new.now.trees 2 ≡ old.now.trees 2
  pub settled : new.now.trees 4 ≡ old.now.trees 4
  pub unsure : new.now.trees 6 ≡ []
  pub rented : new.now.trees 8 ≡ []
  pub returned : new.now.trees 10 ≡ []

abbrev pub AddsTables : State → State → Type 0
AddsTables old new = IsOf first_schema old → HasTables old new

-- a book of the same journal
abbrev pub Fills : State → State → Type 0
Fills old new = (journal : Journal) → HoldsFirst old journal → Holds new journal

-- the book of the same journal rests, committed
abbrev pub IsFilled : State → State → Type 0
IsFilled old new = (journal : Journal) → HoldsFirst old journal → Rests new journal

-- what the commit may leave
abbrev pub LeavesFilled : State → Trees → Type 0
LeavesFilled old db = (journal : Journal) → HoldsFirst old journal → StandsFor db journal
