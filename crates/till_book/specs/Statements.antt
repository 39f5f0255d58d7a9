-- What one statement does to one table of the book; the others stay.
use Rattle.std.specs.Prelude.{◌≡◌, ◌==◌, ℕ, List, [], ◌∷◌, ◌++◌, map}
use Rattle.sqlite.specs.Table.{Table}
use Rattle.sqlite_value.specs.Order as sql
use Rattle.sqlite.specs.State.{State}
use Rattle.sqlite_keyed.specs.Lists.{delete_where}
use Rattle.sql_rows.specs.Books.{IsOf, IsKeyed}
use Rattle.sql_rows.specs.Rows.{HasRows, SameBut, PicksOne}
use Rattle.till_book.specs.Tables.{book_schema, unsure_table}
use Rattle.till_book.specs.Journal.{unsure_columns, rented_columns, returned_columns}
use Rattle.till_book.specs.Marks.{Rented, Returned}
use Rattle.till_book.specs.declared.marks.EntryMark.{EntryMark}
use Rattle.till_book.specs.declared.marks.EntryMark.TheVariants as mark

-- one row more in that table
pub record HasAdded (table : Table) (width : ℕ) (row : sql.Row) (old new : State) : Type 0 where
  pub schema_is : IsOf book_schema new
  pub keyed : IsKeyed book_schema old → IsKeyed book_schema new
  pub others : SameBut book_schema table.tree old.now.trees new.now.trees
  pub rows : (rows : List sql.Row) → HasRows width (old.now.trees table.tree) rows → HasRows width (new.now.trees table.tree) (rows ++ row ∷ [])

abbrev pub Adds : Table → ℕ → sql.Row → State → State → Type 0
Adds table width row old new = IsOf book_schema old → HasAdded table width row old new

-- that number is no longer among the unsure entries
pub record HasDropped (n : ℕ) (old new : State) : Type 0 where
  pub schema_is : IsOf book_schema new
  pub keyed : IsKeyed book_schema old → IsKeyed book_schema new
  pub others : SameBut book_schema 6 old.now.trees new.now.trees
  pub rows : IsKeyed book_schema old → (numbers : List ℕ) → HasRows 1 (old.now.trees 6) (map unsure_columns numbers) → PicksOne (λ (m : ℕ). m == n) numbers
      → HasRows 1 (new.now.trees 6) (map unsure_columns (delete_where (λ (m : ℕ). m == n) numbers))

abbrev pub DropsUnsure : ℕ → State → State → Type 0
DropsUnsure n old new = IsOf book_schema old → HasDropped n old new

-- ---- what a reply means to the tables beside the journal

abbrev pub rents_marked : ℕ → EntryMark → List Rented
rents_marked n (mark.Rent copy rental customer) = record { copy = copy; number = n; rental = rental; customer = customer } ∷ []
rents_marked n it = []

abbrev pub returns_marked : ℕ → EntryMark → List Returned
returns_marked n (mark.Return rental) = record { rental = rental; number = n } ∷ []
returns_marked n it = []

abbrev pub unsure_marked : ℕ → EntryMark → List ℕ
unsure_marked n mark.Unsure = n ∷ []
unsure_marked n it = []

-- the mark's rows are added to the tables beside the journal, and the journal's tables stay
pub record HasMarked (n : ℕ) (it : EntryMark) (old new : State) : Type 0 where
  pub schema_is : IsOf book_schema new
  pub keyed : IsKeyed book_schema old → IsKeyed book_schema new
  pub entries : new.now.trees 0 ≡ old.now.trees 0
  pub replies : new.now.trees 2 ≡ old.now.trees 2
  pub settled : new.now.trees 4 ≡ old.now.trees 4
  pub unsure : (rows : List sql.Row) → HasRows 1 (old.now.trees 6) rows → HasRows 1 (new.now.trees 6) (rows ++ map unsure_columns (unsure_marked n it))
  pub rented : (rows : List sql.Row) → HasRows 4 (old.now.trees 8) rows → HasRows 4 (new.now.trees 8) (rows ++ map rented_columns (rents_marked n it))
  pub returned : (rows : List sql.Row) → HasRows 2 (old.now.trees 10) rows → HasRows 2 (new.now.trees 10) (rows ++ map returned_columns (returns_marked n it))

abbrev pub Marks : ℕ → EntryMark → State → State → Type 0
Marks n it old new = IsOf book_schema old → HasMarked n it old new
