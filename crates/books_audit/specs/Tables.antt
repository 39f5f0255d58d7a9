-- The rows of the tables, each table by its place, and what a statement returns that reads a whole table.
use Rattle.std.specs.Prelude.{◌≡◌, true, ℕ, List, [], ◌∷◌, length, map, IsPermutation, ◌+◌, get_or}
use Rattle.sqlite_trees.specs.Tree.{Trees}
use Rattle.sqlite_typing.specs.Types.{accepts_program}
use Rattle.sqlite.specs.Listing.{understood}
use Rattle.sqlite.specs.Table.{Table}
use Rattle.sql_rows.specs.Rows.{columns_of}
use Rattle.sql_rows.proofs.Queries.{Selects, plain_query}
use Rattle.sql_rows.proofs.QueryFaults.{IsOne}
use Rattle.shop_schema.specs.Shop.{shop_schema}
use Rattle.sql_rows.specs.Terms.{cols}
use Rattle.books_audit.specs.declared.tables.TableRows.{TableRows}
use Rattle.sqlite_value.specs.Order as sql

-- the rows of the table at the place; if there is no table at the place, there are none
abbrev pub rows_in : TableRows → ℕ → List sql.Row
rows_in tables place = get_or (map (λ rows. rows.items) tables.all.items) place []

-- the tables from the place on have these rows, in any order
abbrev pub HaveEach : TableRows → ℕ → List (List sql.Row) → Type 0
HaveEach tables place [] = Unit {0}
HaveEach tables place (rows ∷ more) = IsPermutation (rows_in tables place) rows × HaveEach tables (place + 1) more

-- the text selects all columns of the table
abbrev pub SelectsWhole : Table → List ℕ → Type 0
SelectsWhole t text = Selects shop_schema text (plain_query t.tree [] (cols 1 1 (length t.columns)) [])

-- the rows of the table, in any order
abbrev pub AreRowsOf : Table → Trees → List sql.Row → Type 0
AreRowsOf t trees rows = IsPermutation (map (columns_of (length t.columns)) (trees t.tree)) rows

-- a text for each table
abbrev pub SelectEach : List Table → List (List ℕ) → Type 0
SelectEach [] [] = Unit {0}
SelectEach [] (text ∷ texts) = ⊥
SelectEach (t ∷ ts) [] = ⊥
SelectEach (t ∷ ts) (text ∷ texts) = SelectsWhole t text × SelectEach ts texts

-- the text is one statement without parameters, which selects all columns of the table and is well typed
pub record ReadsWhole (t : Table) (text : List ℕ) : Type 0 where
  pub means : SelectsWhole t text
  pub one : IsOne (length text) 0 (understood shop_schema text)
  pub typed : accepts_program shop_schema [] (plain_query t.tree [] (cols 1 1 (length t.columns)) []) [] ≡ true

-- such a text for each table
abbrev pub ReadEach : List Table → List (List ℕ) → Type 0
ReadEach [] [] = Unit {0}
ReadEach [] (text ∷ texts) = ⊥
ReadEach (t ∷ ts) [] = ⊥
ReadEach (t ∷ ts) (text ∷ texts) = ReadsWhole t text × ReadEach ts texts
