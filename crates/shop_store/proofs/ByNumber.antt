-- A table of shared rows, each with its number, which is its place in a list of the books.
use Rattle.shop_schema.proofs.Common.{◌≡◌, ℕ, List, map, length, refl, column, Trees, Table, HasRows, SameBut, number_value, IsPlainTable, numbered, City}
use Rattle.shop_schema.proofs.Common.{Actor, Film, Branch, Staff, Books, shop_schema, branch_table, branch_columns, Counts, StandsWith}
use Rattle.sqlite_value.specs.Order as sql
use Rattle.shop_model.specs.Values as model
use Rattle.shop_schema.proofs.Stands.{stands_but}
use Rattle.shop_schema.proofs.Listed as listed
use Rattle.shop_schema.proofs.Listed.{Part, Shared}
use Rattle.shop_schema.proofs.SharedTables as shared

-- A branch's row has its last moment too, so the columns depend on the books.
pub record ByNumber (A : Type 0) : Type 0 where
  pub place : ℕ
  pub table : Table
  pub part : Part A
  pub columns : Books → ℕ × A → sql.Row
  pub plain : IsPlainTable shop_schema place table
  pub numbers : (books : Books) (it : ℕ × A) → column (columns books it) 0 ≡ number_value it.0
  pub stood : (counts : Counts) (books : Books) (trees : Trees) → StandsWith counts trees books
      → HasRows (length table.columns) (trees table.tree) (map (columns books) (numbered (part.items books)))
  pub changed : (counts : Counts) (books : Books) (xs : List A) (old new : Trees) → SameBut shop_schema table.tree old new → StandsWith counts old books
      → HasRows (length table.columns) (new table.tree) (map (columns books) (numbered xs)) → StandsWith counts new (part.filled xs books)

-- `numbers` is `refl` if the table is known
abbrev pub by_number : {A : Type 0} (t : Shared A) → ((it : ℕ × A) → column (t.columns it) 0 ≡ number_value it.0) → ByNumber A
by_number t numbers = record {
  place = t.place;
  table = t.table;
  part = t.part;
  columns = λ books. t.columns;
  plain = t.plain;
  numbers = λ books. numbers;
  stood = listed.stood t;
  changed = listed.changed t;
}

abbrev pub countries : ByNumber model.Text
countries = by_number shared.countries (λ it. refl)

abbrev pub languages : ByNumber model.Text
languages = by_number shared.languages (λ it. refl)

abbrev pub categories : ByNumber model.Text
categories = by_number shared.categories (λ it. refl)

abbrev pub cities : ByNumber City
cities = by_number shared.cities (λ it. refl)

abbrev pub actors : ByNumber Actor
actors = by_number shared.actors (λ it. refl)

abbrev pub films : ByNumber Film
films = by_number shared.films (λ it. refl)

abbrev pub staff : ByNumber Staff
staff = by_number shared.staff (λ it. refl)

abbrev pub branches : ByNumber Branch
branches = record {
  place = 8;
  table = branch_table;
  part = shared.branches;
  columns = λ books. branch_columns books.lasts;
  plain = record { place = refl; uncounted = refl; unstamped = refl };
  numbers = λ books it. refl;
  stood = λ counts books trees s. s.branches;
  changed = λ counts books xs old new same s has.
      stands_but 8 branch_table refl refl counts counts books (shared.branches.filled xs books)
      (map (branch_columns books.lasts) (numbered xs)) refl old new same s has;
}
