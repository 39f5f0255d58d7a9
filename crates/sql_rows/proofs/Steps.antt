-- What one text makes of the books: an INSERT of a row and an UPDATE of at most one, and what a SELECT shows.
use Rattle.sql_rows.proofs.Common.{⊤, filter_same, ◌≡◌, ◌≤◌, ◌/◌, ℕ, suc, List, [], ◌∷◌, ◌++◌, map, filter, drop, length, slice_get, true, Bool, cond, Some, Ok}
use Rattle.sql_rows.proofs.Common.{sym, ap, subst, IsPermutation, list_all, IsPermutation-sym, Value, Null, Int, Row, column, ascending, Key, Binary, Trees}
use Rattle.sql_rows.proofs.Common.{rowid, Enforced, Term, col, eval_all, holds, Query, Output, output, overlay, cast, cast_all, cast_row, Schema, Table, Values}
use Rattle.sql_rows.proofs.Common.{Insert, Update, value_rows, State, ExecutesInside, update_where, sort_by, Means, HasRows, SameBut, columns_of, by, Differ}
use Rattle.sql_rows.proofs.Common.{PicksOne, number_value, IsOf, IsKeyed, Changes}
use Rattle.sqlite_schema.specs.declared.schema.Kind.TheVariants as kind
use Rattle.sqlite.specs.State.{Shown}
use Rattle.sql_rows.proofs.Appends.{id_of, are_kept}
use Rattle.sql_rows.proofs.Keyed.{keyed_at, applies_keyed}
use Rattle.sql_rows.proofs.Puts.{IsPlainTable, Puts, inserts}
use Rattle.sql_rows.proofs.Fills.{puts_values}
use Rattle.sql_rows.proofs.Queries.{Selects, plain_query, answers, reads_bag}
use Rattle.sql_rows.proofs.Bags.{short_bag, length-map}
use Rattle.sql_rows.proofs.Alters.{are_idle, updates}
use Rattle.sql_rows.proofs.Picked.{rows_set}
use Rattle.sql_rows.proofs.Projects.{projects_sorted}
use Rattle.sqlite_keyed.proofs.ListLemmas.{all_of}

-- ---- INSERT of one row

-- the row was put, and nothing else is changed
pub record HasPut (schema : Schema) (table : Table) (width : ℕ) (values : Row) (old new : State) : Type 0 where
  pub schema_is : IsOf schema new
  pub keyed : IsKeyed schema old → IsKeyed schema new
  pub others : SameBut schema table.tree old.now.trees new.now.trees
  pub rows : (rows : List Row) → HasRows width (old.now.trees table.tree) rows → HasRows width (new.now.trees table.tree) (rows ++ values ∷ [])

-- each premise is `refl` where the schema, the text and the table are known
pub has_put : (schema : Schema) (sql : List ℕ) (at : ℕ) (table : Table) (terms : List Term) (width : ℕ)
    → Means schema sql (Insert at (Values terms (suc width))) → IsPlainTable schema at table
    → (params values : Row) (old new : State) (count : ℕ) → ExecutesInside 0 sql params old new (Ok count)
    → value_rows params (suc width) (length terms / suc width) terms ≡ eval_all terms (params ∷ []) ∷ [] → eval_all terms (params ∷ []) ≡ Null ∷ values
    → are_kept table.columns values ≡ true → ((id : Value) → columns_of width (id ∷ values) ≡ values)
    → IsOf schema old → HasPut schema table width values old new
has_put schema sql at table terms width means plain params values old new count h one is kept columns has =
    let done =
    subst (λ (row : Row). Puts schema table row old new) is (inserts schema sql params old new has at table terms (suc width) means plain count h.0 one) in
    record {
      schema_is = done.schema_is;
      keyed = applies_keyed schema Enforced old.now.trees new.now.trees _ at plain.place done.applies;
      others = done.applies.tables;
      rows = λ rows had. puts_values schema table values old new width rows done kept columns had;
    }

-- ---- SELECT

-- `seen` is the filter, written over the columns; `tests_are` says that of a value's columns it is `p`
module _ {X : Type 0} (schema : Schema) (sql : List ℕ) (tree width : ℕ) (tests shown : List Term)
    (order : List (Term × Key)) (means : Selects schema sql (plain_query tree tests shown order))
    (params : Row) (old new : State) (rows : List Row) (has : IsOf schema old) (h : Shown sql params old new rows)
    (columns : X → Row) (xs : List X) (s : HasRows width (old.now.trees tree) (map columns xs)) (low : overlay old.now.trees [] tree ≡ old.now.trees tree)
    (seen : Row → Bool) (p : X → Bool) (tests_are : (x : X) → seen (columns x) ≡ p x) where
  abbrev q : Query
  q = plain_query tree tests shown order

  abbrev pub shows_row : Row → List Output
  shows_row r = cond (list_all (holds (params ∷ r ∷ [])) tests) (output q (params ∷ r ∷ []) ∷ []) []

  -- with no ORDER the rows come in any order
  pub selects_bag : ((r : Row) → shows_row r ≡ cond (seen (columns_of width r)) (([], columns_of width r) ∷ []) [])
      → IsPermutation (map columns (filter p xs)) rows
  selects_bag only =
      reads_bag tree tests shown order params old.now.trees columns xs (columns_of width) s low
      (λ vs. cond (seen vs) (([], vs) ∷ []) []) only p (λ x. ([], columns x))
      (λ x. ap (λ b. cond b (([], columns x) ∷ []) []) (tests_are x)) rows (answers schema sql q params old new has means rows h)

  -- a row by its key
  pub selects_one : ((r : Row) → shows_row r ≡ cond (seen (columns_of width r)) (([], columns_of width r) ∷ []) [])
      → PicksOne p xs → rows ≡ map columns (filter p xs)
  selects_one only few = short_bag rows _ (IsPermutation-sym _ _ (selects_bag only)) (subst (λ (n : ℕ). n ≤ 1) (sym (length-map {A = X} columns _)) few)

-- in the order of the number in one column
module _ {X : Type 0} (schema : Schema) (sql : List ℕ) (tree width : ℕ) (tests shown : List Term) (place : ℕ)
    (means : Selects schema sql (plain_query tree tests shown ((col 1 (suc place), ascending Binary) ∷ [])))
    (params : Row) (old new : State) (rows : List Row) (has : IsOf schema old) (h : Shown sql params old new rows)
    (columns : X → Row) (xs : List X) (s : HasRows width (old.now.trees tree) (map columns xs)) (low : overlay old.now.trees [] tree ≡ old.now.trees tree)
    (seen : Row → Bool) (p : X → Bool) (tests_are : (x : X) → seen (columns x) ≡ p x) where
  abbrev sorted : Query
  sorted = plain_query tree tests shown ((col 1 (suc place), ascending Binary) ∷ [])

  pub selects_sorted :
      ((r : Row)
      → cond (list_all (holds (params ∷ r ∷ [])) tests) (output sorted (params ∷ r ∷ []) ∷ []) []
      ≡ cond (seen (columns_of width r)) ((column (columns_of width r) place ∷ [], columns_of width r) ∷ []) [])
      → (number : X → ℕ) → ((x : X) → column (columns x) place ≡ number_value (number x))
      → Differ number (filter p xs) → rows ≡ map columns (sort_by (by number) (filter p xs))
  selects_sorted only number numbers apart =
      projects_sorted schema sql tree width tests shown place means params old new rows has h columns xs s low seen
      (λ vs. vs) p tests_are only number numbers apart

-- ---- UPDATE of at most one row

module _ {B X : Type 0} (schema : Schema) (Stands : Trees → B → Type 0) (sql : List ℕ)
    (at : ℕ) (table : Table) (width : ℕ) (tests shown : List Term) (params : Row)
    (columns : X → Row) (seen : Row → Bool) (p : X → Bool) (set : Row → Row) (g : X → X)
    (tests_are : (x : X) → seen (columns x) ≡ p x) (sets_are : (x : X) → set (columns x) ≡ columns (g x))
    (kept : (x : X) → are_kept table.columns (set (columns x)) ≡ true)
    (old new : State) (has : IsOf schema old) where
  abbrev row_set : Row → Row
  row_set r = Int (id_of r) ∷ set (columns_of width r)

  -- what the text does to the table's rows, where they are keyed
  abbrev pub SetsRows : Type 0
  SetsRows =
      (xs : List X) → HasRows width (old.now.trees table.tree) (map columns xs) → PicksOne p xs
      → HasRows width (new.now.trees table.tree) (map columns (update_where p g xs))

  -- The last premises but `put` are `refl`.
  pub sets_row : Means schema sql (Update at (record { lets = []; body = plain_query table.tree tests shown [] }))
      → slice_get schema.tables at ≡ Some table → are_idle schema ≡ true
      → (count : ℕ) → ExecutesInside 0 sql params old new (Ok count) → overlay old.now.trees [] table.tree ≡ old.now.trees table.tree
      → ((r : Row) → list_all (holds (params ∷ r ∷ [])) tests ≡ seen (columns_of width r))
      → ((r : Row) → drop 1 (eval_all shown (params ∷ r ∷ [])) ≡ rowid r ∷ set (columns_of width r))
      → ((r : Row) → id_of (eval_all shown (params ∷ r ∷ [])) ≡ id_of r) → ((r : Row) → columns_of width (row_set r) ≡ set (columns_of width r))
      → ((v : Value) (vs : Row) → cast_row table (v ∷ vs) ≡ cast kind.Integer v ∷ cast_all table.columns vs)
      → (Given : B → Type 0) (change : B → B)
      → ((books : B) → SameBut schema table.tree old.now.trees new.now.trees → Stands old.now.trees books
      → Given books → SetsRows → Stands new.now.trees (change books))
      → Changes schema Stands old new Given change
  sets_row means place idle count h low sees sets_shown id_shown wide casts Given change put =
      let m = updates schema sql params old new has at table (plain_query table.tree tests shown []) place idle means count h.0 in
      record {
        schema_is = m.done.schema_is;
        keyed = applies_keyed schema Enforced old.now.trees new.now.trees _ at place m.done.applies;
        books = λ keyed books s given. put books m.done.applies.tables s given (λ xs had few.
            rows_set schema table width tests shown params columns seen p set g (λ _. ⊤) tests_are
            (λ x _. sets_are x) (λ x _. kept x) old new m low sets_shown id_shown wide casts
            (keyed_at schema old.now.trees at table place keyed)
            (filter_same _ (λ r. seen (columns_of width r)) sees (old.now.trees table.tree)) xs had (all_of (λ _. ⊤) (λ _. tt) xs) few);
        shows = h.1;
      }
