-- An UPDATE of at most one row with RETURNING: what it sets, and what it shows of the row that it set.
use Rattle.sql_rows.proofs.Common.{filter_same, ◌≡◌, ◌/◌, ℕ, List, [], ◌∷◌, ◌++◌, map, filter, drop, length, slice_get, true, Bool, Some, AllByRecursion}
use Rattle.sql_rows.proofs.Common.{list_all, Value, Null, Int, Row, rowid, Enforced, Returning, Term, eval_all, holds, overlay, cast, cast_all, cast_row}
use Rattle.sql_rows.proofs.Common.{Schema, Table, Values, Update, value_rows, State, update_where, HasRows, SameBut, columns_of, PicksOne, IsOf, IsKeyed}
use Rattle.sqlite_schema.specs.declared.schema.Kind.TheVariants as kind
use Rattle.sqlite.specs.Rows.{shown as row_shown}
use Rattle.sqlite.specs.State.{Shown}
use Rattle.sql_rows.proofs.Appends.{id_of, are_kept}
use Rattle.sql_rows.proofs.Keyed.{keyed_at, applies_keyed}
use Rattle.sql_rows.proofs.Queries.{plain_query}
use Rattle.sql_rows.proofs.Alters.{are_idle}
use Rattle.sql_rows.proofs.Showing.{MeansShowing, acts_showing, set_showing}
use Rattle.sql_rows.proofs.Picked.{rows_set, rows_told}

-- what it does to the rows of its table, and to the others
pub record SetsAndTells (schema : Schema) (tree : ℕ) (old new : State) (Rows : Type 0) : Type 0 where
  pub schema_is : IsOf schema new
  pub keyed : IsKeyed schema old → IsKeyed schema new
  pub others : SameBut schema tree old.now.trees new.now.trees
  pub rows : IsKeyed schema old → Rows

-- `seen` is the filter, `set` what is set and `told` what is shown of a row that was found, each written over the columns. What is set may be a sum, which is a
-- number only of values that fit.
module _ {X : Type 0} (schema : Schema) (sql : List ℕ) (at : ℕ) (table : Table) (width : ℕ) (tests shown terms : List Term) (params : Row)
    (columns : X → Row) (seen : Row → Bool) (p : X → Bool) (set : Row → Row) (g : X → X) (told : Row → Row) (IsFit : X → Type 0)
    (tests_are : (x : X) → seen (columns x) ≡ p x) (sets_are : (x : X) → IsFit x → set (columns x) ≡ columns (g x))
    (kept : (x : X) → IsFit x → are_kept table.columns (set (columns x)) ≡ true)
    (old new : State) (has : IsOf schema old) where
  abbrev row_set : Row → Row
  row_set r = Int (id_of r) ∷ set (columns_of width r)

  -- what the text does to the table's rows, and shows, where they are keyed
  abbrev pub TellsRows : List Row → Type 0
  TellsRows rows = (xs : List X) → HasRows width (old.now.trees table.tree) (map columns xs) → AllByRecursion IsFit xs → PicksOne p xs
      → HasRows width (new.now.trees table.tree) (map columns (update_where p g xs)) × (rows ≡ map (λ x. told (columns x)) (filter p xs))

  -- The premises but the first four are `refl`.
  pub sets_and_tells : MeansShowing schema sql (Update at (record { lets = []; body = plain_query table.tree tests shown [] })) terms
      → slice_get schema.tables at ≡ Some table → are_idle schema ≡ true
      → (rows : List Row) → Shown sql params old new rows → overlay old.now.trees [] table.tree ≡ old.now.trees table.tree
      → ((r : Row) → list_all (holds (params ∷ r ∷ [])) tests ≡ seen (columns_of width r))
      → ((r : Row) → drop 1 (eval_all shown (params ∷ r ∷ [])) ≡ rowid r ∷ set (columns_of width r))
      → ((r : Row) → id_of (eval_all shown (params ∷ r ∷ [])) ≡ id_of r) → ((r : Row) → columns_of width (row_set r) ≡ set (columns_of width r))
      → ((v : Value) (vs : Row) → cast_row table (v ∷ vs) ≡ cast kind.Integer v ∷ cast_all table.columns vs)
      → ((r : Row)
      → value_rows (params ++ Null ∷ row_shown table (row_set r)) (length terms) (length terms / length terms) terms ≡ told (columns_of width r) ∷ [])
      → SetsAndTells schema table.tree old new (TellsRows rows)
  sets_and_tells means place idle rows h low sees sets_shown id_shown wide casts tells =
      let q = plain_query table.tree tests shown [] in
      let what : Returning = record { names = means.names; row = Values terms (length terms) } in
      let done =
      acts_showing schema sql params old new has (Update at (record { lets = []; body = q })) terms means table (λ text out on. rw place at on) rows h in
      let it = set_showing schema params old new table what q params done.0 idle done.1 done.2 done.3 rows done.4 in
      record {
        schema_is = it.0.done.schema_is;
        keyed = applies_keyed schema Enforced old.now.trees new.now.trees _ at place it.0.done.applies;
        others = it.0.done.applies.tables;
        rows = λ keyed xs s all few.
            let shaped = keyed_at schema old.now.trees at table place keyed in
            let picks = filter_same _ (λ r. seen (columns_of width r)) sees (old.now.trees table.tree) in (
              rows_set schema table width tests shown params columns seen p set g IsFit tests_are
                  sets_are kept old new it.0 low sets_shown id_shown wide casts shaped picks xs s all few,
              rows_told schema table width tests shown params columns seen p set g IsFit tests_are
                  sets_are kept old new it.0 low sets_shown id_shown wide casts shaped picks xs s all few
                  params means.names terms told rows tells it.1,
            );
      }
