-- What an INSERT of the rows that a query shows does, in any schema, and what one CREATE TABLE does among tables that have rows.
use Rattle.sql_rows.proofs.Common.{◌≡◌, ℕ, List, [], ◌∷◌, ◌++◌, map, append_assoc, append-nil, false, true, None, Ok, sym, ap, subst, ◌∙◌, if◌then◌else◌}
use Rattle.sql_rows.proofs.Common.{AllByRecursion, and_parts, Value, Null, Int, Row, put_row, Schema, Table, Enforced, Program, Insert, CreateTable, Chosen}
use Rattle.sql_rows.proofs.Common.{edit_of, Applies, next_rowid, with_rowid, numbered, are_fresh, put_all, cast, cast_row, created, next_tree, Database}
use Rattle.sql_rows.proofs.Common.{Answers, Tally, lacks_sequence, State, Shows, Writes, Executes, Means, Makes, runs_as, HasRows, columns_of}
use Rattle.sqlite_schema.specs.declared.schema.Kind.TheVariants as kind
use Rattle.sqlite.specs.Source.TheVariants.{Query}
use Rattle.sql_rows.proofs.Appends.{are_kept, cast_null, cast_all_kept}
use Rattle.sql_rows.proofs.Keyed.{put_last}
use Rattle.sql_rows.proofs.Puts.{IsPlainTable, Puts, went, same_value, puts_in}

-- ---- the rows of a query

pub record Fills (schema : Schema) (table : Table) (q : Program) (params : Row) (old new : State) : Type 0 where
  pub rows : List Row
  pub answer : Answers (record { schema = schema; trees = old.now.trees }) q params rows
  pub schema_is : new.now.schema ≡ schema
  pub applies : Applies schema Enforced old.now.trees (edit_of old.now.trees table [] Chosen 0 rows) new.now.trees
  pub shows : Shows old new new.now (if old.in_transaction then old.committed else new.now) old.in_transaction

module _ (schema : Schema) (sql : List ℕ) (params : Row) (old new : State) (has : old.now.schema ≡ schema) (at : ℕ) (table : Table) (q : Program)
    (means : Means schema sql (Insert at (Query q))) (plain : IsPlainTable schema at table) where
  pub fills : (count : ℕ) → Executes sql params old new (Ok count) → Fills schema table q params old new
  fills count h =
      let it = puts_in schema sql params old new has at table (Query q) means plain count h in
      record { rows = it.0; answer = it.1; schema_is = it.2.schema_is; applies = it.2.applies; shows = it.2.shows }

-- ---- what that makes of the table's rows

-- values that the columns take as they are
pub record Kept (table : Table) (width : ℕ) (values : Row) : Type 0 where
  pub kept : are_kept table.columns values ≡ true
  pub wide : (id : Value) → columns_of width (id ∷ values) ≡ values

pub numbered_row : (rows : List Row) (id : Value) (values : Row) → id ≡ Null → with_rowid Chosen rows (id ∷ values) ≡ Int (next_rowid rows) ∷ values
numbered_row rows id values none = rw none

abbrev sources : List Row → List Row
sources all = map (λ (values : Row). Null ∷ values) all

module _ (table : Table) (width : ℕ) where
  abbrev news : List Row → List Row → List Row
  news tree all = numbered Chosen tree (map (cast_row table) (sources all))

  put_bags : (all tree rows : List Row) → AllByRecursion (Kept table width) all → are_fresh tree (news tree all) ≡ true
      → HasRows width tree rows → HasRows width (put_all tree (news tree all)) (rows ++ all)
  put_bags [] tree rows kept fresh has = subst (HasRows width tree) (sym (append-nil rows)) has
  put_bags (values ∷ all) tree rows kept fresh has =
      let written : Row = Int (next_rowid tree) ∷ values in
      let row : with_rowid Chosen tree (cast_row table (Null ∷ values)) ≡ written =
      ap (λ (vs : Row). with_rowid Chosen tree (cast kind.Integer Null ∷ vs)) (cast_all_kept table.columns values kept.0.kept)
      ∙ numbered_row tree _ values cast_null in
      let P : Row → Type 0 = λ r. are_fresh tree (r ∷ numbered Chosen (put_row r tree) (map (cast_row table) (sources all))) ≡ true in
      let is_fresh : P written = subst P row fresh in
      let parts = and_parts _ (are_fresh (put_row written tree) (news (put_row written tree) all)) is_fresh in
      let now : HasRows width (put_row written tree) (rows ++ values ∷ []) =
      put_last width tree rows written values (rw parts.0) (kept.0.wide (Int (next_rowid tree))) has in
      let more = put_bags all (put_row written tree) (rows ++ values ∷ []) kept.1 parts.1 now in
      let Q : Row → Type 0 =
      λ r. HasRows width (put_all (put_row r tree) (numbered Chosen (put_row r tree) (map (cast_row table) (sources all)))) (rows ++ values ∷ all) in
      subst Q (sym row) (subst (HasRows width (put_all (put_row written tree) (news (put_row written tree) all))) (append_assoc rows (values ∷ []) all) more)

module _ (schema : Schema) (table : Table) (old new : State) (width : ℕ) (all rows : List Row) where
  -- the edit puts each row of values after a rowid that is to be chosen
  edit_values : Applies schema Enforced old.now.trees (edit_of old.now.trees table [] Chosen 0 (sources all)) new.now.trees
      → AllByRecursion (Kept table width) all → HasRows width (old.now.trees table.tree) rows
      → HasRows width (new.now.trees table.tree) (rows ++ all)
  edit_values applies kept has =
      subst (λ (es : List Row). HasRows width es (rows ++ all)) (sym applies.rows)
      (put_bags table width all (old.now.trees table.tree) rows kept applies.fresh has)

pub fills_values : (schema : Schema) (table : Table) (q : Program) (params : Row) (old new : State) (width : ℕ) (all rows : List Row)
    → (it : Fills schema table q params old new)
    → it.rows ≡ map (λ (values : Row). Null ∷ values) all → AllByRecursion (Kept table width) all
    → HasRows width (old.now.trees table.tree) rows → HasRows width (new.now.trees table.tree) (rows ++ all)
fills_values schema table q params old new width all rows it is =
    edit_values schema table old new width all rows
    (subst (λ (rs : List Row). Applies schema Enforced old.now.trees (edit_of old.now.trees table [] Chosen 0 rs) new.now.trees) is it.applies)

-- Nothing is asked of the rowids: the row that was written has one that no row had.
pub puts_values : (schema : Schema) (table : Table) (values : Row) (old new : State) (width : ℕ) (rows : List Row) → Puts schema table (Null ∷ values) old new
    → are_kept table.columns values ≡ true → ((id : Value) → columns_of width (id ∷ values) ≡ values)
    → HasRows width (old.now.trees table.tree) rows → HasRows width (new.now.trees table.tree) (rows ++ values ∷ [])
puts_values schema table values old new width rows put kept wide =
    edit_values schema table old new width (values ∷ []) rows put.applies (record { kept = kept; wide = wide }, tt)

-- ---- a new table beside others

pub record Adds (schema : Schema) (table : Table) (old new : State) : Type 0 where
  pub schema_is : new.now.schema ≡ created schema table
  pub others : AllByRecursion (λ t. new.now.trees t.tree ≡ old.now.trees t.tree) schema.tables
  pub empty : new.now.trees (next_tree schema) ≡ []

pub adds : (schema : Schema) (sql : List ℕ) (old new : State) (count : ℕ) (table : Table) → old.now.schema ≡ schema
    → Makes schema sql table → Executes sql [] old new (Ok count) → Adds schema table old new
adds schema sql old new count table has makes h =
    let w =
    subst (λ t. Writes old new None CreateTable t [] count) makes.whole
    (runs_as sql [] old new schema has CreateTable makes.means.is makes.means.plain count h) in
    let all = went w.changed in
    let first = went all.1 in
    let made = first.1 in
    let both : Ok made.table ≡ Ok table = sym made.defined ∙ makes.defined in
    let same : made.table ≡ table = cc in
    let is : first.0.schema ≡ created schema table = made.is ∙ ap (created old.now.schema) same ∙ ap (λ s. created s table) has in
    let plain : lacks_sequence first.0.schema ≡ false = ap lacks_sequence is ∙ makes.unsequenced in
    let now : new.now ≡ first.0 = ap (λ (p : Tally × Database). p.1) (same_value all.2) ∙ same_value (rw plain at first.2) in
    let old_tables : AllByRecursion (λ t. first.0.trees t.tree ≡ old.now.trees t.tree) schema.tables =
    subst (λ (s : Schema). AllByRecursion (λ t. first.0.trees t.tree ≡ old.now.trees t.tree) s.tables) has made.others in
    let new_table : first.0.trees (next_tree schema) ≡ [] = subst (λ (s : Schema). first.0.trees (next_tree s) ≡ []) has made.empty in
    record {
      schema_is = ap (λ (d : Database). d.schema) now ∙ is;
      others = subst (λ (d : Database). AllByRecursion (λ t. d.trees t.tree ≡ old.now.trees t.tree) schema.tables) (sym now) old_tables;
      empty = subst (λ (d : Database). d.trees (next_tree schema) ≡ []) (sym now) new_table;
    }
