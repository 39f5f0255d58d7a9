-- What an UPDATE or a DELETE of the rows that a query finds does, in any schema whose foreign keys have no action.
use Rattle.sql_rows.proofs.Common.{◌≡◌, ◌&&◌, ◌≤◌, ◌==◌, ℕ, List, [], ◌∷◌, map, filter, drop, length, slice_get, true, false, Bool, Some, None, Ok, refl, sym}
use Rattle.sql_rows.proofs.Common.{ap, subst, ◌∙◌, cond, arith, IsTrue, IsPermutation-refl, IsPermutation-sym, flat_map, filter_map, list_all, and_parts, Null}
use Rattle.sql_rows.proofs.Common.{Row, Trees, rowid, put_row, without_rowid, IsShaped, is_int, Term, eval_all, holds, Query, IsAnswer, output, overlay, Schema}
use Rattle.sql_rows.proofs.Common.{Table, Program, Enforced, Update, Delete, Given, Edit, edit_of, edited, taken_by, cast_row, ids_of, Answers, Task, Written}
use Rattle.sql_rows.proofs.Common.{Edited, State, Executes, statement_of, runs_as, update_where, delete_where}
use Rattle.sqlite_trees.specs.declared.store.Shape.TheVariants.{Table as TableShape}
use Rattle.sqlite_schema.specs.declared.schema.Action.{Action}
use Rattle.sqlite_schema.specs.declared.schema.Action.TheVariants.{NoAction, Restrict, Cascade, SetNull, SetDefault}
use Rattle.sqlite_schema.specs.declared.schema.Reference.{Reference}
use Rattle.sqlite_rules.specs.Action.{works, work_for, deed_for}
use Rattle.sqlite.specs.Listing.{understood}
use Rattle.sqlite.specs.Rows.{Gives, Queried, Then}
use Rattle.sql_rows.proofs.Puts.{Means, Changed, went, same_value, task_of, acts, changed}
use Rattle.sql_rows.proofs.Queries.{plain_query, reads_bag}
use Rattle.sql_rows.proofs.Appends.{id_of, ids_rise}
use Rattle.sql_rows.proofs.Bags.{short_bag, length-map}
use Rattle.sql_rows.proofs.Sets.{sets_one, unpicked, none_dropped, drop_one}

-- ---- foreign keys with no action

abbrev pub is_still : Action → Bool
is_still NoAction = true
is_still Restrict = false
is_still Cascade = false
is_still SetNull = false
is_still SetDefault = false

abbrev pub is_idle : Reference → Bool
is_idle ref = is_still ref.on_delete && is_still ref.on_update

abbrev pub are_idle : Schema → Bool
are_idle schema = list_all (λ t. list_all is_idle t.references) schema.tables

still_is : (a : Action) → is_still a ≡ true → a ≡ NoAction
still_is NoAction h = refl
still_is Restrict h = cc
still_is Cascade h = cc
still_is SetNull h = cc
still_is SetDefault h = cc

no_deed : (deletes : Bool) (ref : Reference) → is_idle ref ≡ true → deed_for Enforced deletes ref ≡ None
no_deed true ref h = rw (still_is ref.on_delete (and_parts (is_still ref.on_delete) (is_still ref.on_update) h).0)
no_deed false ref h = rw (still_is ref.on_update (and_parts (is_still ref.on_delete) (is_still ref.on_update) h).1)

pub idle_works : (schema : Schema) (depth tree : ℕ) (olds news : List Row) → are_idle schema ≡ true → works schema Enforced depth tree olds news ≡ []
idle_works schema depth tree olds news idle = go schema.tables idle
  where
    each : (child : Table) (refs : List Reference) → list_all is_idle refs ≡ true → filter_map (work_for schema Enforced depth tree olds news child) refs ≡ []
    each child [] h = refl
    each child (ref ∷ refs) h = let k = and_parts (is_idle ref) (list_all is_idle refs) h in rw (no_deed (length news == 0) ref k.0) (each child refs k.1)

    go : (tables : List Table) → list_all (λ t. list_all is_idle t.references) tables ≡ true
        → flat_map (λ child. filter_map (work_for schema Enforced depth tree olds news child) child.references) tables ≡ []
    go [] h = refl
    go (t ∷ ts) h =
        let k = and_parts (list_all is_idle t.references) (list_all (λ t. list_all is_idle t.references) ts) h in rw (each t t.references k.0) (go ts k.1)

-- ---- the statement

-- the rows that were found are taken out, and what was read of them is put in
abbrev pub sets_of : Trees → Table → List Row → Edit
sets_of db table rows = edit_of db table (ids_of rows) Given 1 rows

-- they are taken out
abbrev pub drops_of : Trees → Table → List Row → Edit
drops_of db table rows = edit_of db table (ids_of rows) Given 0 []

-- what the query found, and what was made of it
pub record Moves (schema : Schema) (edit : List Row → Edit) (q : Query) (params : Row) (old new : State) : Type 0 where
  pub rows : List Row
  pub answer : IsAnswer q (overlay old.now.trees []) params rows
  pub done : Changed schema (edit rows) old new

module _ (task : Task) (q : Program) (given : Row) (db : Trees) (edit : List Row → Edit) (news : List Row → List Row) (w : Written) where
  pub edits : Then (Queried task.limit (record { schema = task.schema; trees = db }) q given)
      (λ rows. Then (Edited task.schema task.keys db (edit rows)) (λ next. Gives (record { trees = next; rows = news rows; last = None }))) (Ok w)
      → (rows : List Row) × Answers (record { schema = task.schema; trees = db }) q given rows
      × Edited task.schema task.keys db (edit rows) (Ok w.trees) × (w.rows ≡ news rows)
  edits h =
      let found = went h in
      let edited = went found.2 in
      let is = same_value edited.2 in (
        found.0,
        found.1,
        subst (λ (t : Trees). Edited task.schema task.keys db (edit found.0) (Ok t)) (sym (ap (λ (it : Written). it.trees) is)) edited.1,
        ap (λ (it : Written). it.rows) is,
      )

module _ (schema : Schema) (sql : List ℕ) (params : Row) (old new : State) (has : old.now.schema ≡ schema)
    (at : ℕ) (table : Table) (q : Query) (place : slice_get schema.tables at ≡ Some table)
    (idle : are_idle schema ≡ true) where
  abbrev program : Program
  program = record { lets = []; body = q }

  pub updates : Means schema sql (Update at program) → (count : ℕ) → Executes sql params old new (Ok count)
      → Moves schema (sets_of old.now.trees table) q params old new
  updates means count h =
      let w = runs_as sql params old new schema has (Update at program) means.is means.plain count h in
      let made = acts schema params old new has table (Update at program) (statement_of sql (understood schema sql)) count w (λ text out on. rw place at on) in
      let edit = sets_of old.now.trees table in
      let it = edits (task_of schema params old table) program params old.now.trees edit (λ rows. (edit rows).news) made.0 made.1 in
      record { rows = it.0; answer = it.1.answer Null; done = changed (edit it.0) made.0.trees (idle_works schema 0 table.tree _ _ idle) it.2 made.2 w.shown }

  pub deletes : Means schema sql (Delete at program) → (count : ℕ) → Executes sql params old new (Ok count)
      → Moves schema (drops_of old.now.trees table) q params old new
  deletes means count h =
      let w = runs_as sql params old new schema has (Delete at program) means.is means.plain count h in
      let made = acts schema params old new has table (Delete at program) (statement_of sql (understood schema sql)) count w (λ text out on. rw place at on) in
      let edit = drops_of old.now.trees table in
      let it = edits (task_of schema params old table) program params old.now.trees edit (λ rows. taken_by old.now.trees (edit rows)) made.0 made.1 in
      record {
        rows = it.0;
        answer = it.1.answer Null;
        done = changed (edit it.0) made.0.trees (idle_works schema 0 table.tree (taken_by old.now.trees (edit it.0)) [] idle) it.2 made.2 w.shown;
      }

-- ---- the rows afterwards

-- `p` picks the rows that the query finds
module _ (schema : Schema) (table : Table) (tests shown : List Term) (params : Row)
    (old new : State) (low : overlay old.now.trees [] table.tree ≡ old.now.trees table.tree)
    (id_shown : (r : Row) → id_of (eval_all shown (params ∷ r ∷ [])) ≡ id_of r) (p : Row → Bool)
    (picks : filter (λ r. list_all (holds (params ∷ r ∷ [])) tests) (old.now.trees table.tree) ≡ filter p (old.now.trees table.tree)) where
  abbrev tree : List Row
  tree = old.now.trees table.tree

  abbrev q : Query
  q = plain_query table.tree tests shown []

  abbrev test : Row → Bool
  test r = list_all (holds (params ∷ r ∷ [])) tests

  abbrev pub row_shown : Row → Row
  row_shown r = eval_all shown (params ∷ r ∷ [])

  pub sources : (rows : List Row) → IsAnswer q (overlay old.now.trees []) params rows → length (filter p tree) ≤ 1 → rows ≡ map row_shown (filter p tree)
  sources rows answer few =
      let bag =
      reads_bag table.tree tests shown [] params old.now.trees (λ r. r) tree (λ r. r)
      (IsPermutation-refl _) low (λ r. cond (test r) (output q (params ∷ r ∷ []) ∷ []) []) (λ r. refl)
      test (λ r. output q (params ∷ r ∷ [])) (λ r. refl) rows answer in
      short_bag rows _ (IsPermutation-sym _ _ bag) (subst (λ (n : ℕ). n ≤ 1) (sym (length-map row_shown (filter test tree) ∙ ap length picks)) few)
      ∙ ap (map row_shown) picks

  module _ (f : Row → Row) (keeps : (r : Row) → id_of (f r) ≡ id_of r)
      (ints_stay : (r : Row) → IsTrue (is_int (rowid (f r)))) (shaped : IsShaped TableShape tree)
      (m : Moves schema (sets_of old.now.trees table) q params old new) where
    pub moved : length (filter p tree) ≤ 1 → ((x : Row) → filter p tree ≡ x ∷ [] → cast_row table (drop 1 (row_shown x)) ≡ f x)
        → new.now.trees table.tree ≡ update_where p f tree
    moved few casts =
        m.done.applies.rows ∙ ap (λ (rows : List Row). edited old.now.trees (sets_of old.now.trees table rows)) (sources m.rows m.answer few)
        ∙ go (filter p tree) refl few
      where
        go : (found : List Row) → filter p tree ≡ found → length found ≤ 1
            → edited old.now.trees (sets_of old.now.trees table (map row_shown found)) ≡ update_where p f tree
        go [] is short = sym (unpicked p f keeps ints_stay tree is)
        go (x ∷ []) is short = (λ i. put_row (casts x is i) (without_rowid (id_shown x i) tree)) ∙ sets_one p f keeps ints_stay tree x shaped is
        go (x ∷ y ∷ more) is short = absurd (omega arith)

  pub left : IsShaped TableShape tree → Moves schema (drops_of old.now.trees table) q params old new
      → length (filter p tree) ≤ 1 → new.now.trees table.tree ≡ delete_where p tree
  left shaped m few =
      m.done.applies.rows ∙ ap (λ (rows : List Row). edited old.now.trees (drops_of old.now.trees table rows)) (sources m.rows m.answer few)
      ∙ go (filter p tree) refl few
    where
      go : (found : List Row) → filter p tree ≡ found → length found ≤ 1
          → edited old.now.trees (drops_of old.now.trees table (map row_shown found)) ≡ delete_where p tree
      go [] is short = sym (none_dropped p tree is)
      go (x ∷ []) is short = (λ i. without_rowid (id_shown x i) tree) ∙ drop_one p tree x shaped.1 (ids_rise tree shaped) is
      go (x ∷ y ∷ more) is short = absurd (omega arith)
