-- What a statement on the rows of one table does, and an INSERT of one row with values, in any schema.
use Rattle.sql_rows.proofs.Common.{◌≡◌, ◌/◌, ℕ, ℤ, List, [], ◌∷◌, length, slice_get, append-nil, false, Some, None, Option, Ok, Err, Result, ◌⊎◌, inl, inr, sym}
use Rattle.sql_rows.proofs.Common.{ap, subst, ◌∙◌, if◌then◌else◌, Row, Trees, Term, eval_all, Schema, Table, Enforced, Values, Command, Insert, Chosen, Edit}
use Rattle.sql_rows.proofs.Common.{edit_of, taken_by, Applies, Database, value_rows, Task, Written, Inserts, Edited, stamped, rowids_for, count_of, Counts}
use Rattle.sql_rows.proofs.Common.{Rowids, no_works, Tally, Does, OnRows, Concludes, Returning, State, mode_of, Shows, Writes, Executes, statement_of, runs_as}
use Rattle.sql_rows.proofs.Common.{one_step}
use Rattle.sqlite_schema.specs.declared.command.Source.{Source}
use Rattle.sqlite_rules.specs.Action.{works}
use Rattle.sqlite.specs.Does.{WritesRows}
use Rattle.sqlite.specs.Effect.{IsSource}
use Rattle.sqlite.specs.Listing.{understood}
use Rattle.sqlite.specs.Rows.{Outcome}
pub use Rattle.sql_rows.specs.Builds.{Means}

-- a table with no AUTOINCREMENT and no default that reads the time
pub record IsPlainTable (schema : Schema) (at : ℕ) (table : Table) : Type 0 where
  pub place : slice_get schema.tables at ≡ Some table
  pub uncounted : table.is_counted ≡ false
  pub unstamped : table.stamps.terms ≡ []

pub same_value : {B E : Type 0} {a b : B} → ◌≡◌ {A = Result B E} (Ok a) (Ok b) → a ≡ b
same_value e = cc

-- a part that gave a value did not stop on the way
pub went : {B E R : Type 0} {b : B} {Stops : E → Type 0} → ((stop : E) × Stops stop × (Ok b ≡ Err stop)) ⊎ R → R
went (inl stopped) = absurd (let e = stopped.2 in cc)
went (inr on) = on

-- ---- a statement on the rows of a table

-- this edit was made, and nothing else
pub record Changed (schema : Schema) (edit : Edit) (old new : State) : Type 0 where
  pub schema_is : new.now.schema ≡ schema
  pub applies : Applies schema Enforced old.now.trees edit new.now.trees
  pub shows : Shows old new new.now (if old.in_transaction then old.committed else new.now) old.in_transaction

abbrev pub task_of : Schema → Row → State → Table → Task
task_of schema params old table = record { limit = old.step_limit; keys = Enforced; schema = schema; table = table; params = params }

-- the command is a statement on the rows of this table
abbrev pub IsOn : Schema → Row → State → Table → Command → Option Returning → Type 0
IsOn schema params old table command returning = (text : List ℕ) (out : Outcome (Tally × Database))
    → Does old.step_limit (mode_of old) params (record old.now { schema = schema }) text returning command out
    → OnRows (task_of schema params old table) (mode_of old) returning command old.now.trees out

module _ (schema : Schema) (params : Row) (old new : State) (has : old.now.schema ≡ schema) (table : Table) (command : Command) where
  abbrev task : Task
  task = task_of schema params old table

  -- what was written, and what the rest of the statement made of it
  pub acts_on : (returning : Option Returning) (text : List ℕ) (count : ℕ) (w : Writes old new returning command text params count)
      → IsOn schema params old table command returning
      → (made : Written) × WritesRows task old.now.trees command (Ok made) × Concludes task (mode_of old) returning made (Ok (w.tally, new.now))
  acts_on returning text count w on =
      went (on text _
      (subst (λ s. Does old.step_limit (mode_of old) params (record old.now { schema = s }) text returning command (Ok (w.tally, new.now))) has w.changed))

  -- of one that shows no rows
  pub acts : (text : List ℕ) (count : ℕ) (w : Writes old new None command text params count) → IsOn schema params old table command None
      → (made : Written) × WritesRows task old.now.trees command (Ok made) × (new.now ≡ record { schema = schema; trees = made.trees })
  acts text count w on =
      let done = acts_on None text count w on in
      let shown = went (went done.2).2 in
      (done.0, done.1, ap (λ (p : Tally × Database). p.1) (same_value shown.2))

-- an edit that sets off no action
pub changed : {schema : Schema} {old new : State} (edit : Edit) (trees : Trees)
    → works schema Enforced 0 edit.table.tree (taken_by old.now.trees edit) edit.news ≡ []
    → Edited schema Enforced old.now.trees edit (Ok trees) → new.now ≡ record { schema = schema; trees = trees }
    → Shows old new new.now (if old.in_transaction then old.committed else new.now) old.in_transaction → Changed schema edit old new
changed {schema} {old} edit trees idle edited now shows = record {
  schema_is = ap (λ (d : Database). d.schema) now;
  applies =
      subst (Applies schema Enforced old.now.trees edit) (sym (ap (λ (d : Database). d.trees) now))
      (one_step schema Enforced old.now.trees trees edit idle edited);
  shows = shows;
}

-- ---- rows that are new

pub chosen_if : (table : Table) (top : ℤ) → table.is_counted ≡ false → rowids_for table top ≡ Chosen
chosen_if table top uncounted = rw uncounted

pub counted_if : (task : Task) (mid next : Trees) (counter : Option Row) (top : ℤ)
    → task.table.is_counted ≡ false → Counts task mid counter top (Ok next) → next ≡ mid
counted_if task mid next counter top uncounted h = same_value (rw uncounted at h)

module _ (task : Task) (from : Source) (db : Trees) (w : Written) (uncounted : task.table.is_counted ≡ false) (unstamped : task.table.stamps.terms ≡ []) where
  pub inserted : Inserts task from db (Ok w)
      → (rows : List Row) × IsSource (record { schema = task.schema; trees = db }) task.params from rows
      × Edited task.schema task.keys db (edit_of db task.table [] Chosen 0 rows) (Ok w.trees)
  inserted h =
      let made = went h in
      let counter = went made.2 in
      let edited = went counter.2 in
      let counted = went edited.2 in
      let table = task.table in
      let source : stamped table task.params ≡ task.params = rw (unstamped, append-nil) in
      let chosen : rowids_for table (count_of counter.0) ≡ Chosen = chosen_if table _ uncounted in
      let same : counted.0 ≡ edited.0 = counted_if task edited.0 counted.0 counter.0 _ uncounted counted.1 in
      let trees : w.trees ≡ edited.0 = ap (λ (it : Written). it.trees) (same_value counted.2) ∙ same in
      let plain : Edited task.schema task.keys db (edit_of db table [] Chosen 0 made.0) (Ok edited.0) =
      subst (λ (ids : Rowids). Edited task.schema task.keys db (edit_of db table [] ids 0 made.0) (Ok edited.0)) chosen edited.1 in (
        made.0,
        subst (λ (p : Row). IsSource (record { schema = task.schema; trees = db }) p from made.0) source made.1,
        subst (λ (t : Trees). Edited task.schema task.keys db (edit_of db table [] Chosen 0 made.0) (Ok t)) (sym trees) plain,
      )

module _ (schema : Schema) (sql : List ℕ) (params : Row) (old new : State) (has : old.now.schema ≡ schema) (at : ℕ) (table : Table) (from : Source)
    (means : Means schema sql (Insert at from)) (plain : IsPlainTable schema at table) where
  pub puts_in : (count : ℕ) → Executes sql params old new (Ok count)
      → (rows : List Row) × IsSource (record { schema = schema; trees = old.now.trees }) params from rows
      × Changed schema (edit_of old.now.trees table [] Chosen 0 rows) old new
  puts_in count h =
      let w = runs_as sql params old new schema has (Insert at from) means.is means.plain count h in
      let done =
      acts schema params old new has table (Insert at from) (statement_of sql (understood schema sql)) count w (λ text out on. rw plain.place at on) in
      let it = inserted (task_of schema params old table) from old.now.trees done.0 plain.uncounted plain.unstamped done.1 in
      let edit = edit_of old.now.trees table [] Chosen 0 it.0 in
      (it.0, it.1, changed edit done.0.trees (no_works schema Enforced 0 table.tree edit.news) it.2 done.2 w.shown)

abbrev pub Puts : Schema → Table → Row → State → State → Type 0
Puts schema table source old new = Changed schema (edit_of old.now.trees table [] Chosen 0 (source ∷ [])) old new

module _ (schema : Schema) (sql : List ℕ) (params : Row) (old new : State)
    (has : old.now.schema ≡ schema) (at : ℕ) (table : Table) (terms : List Term) (width : ℕ)
    (means : Means schema sql (Insert at (Values terms width))) (plain : IsPlainTable schema at table) where
  pub inserts : (count : ℕ) → Executes sql params old new (Ok count) → value_rows params width (length terms / width) terms ≡ eval_all terms (params ∷ []) ∷ []
      → Puts schema table (eval_all terms (params ∷ [])) old new
  inserts count h one =
      let it = puts_in schema sql params old new has at table (Values terms width) means plain count h in
      subst (λ (rows : List Row). Changed schema (edit_of old.now.trees table [] Chosen 0 rows) old new) (it.1.1 ∙ one) it.2
