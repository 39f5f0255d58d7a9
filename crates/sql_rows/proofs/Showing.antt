-- What a statement with RETURNING does and shows.
use Rattle.sql_rows.proofs.Common.{◌≡◌, ◌/◌, ℕ, List, [], ◌∷◌, ◌++◌, if◌then◌else◌, length, append-nil, true, Some, None, Option, Ok, Err, Result, sym, ap}
use Rattle.sql_rows.proofs.Common.{subst, ◌∙◌, Null, Row, Trees, Term, Query, Schema, Table, Returning, Values, Command, Compiled, CompileError, Mode, Database}
use Rattle.sql_rows.proofs.Common.{value_rows, Task, Written, Updates, shown, Tally, Concludes, State, mode_of, Writes, command_of}
use Rattle.sqlite.specs.Listing.{understood}
use Rattle.sqlite.specs.Does.{Shows, WritesRows}
use Rattle.sqlite.specs.State as state
use Rattle.sqlite.specs.State.{Shown}
use Rattle.sql_rows.proofs.Puts.{went, same_value, task_of, IsOn, acts_on, changed}
use Rattle.sql_rows.proofs.Alters.{Moves, sets_of, edits, idle_works, are_idle}

abbrev pub returning_of : Result Compiled CompileError → Option Returning
returning_of (Ok c) = c.returning
returning_of (Err e) = None

abbrev pub formats_in : Result Compiled CompileError → List (List ℕ)
formats_in (Ok c) = c.formats
formats_in (Err e) = []

-- a text that means this command, and shows this of each row
pub record MeansShowing (schema : Schema) (sql : List ℕ) (command : Command) (terms : List Term) : Type 0 where
  pub names : List (List ℕ)
  pub is : command_of (understood schema sql) ≡ command
  pub shows : returning_of (understood schema sql) ≡ Some (record { names = names; row = Values terms (length terms) })
  pub untimed : formats_in (understood schema sql) ≡ []

module _ (schema : Schema) (sql : List ℕ) (params : Row) (old new : State) (has : old.now.schema ≡ schema)
    (command : Command) (terms : List Term) (means : MeansShowing schema sql command terms) where
  abbrev what : Returning
  what = record { names = means.names; row = Values terms (length terms) }

  pub shown_as : (rows : List Row) → Shown sql params old new rows
      → (text : List ℕ) × ((count : ℕ) × (w : Writes old new (Some what) command text params count) × (rows ≡ w.tally.shown))
  unfolding Shown
  shown_as rows h =
      let known = sym h.1.is ∙ ap (λ s. understood s sql) has in
      let returning : h.0.returning ≡ Some what = ap returning_of known ∙ means.shows in
      let untimed : h.0.formats ≡ [] = ap formats_in known ∙ means.untimed in
      let is : h.0.command ≡ command = ap command_of known ∙ means.is in
      let it = rw (returning, untimed, append-nil params) at h.2 in
      (_, subst (λ (k : Command). (count : ℕ) × (w : Writes old new (Some what) k (state.text_of sql h.0) params count) × (rows ≡ w.tally.shown)) is it)

-- the rows that were written, and what is shown of them
pub shows_written : (task : Task) (mode : Mode) (names : List (List ℕ)) (terms : List Term) (w : Written) (tally : Tally) (after : Database)
    → Concludes task mode (Some (record { names = names; row = Values terms (length terms) })) w (Ok (tally, after))
    → (after ≡ record { schema = task.schema; trees = w.trees })
    × Shows task (record { names = names; row = Values terms (length terms) }) w.trees w.rows (Ok tally.shown)
shows_written task mode names terms w tally after h =
    let rest = went (went h).2 in
    let pair = same_value rest.2 in
    let returns = went rest.1 in
    let counted = went returns.2 in
    let is : rest.0 ≡ returns.0 = same_value counted.2 in
    let shown : tally.shown ≡ returns.0 = ap (λ (p : Tally × Database). p.0.shown) pair ∙ is in (
      ap (λ (p : Tally × Database). p.1) pair,
      subst (λ (rows : List Row). Shows task (record { names = names; row = Values terms (length terms) }) w.trees w.rows (Ok rows)) (sym shown) returns.1,
    )

pub one_shown : (task : Task) (names : List (List ℕ)) (terms : List Term) (now : Trees) (row : Row) (rows : List Row)
    → Shows task (record { names = names; row = Values terms (length terms) }) now (row ∷ []) (Ok rows)
    → rows ≡ value_rows (task.params ++ Null ∷ shown task.table row) (length terms) (length terms / length terms) terms
one_shown task names terms now row rows h =
    let first = went h in
    let others = went first.2 in
    let none : others.0 ≡ [] = same_value others.1 in
    same_value others.2 ∙ ap (λ l. first.0 ++ l) none ∙ append-nil first.0 ∙ first.1.1

-- what was written, and what is shown of it
module _ (schema : Schema) (sql : List ℕ) (params : Row) (old new : State) (has : old.now.schema ≡ schema)
    (command : Command) (terms : List Term) (means : MeansShowing schema sql command terms) (table : Table) where
  abbrev returned : Returning
  returned = record { names = means.names; row = Values terms (length terms) }

  abbrev task : Task
  task = task_of schema params old table

  pub acts_showing : IsOn schema params old table command (Some returned) → (rows : List Row) → Shown sql params old new rows
      → (made : Written) × WritesRows task old.now.trees command (Ok made) × (new.now ≡ record { schema = schema; trees = made.trees })
      × state.Shows old new new.now (if old.in_transaction then old.committed else new.now) old.in_transaction
      × Shows task returned made.trees made.rows (Ok rows)
  acts_showing on rows h =
      let it = shown_as schema sql params old new has command terms means rows h in
      let w = it.1.1 in
      let done = acts_on schema params old new has table command (Some returned) it.0 it.1.0 w on in
      let end = shows_written task (mode_of old) means.names terms done.0 w.tally new.now done.2 in
      (done.0, done.1, end.0, w.shown, subst (λ (rs : List Row). Shows task returned done.0.trees done.0.rows (Ok rs)) (sym it.1.2) end.1)

-- what an update wrote, and what is shown of that
module _ (schema : Schema) (params : Row) (old new : State) (table : Table) (what : Returning)
    (q : Query) (given : Row) (made : Written) (idle : are_idle schema ≡ true) where
  pub set_showing : Updates (task_of schema params old table) (record { lets = []; body = q }) given old.now.trees (Ok made)
      → new.now ≡ record { schema = schema; trees = made.trees }
      → state.Shows old new new.now (if old.in_transaction then old.committed else new.now) old.in_transaction
      → (rows : List Row) → Shows (task_of schema params old table) what made.trees made.rows (Ok rows)
      → (m : Moves schema (sets_of old.now.trees table) q given old new)
      × Shows (task_of schema params old table) what new.now.trees (sets_of old.now.trees table m.rows).news (Ok rows)
  set_showing h now stays rows shows =
      let edit = sets_of old.now.trees table in
      let task = task_of schema params old table in
      let it = edits task (record { lets = []; body = q }) given old.now.trees edit (λ rows. (edit rows).news) made h in (
        record { rows = it.0; answer = it.1.answer Null; done = changed (edit it.0) made.trees (idle_works schema 0 table.tree _ _ idle) it.2 now stays },
        subst (λ (t : Trees). Shows task what t (edit it.0).news (Ok rows)) (sym (ap (λ (d : Database). d.trees) now))
            (subst (λ (rs : List Row). Shows task what made.trees rs (Ok rows)) it.3 shows),
      )
