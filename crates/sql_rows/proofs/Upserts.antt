-- An INSERT of one row with ON CONFLICT on a key DO UPDATE and RETURNING: if no row has the key, the new row is put, and else the row with the key is updated.
use Rattle.sql_rows.proofs.Common.{cases_Bool, ◌≡◌, ◌≤◌, ◌<ℤ◌, ◌/◌, ◌&&◌, ◌⊎◌, ℕ, ℤ, suc, List, [], ◌∷◌, ◌++◌, map, filter, drop, length, append-nil, true}
use Rattle.sql_rows.proofs.Common.{false, Bool, cond, Option, Some, None, Ok, inl, inr, refl, sym, ap, subst, ◌∙◌, arith, IsTrue, is_eq, int_cmp}
use Rattle.sql_rows.proofs.Common.{AllByRecursion, list_all, Value, Null, Int, Row, Binary, value_cmp-Int, Trees, rowid, put_row, IsShaped, is_int, Enforced}
use Rattle.sql_rows.proofs.Common.{Returning, Program, is_true, Compare, Eq, Term, col, op2, eval_all, holds, Query, overlay, Has, cast, cast_all, cast_row}
use Rattle.sql_rows.proofs.Common.{Rowids, Chosen, Given, Edit, edit_of, next_rowid, with_rowid, are_fresh, no_works, Schema, Table, Values, Command, InsertOr}
use Rattle.sql_rows.proofs.Common.{value_rows, Task, Written, Edited, Updates, Clears, Meets, Upserts, Judged, Tries, TriesEach, InsertsOr, stamped, rowids_for}
use Rattle.sql_rows.proofs.Common.{count_of, nothing, joined, State, IsKeyedBy, update_where, all-filter, HasRows, columns_of, PicksOne, IsOf}
use Rattle.sqlite_trees.specs.declared.store.Shape.TheVariants.{Table as TableShape}
use Rattle.sqlite_schema.specs.declared.schema.Kind.TheVariants as kind
use Rattle.sqlite_schema.specs.declared.command.Conflict.TheVariants.{Abort}
use Rattle.sqlite_schema.specs.declared.command.Upsert.{Upsert}
use Rattle.sqlite_sql.specs.Ops.{binary}
use Rattle.sqlite_rules.specs.Keys.{AreConflicts, conflicts}
use Rattle.sqlite_rules.specs.declared.error.Refusal.{Refusal}
use Rattle.sqlite.specs.Rows.{Puts as PutsOne, shown as row_shown}
use Rattle.sqlite.specs.Does.{Shows}
use Rattle.sqlite.specs.State.{Shown, Shows as StaysShown}
use Rattle.sql_rows.proofs.Appends.{id_of, int_is, cast_int, cast_null, cast_all_kept, are_kept, ids_rise}
use Rattle.sqlite_keyed.proofs.ListLemmas.{all_weaker, filter_none}
use Rattle.sqlite_trees.proofs.ListLemmas.{filter_same}
use Rattle.sqlite_rules.proofs.ListLemmas.{all_has, all_from, has_kept}
use Rattle.sqlite_tied.proofs.RuleLemmas.{and_true}
use Rattle.sql_rows.proofs.Keyed.{keyed_at, applies_keyed, put_last}
use Rattle.sql_rows.proofs.Puts.{IsPlainTable, Changed, went, same_value, chosen_if, counted_if, changed, task_of}
use Rattle.sql_rows.proofs.Fills.{numbered_row}
use Rattle.sql_rows.proofs.Queries.{plain_query, truth_of}
use Rattle.sql_rows.proofs.Sets.{apart_up, apart_down, same_id}
use Rattle.sql_rows.proofs.Bags.{as_many}
use Rattle.sql_rows.proofs.Joins.{few_list}
use Rattle.sql_rows.proofs.Alters.{Moves, sets_of, are_idle}
use Rattle.sql_rows.proofs.Showing.{MeansShowing, acts_showing, set_showing, one_shown}
use Rattle.sql_rows.proofs.Picked.{rows_set, rows_told}
use Rattle.sql_rows.proofs.Tells.{SetsAndTells}

-- ---- what the statement did

-- either no row has the key and the new row was put, or a row has the key and was updated
abbrev Ends : Task → List ℕ → Program → Row → Trees → Written → Type 0
Ends task target q new db w =
    (AreConflicts (Some target) task.schema.indexes task.table (db task.table.tree) new [] × PutsOne task new db (Ok w))
    ⊎ ((there : Row) × (more : List Row) × AreConflicts (Some target) task.schema.indexes task.table (db task.table.tree) new (there ∷ more)
    × Updates task q (task.params ++ rowid there ∷ row_shown task.table new) db (Ok w))

module _ (task : Task) (target : List ℕ) (q : Program) (new : Row) (db : Trees) (w : Written) where
  abbrev clauses : List Upsert
  clauses = record { target = Some target; update = Some q } ∷ []

  cleared : (found : List Row) → Clears task Abort new db found (Ok w) → PutsOne task new db (Ok w)
  cleared [] h = h
  cleared (x ∷ more) h = h

  met : (found : List Row) → AreConflicts (Some target) task.schema.indexes task.table (db task.table.tree) new found
      → Meets task (Upserts task Abort new db []) new db (record { target = Some target; update = Some q }) found (Ok w) → Ends task target q new db w
  met [] none h = inl (none, cleared h.0 h.2)
  met (there ∷ more) some h = inr (there, more, some, h)

  judged : (verdict : Option Refusal) → Judged task Abort clauses new db verdict (Ok w) → Ends task target q new db w
  judged None h = met h.0 h.1 h.2
  judged (Some why) h = absurd (let e = h in cc)

  tried : Tries task Abort clauses new db (Ok w) → Ends task target q new db w
  tried (inl unfit) = absurd (let e = unfit.1 in cc)
  tried (inr fits) = judged fits.0 fits.2

module _ (task : Task) (clauses : List Upsert) (terms : List Term) (width : ℕ) (source : Row) (db : Trees)
    (w : Written) (uncounted : task.table.is_counted ≡ false) (unstamped : task.table.stamps.terms ≡ [])
    (one : value_rows task.params width (length terms / width) terms ≡ source ∷ []) where
  abbrev new_row : Row
  new_row = with_rowid Chosen (db task.table.tree) (cast_row task.table source)

  inserted_or : InsertsOr task Abort clauses (Values terms width) db (Ok w)
      → (it : Written) × Tries task Abort clauses new_row db (Ok it) × (w.trees ≡ it.trees) × (w.rows ≡ it.rows)
  inserted_or h =
      let table = task.table in
      let made = went h in
      let counter = went made.2 in
      let tries = went counter.2 in
      let counted = went tries.2 in
      let params : stamped table task.params ≡ task.params = rw (unstamped, append-nil) in
      let rows : made.0 ≡ source ∷ [] = made.1.1 ∙ ap (λ (p : Row). value_rows p width (length terms / width) terms) params ∙ one in
      let each : TriesEach task Abort clauses (source ∷ []) (count_of counter.0) (nothing db) (Ok tries.0) =
      subst (λ (rs : List Row). TriesEach task Abort clauses rs (count_of counter.0) (nothing db) (Ok tries.0)) rows tries.1 in
      let first = went each in
      let done : tries.0.0 ≡ joined (nothing db) first.0 = ap (λ (d : Written × ℤ). d.0) (same_value first.2) in
      let last : w ≡ record tries.0.0 { trees = counted.0 } = same_value counted.2 in
      let chosen : rowids_for table (count_of counter.0) ≡ Chosen = chosen_if table _ uncounted in
      let kept : counted.0 ≡ tries.0.0.trees = counted_if task tries.0.0.trees counted.0 counter.0 _ uncounted counted.1 in (
        first.0,
        subst (λ (ids : Rowids). Tries task Abort clauses (with_rowid ids (db table.tree) (cast_row table source)) db (Ok first.0)) chosen first.1,
        ap (λ (it : Written). it.trees) last ∙ kept ∙ ap (λ (it : Written). it.trees) done,
        ap (λ (it : Written). it.rows) last ∙ ap (λ (it : Written). it.rows) done,
      )

-- ---- lists

-- of rows whose rowids rise, one alone has a rowid
equal_ints : (m n : ℤ) → is_true (binary (Compare Eq Binary) (Int m) (Int n)) ≡ is_eq (int_cmp m n)
unfolding binary
equal_ints m n = truth_of _ ∙ ap is_eq (value_cmp-Int m n)

abbrev has_id_of : Row → Row → Bool
has_id_of x r = is_eq (int_cmp (id_of r) (id_of x))

none_above : (x : Row) (rows : List Row) → AllByRecursion (λ r. id_of x <ℤ id_of r) rows → filter (has_id_of x) rows ≡ []
none_above x rows up =
    filter_none (has_id_of x) rows (all_weaker (λ r. id_of x <ℤ id_of r) (λ r. has_id_of x r ≡ false) (λ r. apart_up (id_of x) (id_of r)) rows up)

one_has_id : (rows : List Row) (x : Row) → IsKeyedBy id_of rows → Has rows x → filter (has_id_of x) rows ≡ x ∷ []
one_has_id [] x up miss = absurd miss
one_has_id (r ∷ rows) x up (inl is) =
    subst (λ (y : Row). filter (has_id_of y) (r ∷ rows) ≡ y ∷ []) (sym is) (rw (same_id (id_of r)) (ap (λ l. r ∷ l) (none_above r rows up.0)))
one_has_id (r ∷ rows) x up (inr later) =
    let above : id_of r <ℤ id_of x = all_has (λ y. id_of r <ℤ id_of y) rows x up.0 later in
    rw (apart_down (id_of r) (id_of x) above) (one_has_id rows x up.1 later)

pub passing : {Y : Type 0} (p : Y → Bool) (rows : List Y) (x : Y) → Has rows x → p x ≡ true → length (filter p rows) ≤ 1 → filter p rows ≡ x ∷ []
passing {Y} p rows x here is = go (filter p rows) (has_kept p rows x here is)
  where
    go : (l : List Y) → Has l x → length l ≤ 1 → l ≡ x ∷ []
    go [] miss k = absurd miss
    go (y ∷ []) (inl same) k = ap (λ z. z ∷ []) (sym same)
    go (y ∷ []) (inr miss) k = absurd miss
    go (y ∷ z ∷ l) some k = absurd (omega (arith, k))

none_pass : {Y : Type 0} (p : Y → Bool) (rows : List Y) → ((r : Y) → Has rows r → p r ≡ true → ⊥) → filter p rows ≡ []
none_pass p rows miss =
    filter_none p rows (all_from (λ r. p r ≡ false) rows (λ r here. elim (cases_Bool (p r)) [ inl is ↦ absurd (miss r here is) | inr other ↦ other ]))

-- ---- the rows afterwards, and what is shown

-- `values` is the row, without its rowid. Each of the others is over the columns. `seen` says whether a row has its key, `set` what a row is set to, and
-- `told` what is shown of it. What is set may be a sum, which is a number only of values that fit.
module _ {X : Type 0} (schema : Schema) (sql : List ℕ) (at : ℕ) (table : Table)
    (width base : ℕ) (target : List ℕ) (terms shown shows : List Term) (params values : Row)
    (columns : X → Row) (seen : Row → Bool) (p : X → Bool) (set : Row → Row) (g : X → X) (told : Row → Row) (IsFit : X → Type 0)
    (tests_are : (x : X) → seen (columns x) ≡ p x) (sets_are : (x : X) → IsFit x → set (columns x) ≡ columns (g x))
    (kept : (x : X) → IsFit x → are_kept table.columns (set (columns x)) ≡ true)
    (old new : State) (has : IsOf schema old) where
  abbrev tree : List Row
  tree = old.now.trees table.tree

  abbrev pub by_rowid : List Term
  by_rowid = op2 (Compare Eq Binary) (col 1 0) (col 0 base) ∷ []

  abbrev body : Query
  body = plain_query table.tree by_rowid shown []

  abbrev program : Program
  program = record { lets = []; body = body }

  abbrev pub upserting : Command
  upserting = InsertOr at Abort (Values terms (suc width)) (record { target = Some target; update = Some program } ∷ [])

  abbrev row_set : Row → Row
  row_set r = Int (id_of r) ∷ set (columns_of width r)

  -- what the update reads beside the row that is there
  abbrev pub read_with : Value → Row → Row
  read_with id row = params ++ id ∷ row_shown table row

  abbrev pub UpsertsRows : List Row → Type 0
  UpsertsRows rows = (xs : List X) → HasRows width tree (map columns xs) → AllByRecursion IsFit xs → PicksOne p xs
      → ((filter p xs ≡ []) × HasRows width (new.now.trees table.tree) (map columns xs ++ values ∷ []) × (rows ≡ told values ∷ []))
      ⊎ ((x : X) × (filter p xs ≡ x ∷ []) × HasRows width (new.now.trees table.tree) (map columns (update_where p g xs)) × (rows ≡ told (columns (g x)) ∷ []))

  module _ (means : MeansShowing schema sql upserting shows) (plain : IsPlainTable schema at table) (idle : are_idle schema ≡ true)
      (one : value_rows params (suc width) (length terms / suc width) terms ≡ eval_all terms (params ∷ []) ∷ [])
      (is : eval_all terms (params ∷ []) ≡ Null ∷ values)
      (fits : are_kept table.columns values ≡ true) (whole : (id : Value) → columns_of width (id ∷ values) ≡ values)
      (meets : (id : Value) (r : Row) → conflicts (Some target) schema.indexes table (id ∷ values) r ≡ seen (columns_of width r))
      (low : overlay old.now.trees [] table.tree ≡ tree)
      (picks : (id : Value) (row r : Row) → list_all (holds (read_with id row ∷ r ∷ [])) by_rowid ≡ (is_true (binary (Compare Eq Binary) (rowid r) id) && true))
      (sets_shown : (id : Value) (row r : Row) → drop 1 (eval_all shown (read_with id row ∷ r ∷ [])) ≡ rowid r ∷ set (columns_of width r))
      (id_shown : (id : Value) (row r : Row) → id_of (eval_all shown (read_with id row ∷ r ∷ [])) ≡ id_of r)
      (wide : (r : Row) → columns_of width (row_set r) ≡ set (columns_of width r))
      (casts : (v : Value) (vs : Row) → cast_row table (v ∷ vs) ≡ cast kind.Integer v ∷ cast_all table.columns vs)
      (tells : (r : Row)
      → value_rows (params ++ Null ∷ row_shown table r) (length shows) (length shows / length shows) shows ≡ told (columns_of width r) ∷ []) where
    abbrev task : Task
    task = task_of schema params old table

    abbrev what : Returning
    what = record { names = means.names; row = Values shows (length shows) }

    abbrev written : Row
    written = Int (next_rowid tree) ∷ values

    abbrev has_key : Row → Bool
    has_key r = seen (columns_of width r)

    as_written : with_rowid Chosen tree (cast_row table (eval_all terms (params ∷ []))) ≡ written
    as_written =
        ap (λ (r : Row). with_rowid Chosen tree (cast_row table r)) is ∙ ap (λ (r : Row). with_rowid Chosen tree r) (casts Null values)
        ∙ ap (λ (vs : Row). with_rowid Chosen tree (cast kind.Integer Null ∷ vs)) (cast_all_kept table.columns values fits)
        ∙ numbered_row tree _ values cast_null

    cast_written : cast_row table written ≡ written
    cast_written = casts (Int (next_rowid tree)) values ∙ (λ i. cast_int (next_rowid tree) i ∷ cast_all_kept table.columns values fits i)

    keys_alike : (xs : List X) → HasRows width tree (map columns xs) → length (filter has_key tree) ≡ length (filter p xs)
    keys_alike xs s = as_many (columns_of width) columns has_key seen p (λ r. refl) tests_are tree xs s

    module _ (it : Written) (now : new.now ≡ record { schema = schema; trees = it.trees })
        (stays : StaysShown old new new.now (cond old.in_transaction old.committed new.now) old.in_transaction)
        (rows : List Row) (tells_rows : Shows task what it.trees it.rows (Ok rows)) where
      -- the row was put
      module _ (none : AreConflicts (Some target) schema.indexes table tree written []) (puts : PutsOne task written old.now.trees (Ok it)) where
        abbrev edit : Edit
        edit = edit_of old.now.trees table [] Given 0 (written ∷ [])

        put_done : Changed schema edit old new × (it.rows ≡ edit.news)
        put_done =
            let edited = went puts in
            let same = same_value edited.2 in (
              changed edit it.trees (no_works schema Enforced 0 table.tree edit.news)
                  (subst (λ (t : Trees). Edited schema Enforced old.now.trees edit (Ok t)) (sym (ap (λ (d : Written). d.trees) same)) edited.1) now stays,
              ap (λ (d : Written). d.rows) same,
            )

        put_rows : (xs : List X) → HasRows width tree (map columns xs) → HasRows width (new.now.trees table.tree) (map columns xs ++ values ∷ [])
        put_rows xs s =
            let applies = put_done.0.applies in
            subst (λ (es : List Row). HasRows width es (map columns xs ++ values ∷ [])) (sym (applies.rows ∙ ap (λ (r : Row). put_row r tree) cast_written))
            (put_last width tree (map columns xs) written values
            (subst (λ (r : Row). are_fresh tree (r ∷ []) ≡ true) cast_written applies.fresh) (whole (Int (next_rowid tree))) s)

        put_shown : rows ≡ told values ∷ []
        put_shown =
            let news : it.rows ≡ written ∷ [] = put_done.1 ∙ ap (λ (r : Row). r ∷ []) cast_written in
            one_shown task means.names shows it.trees written rows (subst (λ (rs : List Row). Shows task what it.trees rs (Ok rows)) news tells_rows)
            ∙ tells written
            ∙ ap (λ (vs : Row). told vs ∷ []) (whole (Int (next_rowid tree)))

        put_none : (xs : List X) → HasRows width tree (map columns xs) → PicksOne p xs → filter p xs ≡ []
        put_none xs s few =
            let miss : filter has_key tree ≡ [] = none_pass has_key tree (λ r here is. none.complete r here (meets (Int (next_rowid tree)) r ∙ is)) in
            let count : 0 ≡ length (filter p xs) = sym (ap length miss) ∙ keys_alike xs s in
            elim (few_list (filter p xs) few) [ inl is ↦ is | inr one ↦ absurd (omega (arith, count, ap length one.1)) ]

      -- a row was there
      module _ (id : Value) (updates : Updates task program (read_with id written) old.now.trees (Ok it)) where
        abbrev given : Row
        given = read_with id written

        set_done : (m : Moves schema (sets_of old.now.trees table) body given old new)
            × Shows task what new.now.trees (sets_of old.now.trees table m.rows).news (Ok rows)
        set_done = set_showing schema params old new table what body given it idle updates now stays rows tells_rows

        module _ (keyed : IsShaped TableShape tree) (x : Row) (here : Has tree x) (its : id ≡ rowid x) (key : has_key x ≡ true) where
          abbrev test : Row → Bool
          test r = list_all (holds (given ∷ r ∷ [])) by_rowid

          tested : (r : Row) → IsTrue (is_int (rowid r)) → test r ≡ has_id_of x r
          tested r int =
              picks id written r ∙ ap (λ (v : Value). is_true (binary (Compare Eq Binary) (rowid r) v) && true) its
              ∙ (λ i.
              is_true (binary (Compare Eq Binary) (int_is (rowid r) int i)
              (int_is (rowid x) (all_has (λ r. IsTrue (is_int (rowid r))) tree x keyed.1 here) i))
              && true)
              ∙ and_true _ ∙ equal_ints (id_of r) (id_of x)

          picked : filter test tree ≡ x ∷ []
          picked =
              filter_same test (has_id_of x) tree (all_weaker (λ r. IsTrue (is_int (rowid r))) (λ r. test r ≡ has_id_of x r) tested tree keyed.1)
              ∙ one_has_id tree x (ids_rise tree keyed) here

          there_rows : UpsertsRows rows
          there_rows xs s all few =
              let by_key : filter has_key tree ≡ x ∷ [] = passing has_key tree x here key (subst (λ (n : ℕ). n ≤ 1) (sym (keys_alike xs s)) few) in
              let same = picked ∙ sym by_key in
              let has_rows =
              rows_set schema table width by_rowid shown given columns seen p set g IsFit tests_are sets_are kept old new set_done.0 low
              (sets_shown id written) (id_shown id written) wide casts
              keyed same xs s all few in
              let are =
              rows_told schema table width by_rowid shown given columns seen p set g IsFit tests_are sets_are kept old new set_done.0 low
              (sets_shown id written) (id_shown id written) wide casts
              keyed same xs s all few params means.names shows (λ vs. told (set vs)) rows
              (λ r. tells (row_set r) ∙ ap (λ (vs : Row). told vs ∷ []) (wide r)) set_done.1 in
              elim (few_list (filter p xs) few) [
                | inl none ↦ absurd (omega (arith, sym (ap length by_key) ∙ keys_alike xs s ∙ ap length none))
                | inr one ↦
                    let fit = subst (AllByRecursion IsFit) one.1 (all-filter IsFit p xs all) in
                    inr (one.0, one.1, has_rows, are ∙ ap (map (λ c. told (set (columns c)))) one.1 ∙ ap (λ (vs : Row). told vs ∷ []) (sets_are one.0 fit.0))
              ]

    -- ---- the whole

    pub upserts_and_tells : (rows : List Row) → Shown sql params old new rows → SetsAndTells schema table.tree old new (UpsertsRows rows)
    upserts_and_tells rows h =
        let done = acts_showing schema sql params old new has upserting shows means table (λ text out on. rw plain.place at on) rows h in
        let wrote =
        inserted_or task (record { target = Some target; update = Some program } ∷ []) terms (suc width)
        (eval_all terms (params ∷ [])) old.now.trees done.0 plain.uncounted plain.unstamped one done.1 in
        let it = wrote.0 in
        let tries =
        subst (λ (r : Row). Tries task Abort (record { target = Some target; update = Some program } ∷ []) r old.now.trees (Ok it)) as_written wrote.1 in
        let now : new.now ≡ record { schema = schema; trees = it.trees } = done.2 ∙ ap (λ (t : Trees). record { schema = schema; trees = t }) wrote.2 in
        let told_rows : Shows task what it.trees it.rows (Ok rows) =
        subst (λ (d : Trees). Shows task what d it.rows (Ok rows)) wrote.2
        (subst (λ (rs : List Row). Shows task what done.0.trees rs (Ok rows)) wrote.3 done.4) in
        by_end it now done.3 told_rows (tried task target program written old.now.trees it tries)
      where
        by_end :
            (it : Written) (now : new.now ≡ record { schema = schema; trees = it.trees })
            (stays : StaysShown old new new.now (cond old.in_transaction old.committed new.now) old.in_transaction)
            → Shows task what it.trees it.rows (Ok rows) → Ends task target program written old.now.trees it
            → SetsAndTells schema table.tree old new (UpsertsRows rows)
        by_end it now stays told_rows (inl put) =
            let done = (put_done it now stays rows told_rows put.0 put.1).0 in
            record {
              schema_is = done.schema_is;
              keyed = applies_keyed schema Enforced old.now.trees new.now.trees _ at plain.place done.applies;
              others = done.applies.tables;
              rows = λ keyed xs s all few. inl (
                put_none it now stays rows told_rows put.0 put.1 xs s few,
                put_rows it now stays rows told_rows put.0 put.1 xs s,
                put_shown it now stays rows told_rows put.0 put.1,
              );
            }
        by_end it now stays told_rows (inr met) =
            let there = met.0 in
            let sound = met.2.sound there (inl refl) in
            let x = sound.0 in
            let done = (set_done it now stays rows told_rows (rowid there) met.3).0.done in
            record {
              schema_is = done.schema_is;
              keyed = applies_keyed schema Enforced old.now.trees new.now.trees _ at plain.place done.applies;
              others = done.applies.tables;
              rows = λ keyed.
                  there_rows it now stays rows told_rows (rowid there) met.3
                  (keyed_at schema old.now.trees at table plain.place keyed) x sound.1 (ap rowid sound.3)
                  (sym (meets (Int (next_rowid tree)) x) ∙ sound.2);
            }
