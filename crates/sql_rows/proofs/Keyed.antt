-- What an edit of a table does to its rows and its rowids.
use Rattle.sql_rows.proofs.Common.{HasRows, columns_of, map, ◌++◌, IsPermutation-map, IsPermutation-sym, IsPermutation-to_front, ◌≡◌, ◌≢◌, ◌&&◌, ◌||◌, ℕ, ℤ}
use Rattle.sql_rows.proofs.Common.{List, [], ◌∷◌, not, true, false, Bool, Some, slice_get, inl, inr, refl, sym, subst, Ordering, Less, Equal, Greater, is_eq}
use Rattle.sql_rows.proofs.Common.{IsPermutation, AllByRecursion, match_ordering, cases_eq, and_parts, IsPermutation-refl, IsPermutation-cons}
use Rattle.sql_rows.proofs.Common.{IsPermutation-trans, IsPermutation-middle, Row, value_cmp, Trees, rowid, put_row, without_rowid, has_rowid, IsShaped, is_int}
use Rattle.sql_rows.proofs.Common.{Schema, Table, Edit, Applies, edited, left_by, without_all, put_all, is_taken, are_fresh, have_rowids, all-slice_get}
use Rattle.sql_rows.proofs.Common.{AreKeyed}
use Rattle.sqlite_trees.specs.declared.store.Shape.TheVariants.{Table as TableShape}
use Rattle.sqlite_trees.proofs.TreeLemmas.{IsShaped-put_row, IsShaped-filter}
use Rattle.sqlite_schema.specs.declared.schema.Keys.{Keys}
use Rattle.sqlite_keyed.proofs.ListLemmas.{all_both}

-- ---- a row with a rowid of its own takes no other row's place, in whatever order the rows stand

pub put_bag : (new : Row) (rows : List Row) → is_taken rows new ≡ false → IsPermutation (new ∷ rows) (put_row new rows)
put_bag new [] free = IsPermutation-refl (new ∷ [])
put_bag new (r ∷ rows) free = go (value_cmp (rowid r) (rowid new)) refl free (put_bag new rows)
  where
    go : (o : Ordering) → value_cmp (rowid r) (rowid new) ≡ o → (is_eq o || is_taken rows new) ≡ false
        → (is_taken rows new ≡ false → IsPermutation (new ∷ rows) (put_row new rows))
        → IsPermutation (new ∷ r ∷ rows) (match_ordering o (r ∷ put_row new rows) (new ∷ rows) (new ∷ r ∷ rows))
    go Less e f more = IsPermutation-trans _ _ _ (IsPermutation-middle (new ∷ []) r rows) (IsPermutation-cons r _ _ (more f))
    go Equal e f more = cc
    go Greater e f more = IsPermutation-refl _

untaken : (b : Bool) → (not b && true) ≡ true → b ≡ false
untaken true h = cc
untaken false h = refl

-- a row that is new comes last among what the rows stand for
pub put_last : (width : ℕ) (tree rows : List Row) (new values : Row) → are_fresh tree (new ∷ []) ≡ true
    → columns_of width new ≡ values → HasRows width tree rows → HasRows width (put_row new tree) (rows ++ values ∷ [])
put_last width tree rows new values fresh is has =
    let bag = IsPermutation-map (columns_of width) _ _ (IsPermutation-sym _ _ (put_bag new tree (untaken (is_taken tree new) fresh))) in
    let first : IsPermutation (columns_of width new ∷ map (columns_of width) tree) (values ∷ rows) =
    subst (λ (vs : Row). IsPermutation (columns_of width new ∷ map (columns_of width) tree) (vs ∷ rows)) is (IsPermutation-cons _ _ _ has) in
    IsPermutation-trans _ _ _ bag (IsPermutation-trans _ _ _ first (IsPermutation-sym _ _ (IsPermutation-to_front rows values)))

-- ---- the rowids go on rising

without_shaped : (ids : List ℤ) (rows : List Row) → IsShaped TableShape rows → IsShaped TableShape (without_all rows ids)
without_shaped [] rows h = h
without_shaped (id ∷ ids) rows h = without_shaped ids (without_rowid id rows) (IsShaped-filter TableShape (λ r. not (has_rowid id r)) rows h)

put_shaped : (news rows : List Row) → have_rowids news ≡ true → IsShaped TableShape rows → IsShaped TableShape (put_all rows news)
put_shaped [] rows keyed h = h
put_shaped (new ∷ news) rows keyed h =
    let k = and_parts (is_int (rowid new)) (have_rowids news) keyed in put_shaped news (put_row new rows) k.1 (IsShaped-put_row new rows k.0 h)

all_but : (at : ℕ) (old new : Trees) (tables : List Table) → AllByRecursion (λ t. t.tree ≢ at → new t.tree ≡ old t.tree) tables → IsShaped TableShape (new at)
    → AllByRecursion (λ t. IsShaped TableShape (old t.tree)) tables → AllByRecursion (λ t. IsShaped TableShape (new t.tree)) tables
all_but at old new tables same here =
    all_both (λ (t : Table). t.tree ≢ at → new t.tree ≡ old t.tree) (λ t. IsShaped TableShape (old t.tree)) (λ t. IsShaped TableShape (new t.tree))
    (λ t stays was.
    elim (cases_eq t.tree at) [
      | inl e ↦ subst (λ k. IsShaped TableShape (new k)) (sym e) here
      | inr other ↦ subst (IsShaped TableShape) (sym (stays other)) was
    ])
    tables same

pub keyed_at : (schema : Schema) (trees : Trees) (at : ℕ) (table : Table)
    → slice_get schema.tables at ≡ Some table → AreKeyed schema trees → IsShaped TableShape (trees table.tree)
keyed_at schema trees at table place h = all-slice_get (λ t. IsShaped TableShape (trees t.tree)) schema.tables at table place h

pub applies_keyed : (schema : Schema) (keys : Keys) (old new : Trees) (edit : Edit) (at : ℕ)
    → slice_get schema.tables at ≡ Some edit.table → Applies schema keys old edit new → AreKeyed schema old → AreKeyed schema new
applies_keyed schema keys old new edit at place a h =
    let here : IsShaped TableShape (edited old edit) =
    put_shaped edit.news (left_by old edit) a.keyed (without_shaped edit.gone (old edit.table.tree) (keyed_at schema old at edit.table place h)) in
    all_but edit.table.tree old new schema.tables a.tables (subst (IsShaped TableShape) (sym a.rows) here) h
