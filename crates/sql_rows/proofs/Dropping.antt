-- What a DELETE of at most one row does to its table; the others stay.
use Rattle.sql_rows.proofs.Common.{◌≡◌, ◌≤◌, ℕ, List, [], ◌∷◌, map, not, slice_get, true, Bool, Some, Ok, refl, sym, ap, subst, list_all, Row, Enforced, Term}
use Rattle.sql_rows.proofs.Common.{eval_all, holds, overlay, Schema, Table, Delete, State, ExecutesInside, delete_where, Means, HasRows, SameBut, columns_of}
use Rattle.sql_rows.proofs.Common.{PicksOne, IsOf, IsKeyed}
use Rattle.sql_rows.proofs.Appends.{id_of}
use Rattle.sql_rows.proofs.Keyed.{keyed_at, applies_keyed}
use Rattle.sql_rows.proofs.Queries.{plain_query}
use Rattle.sql_rows.proofs.Bags.{as_many, bag_filter}
use Rattle.sql_rows.proofs.Alters.{are_idle, deletes, left}

pub record HasDropped {X : Type 0} (schema : Schema) (table : Table) (width : ℕ) (columns : X → Row) (p : X → Bool) (old new : State) : Type 0 where
  pub schema_is : IsOf schema new
  pub keyed : IsKeyed schema old → IsKeyed schema new
  pub others : SameBut schema table.tree old.now.trees new.now.trees
  pub rows : IsKeyed schema old → (xs : List X) → HasRows width (old.now.trees table.tree) (map columns xs) → PicksOne p xs
      → HasRows width (new.now.trees table.tree) (map columns (delete_where p xs))

-- `seen` is the filter, written over the columns; `tests_are` says that of a value's columns it is `p`. The premises after `means` are `refl`.
pub has_dropped :
    {X : Type 0} (schema : Schema) (sql : List ℕ) (at : ℕ) (table : Table) (width : ℕ)
    (tests shown : List Term) (params : Row) (columns : X → Row) (seen : Row → Bool) (p : X → Bool)
    (tests_are : (x : X) → seen (columns x) ≡ p x) (old new : State) → IsOf schema old
    → Means schema sql (Delete at (record { lets = []; body = plain_query table.tree tests shown [] }))
    → slice_get schema.tables at ≡ Some table → are_idle schema ≡ true
    → (count : ℕ) → ExecutesInside 0 sql params old new (Ok count) → overlay old.now.trees [] table.tree ≡ old.now.trees table.tree
    → ((r : Row) → list_all (holds (params ∷ r ∷ [])) tests ≡ seen (columns_of width r)) → ((r : Row) → id_of (eval_all shown (params ∷ r ∷ [])) ≡ id_of r)
    → HasDropped schema table width columns p old new
has_dropped schema sql at table width tests shown params columns seen p tests_are old new has means place idle count h low sees id_shown =
    let m = deletes schema sql params old new has at table (plain_query table.tree tests shown []) place idle means count h.0 in
    record {
      schema_is = m.done.schema_is;
      keyed = applies_keyed schema Enforced old.now.trees new.now.trees _ at place m.done.applies;
      others = m.done.applies.tables;
      rows = λ keyed xs s few.
          let tree = old.now.trees table.tree in
          let test : Row → Bool = λ r. list_all (holds (params ∷ r ∷ [])) tests in
          let short = subst (λ (k : ℕ). k ≤ 1) (sym (as_many (columns_of width) columns test seen p sees tests_are tree xs s)) few in
          let is = left schema table tests shown params old new low id_shown test refl (keyed_at schema old.now.trees at table place keyed) m short in
          subst (λ (es : List Row). HasRows width es (map columns (delete_where p xs))) (sym is)
          (bag_filter (columns_of width) columns (λ r. not (test r)) (λ vs. not (seen vs))
          (λ x. not (p x)) (λ r. ap not (sees r)) (λ x. ap not (tests_are x)) tree xs s);
    }
