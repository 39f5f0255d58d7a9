-- What an UPDATE of at most one row makes of the values that its table's rows stand for, and what RETURNING shows of that row.
use Rattle.sql_rows.proofs.Common.{◌≡◌, ◌≤◌, ◌/◌, List, [], ◌∷◌, ◌++◌, map, filter, drop, length, Bool, true, Ok, refl, sym, ap, subst, ◌∙◌, arith, IsTrue}
use Rattle.sql_rows.proofs.Common.{AllByRecursion, list_all, Value, Null, Int, Row, rowid, IsShaped, is_int, Term, eval_all, holds, overlay, cast, cast_all}
use Rattle.sql_rows.proofs.Common.{cast_row, Schema, Table, Values, value_rows, State, update_where, all-filter, map-map, HasRows, columns_of, PicksOne, ℕ}
use Rattle.sqlite_trees.specs.declared.store.Shape.TheVariants.{Table as TableShape}
use Rattle.sqlite_schema.specs.declared.schema.Kind.TheVariants as kind
use Rattle.sqlite.specs.Rows.{shown as row_shown}
use Rattle.sqlite.specs.Does.{Shows}
use Rattle.sql_rows.proofs.Appends.{id_of, int_is, cast_int, cast_all_kept, are_kept}
use Rattle.sql_rows.proofs.Puts.{same_value, task_of}
use Rattle.sql_rows.proofs.Queries.{plain_query}
use Rattle.sql_rows.proofs.Bags.{as_many, bag_update, bag_filter, short_bag, all_fit, length-map}
use Rattle.sql_rows.proofs.Alters.{Moves, sets_of, moved, sources}
use Rattle.sql_rows.proofs.Showing.{one_shown}

-- `seen` is the filter and `set` what is set, each written over the columns; `picks` says that the query finds what the filter does. What is set may be a sum,
-- which is a number only of values that fit.
module _ {X : Type 0} (schema : Schema) (table : Table) (width : ℕ) (tests shown : List Term) (given : Row)
    (columns : X → Row) (seen : Row → Bool) (p : X → Bool) (set : Row → Row) (g : X → X) (IsFit : X → Type 0)
    (tests_are : (x : X) → seen (columns x) ≡ p x) (sets_are : (x : X) → IsFit x → set (columns x) ≡ columns (g x))
    (kept : (x : X) → IsFit x → are_kept table.columns (set (columns x)) ≡ true)
    (old new : State) (m : Moves schema (sets_of old.now.trees table) (plain_query table.tree tests shown []) given old new)
    (low : overlay old.now.trees [] table.tree ≡ old.now.trees table.tree)
    (sets_shown : (r : Row) → drop 1 (eval_all shown (given ∷ r ∷ [])) ≡ rowid r ∷ set (columns_of width r))
    (id_shown : (r : Row) → id_of (eval_all shown (given ∷ r ∷ [])) ≡ id_of r)
    (wide : (r : Row) → columns_of width (Int (id_of r) ∷ set (columns_of width r)) ≡ set (columns_of width r))
    (casts : (v : Value) (vs : Row) → cast_row table (v ∷ vs) ≡ cast kind.Integer v ∷ cast_all table.columns vs)
    (keyed : IsShaped TableShape (old.now.trees table.tree))
    (picks : filter (λ r. list_all (holds (given ∷ r ∷ [])) tests) (old.now.trees table.tree)
    ≡ filter (λ r. seen (columns_of width r)) (old.now.trees table.tree))
    (xs : List X) (s : HasRows width (old.now.trees table.tree) (map columns xs)) (all : AllByRecursion IsFit xs) (few : PicksOne p xs) where
  abbrev tree : List Row
  tree = old.now.trees table.tree

  abbrev is_seen : Row → Bool
  is_seen r = seen (columns_of width r)

  abbrev row_set : Row → Row
  row_set r = Int (id_of r) ∷ set (columns_of width r)

  abbrev row_read : Row → Row
  row_read r = eval_all shown (given ∷ r ∷ [])

  short : length (filter is_seen tree) ≤ 1
  short = subst (λ (k : ℕ). k ≤ 1) (sym (as_many (columns_of width) columns is_seen seen p (λ r. refl) tests_are tree xs s)) few

  cast_as : (x : Row) → filter is_seen tree ≡ x ∷ [] → cast_row table (drop 1 (row_read x)) ≡ row_set x
  cast_as x found =
      let Typed : Row → Type 0 = λ r. (c : X) × IsFit c × (columns_of width r ≡ columns c) in
      let AreInt : Row → Type 0 = λ r. IsTrue (is_int (rowid r)) in
      let types : AllByRecursion Typed (x ∷ []) =
      subst (AllByRecursion Typed) found (all-filter Typed is_seen tree (all_fit IsFit (columns_of width) columns tree xs all s)) in
      let ints : AllByRecursion AreInt (x ∷ []) = subst (AllByRecursion AreInt) found (all-filter AreInt is_seen tree keyed.1) in
      let fits : are_kept table.columns (set (columns_of width x)) ≡ true = ap (λ vs. are_kept table.columns (set vs)) types.0.2 ∙ kept types.0.0 types.0.1 in
      ap (cast_row table) (sets_shown x) ∙ casts (rowid x) (set (columns_of width x))
      ∙ (λ i. (ap (cast kind.Integer) (int_is (rowid x) ints.0) ∙ cast_int (id_of x)) i ∷ cast_all_kept table.columns (set (columns_of width x)) fits i)

  pub rows_set : HasRows width (new.now.trees table.tree) (map columns (update_where p g xs))
  rows_set =
      subst (λ (es : List Row). HasRows width es (map columns (update_where p g xs)))
      (sym (moved schema table tests shown given old new low id_shown is_seen picks row_set (λ r. refl) (λ r. refl) keyed m short cast_as))
      (bag_update (columns_of width) columns is_seen seen p (λ r. refl) tests_are row_set set g IsFit wide sets_are tree xs all s)

  -- `told` is what is shown of a row that was found, written over its columns
  module _ (params : Row) (names : List (List ℕ)) (terms : List Term) (told : Row → Row) (rows : List Row)
      (tells : (r : Row)
      → value_rows (params ++ Null ∷ row_shown table (row_set r)) (length terms) (length terms / length terms) terms
      ≡ told (columns_of width r) ∷ []) where
    abbrev Tells : List Row → Type 0
    Tells news = Shows (task_of schema params old table) (record { names = names; row = Values terms (length terms) }) new.now.trees news (Ok rows)

    pub rows_told : Tells (sets_of old.now.trees table m.rows).news → rows ≡ map (λ x. told (columns x)) (filter p xs)
    rows_told shows =
        go (filter is_seen tree) refl short (subst (λ (olds : List Row). Tells (sets_of old.now.trees table olds).news)
        (sources schema table tests shown given old new low id_shown is_seen picks m.rows m.answer short) shows)
        ∙ sym (map-map told (columns_of width) (filter is_seen tree)) ∙ ap (map told) same ∙ map-map told columns (filter p xs)
      where
        same : map (columns_of width) (filter is_seen tree) ≡ map columns (filter p xs)
        same =
            short_bag _ _ (bag_filter (columns_of width) columns is_seen seen p (λ r. refl) tests_are tree xs s)
            (subst (λ (k : ℕ). k ≤ 1) (sym (length-map {A = X} columns _)) few)

        go : (found : List Row) → filter is_seen tree ≡ found → length found ≤ 1
            → Tells (sets_of old.now.trees table (map row_read found)).news → rows ≡ map (λ r. told (columns_of width r)) found
        go [] is k shows = same_value shows
        go (x ∷ []) is k shows =
            one_shown (task_of schema params old table) names terms new.now.trees (row_set x) rows
            (subst (λ (row : Row). Tells (row ∷ [])) (cast_as x is) shows) ∙ tells x
        go (x ∷ y ∷ more) is k shows = absurd (omega (arith, k))
