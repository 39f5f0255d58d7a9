-- What a SELECT of some columns shows, and what a call says of the books.
use Rattle.sql_rows.proofs.Common.{◌≡◌, ◌≤◌, ℕ, suc, List, [], ◌∷◌, map, filter, length, Bool, cond, sym, ap, subst, ◌∙◌, IsPermutation, list_all}
use Rattle.sql_rows.proofs.Common.{IsPermutation-sym, length_permutation, Row, column, ascending, Binary, then-Equal, Trees, Term, col, holds, Query, Output}
use Rattle.sql_rows.proofs.Common.{output, overlay, Schema, Database, State, sort_by, IsPlain, HasRows, AreKeyed, columns_of, PicksOne, by, Differ}
use Rattle.sql_rows.proofs.Common.{number_value, IsOf, Changes, Holds}
use Rattle.sqlite.specs.Listing.{understood}
use Rattle.sqlite.specs.State.{Shown}
use Rattle.sql_rows.specs.Calls.{Writes}
use Rattle.sql_rows.proofs.Bags.{short_bag, length-map, no_ties}
use Rattle.sql_rows.proofs.Inside.{shown_same}
use Rattle.sql_rows.proofs.Queries.{Selects, plain_query, answers, reads_bag, reads_sorted, number_cmp}

-- `seen` is the filter and `show` the columns that are shown, both written over the columns; `tests_are` says that of a value's columns the filter is `p`
module _ {X : Type 0} (schema : Schema) (sql : List ℕ) (tree width : ℕ) (tests shown : List Term) (means : Selects schema sql (plain_query tree tests shown []))
    (params : Row) (old new : State) (rows : List Row) (has : IsOf schema old) (h : Shown sql params old new rows)
    (columns : X → Row) (xs : List X) (s : HasRows width (old.now.trees tree) (map columns xs)) (low : overlay old.now.trees [] tree ≡ old.now.trees tree)
    (seen : Row → Bool) (show : Row → Row) (p : X → Bool) (tests_are : (x : X) → seen (columns x) ≡ p x) where
  abbrev q : Query
  q = plain_query tree tests shown []

  abbrev pub gives_row : Row → List Output
  gives_row r = cond (list_all (holds (params ∷ r ∷ [])) tests) (output q (params ∷ r ∷ []) ∷ []) []

  module _ (only : (r : Row) → gives_row r ≡ cond (seen (columns_of width r)) (([], show (columns_of width r)) ∷ []) []) where
    -- in any order
    pub projects_bag : IsPermutation (map (λ x. show (columns x)) (filter p xs)) rows
    projects_bag =
        reads_bag tree tests shown [] params old.now.trees columns xs (columns_of width) s low
        (λ vs. cond (seen vs) (([], show vs) ∷ []) []) only p (λ x. ([], show (columns x)))
        (λ x. ap (λ b. cond b (([], show (columns x)) ∷ []) []) (tests_are x)) rows (answers schema sql q params old new has means rows h)

    -- a row by its key
    pub projects_one : PicksOne p xs → rows ≡ map (λ x. show (columns x)) (filter p xs)
    projects_one few = short_bag rows _ (IsPermutation-sym _ _ projects_bag) (subst (λ (n : ℕ). n ≤ 1) (sym (length-map {A = X} (λ x. show (columns x)) _)) few)

    -- as many rows as values
    pub projects_count : length rows ≡ length (filter p xs)
    projects_count = length_permutation _ _ projects_bag ∙ length-map {A = X} (λ x. show (columns x)) (filter p xs)

-- some columns, in the order of the number in one of them
module _ {X : Type 0} (schema : Schema) (sql : List ℕ) (tree width : ℕ) (tests shown : List Term) (place : ℕ)
    (means : Selects schema sql (plain_query tree tests shown ((col 1 (suc place), ascending Binary) ∷ [])))
    (params : Row) (old new : State) (rows : List Row) (has : IsOf schema old) (h : Shown sql params old new rows)
    (columns : X → Row) (xs : List X) (s : HasRows width (old.now.trees tree) (map columns xs)) (low : overlay old.now.trees [] tree ≡ old.now.trees tree)
    (seen : Row → Bool) (show : Row → Row) (p : X → Bool) (tests_are : (x : X) → seen (columns x) ≡ p x) where
  abbrev sorted : Query
  sorted = plain_query tree tests shown ((col 1 (suc place), ascending Binary) ∷ [])

  pub projects_sorted :
      ((r : Row)
      → cond (list_all (holds (params ∷ r ∷ [])) tests) (output sorted (params ∷ r ∷ []) ∷ []) []
      ≡ cond (seen (columns_of width r)) ((column (columns_of width r) place ∷ [], show (columns_of width r)) ∷ []) [])
      → (number : X → ℕ) → ((x : X) → column (columns x) place ≡ number_value (number x))
      → Differ number (filter p xs) → rows ≡ map (λ x. show (columns x)) (sort_by (by number) (filter p xs))
  projects_sorted only number numbers apart =
      reads_sorted tree tests shown ((col 1 (suc place), ascending Binary) ∷ []) params old.now.trees columns xs
      (columns_of width) s low (λ vs. cond (seen vs) ((column vs place ∷ [], show vs) ∷ []) []) only p
      (λ x. (number_value (number x) ∷ [], show (columns x))) (λ x. (λ i. cond (tests_are x i) ((numbers x i ∷ [], show (columns x)) ∷ []) [])) rows
      (answers schema sql sorted params old new has means rows h)
      (by number) (λ x y. then-Equal _ ∙ number_cmp (number x) (number y)) (no_ties number (filter p xs) apart)

module _ {B : Type 0} (schema : Schema) (Stands : Trees → B → Type 0) where
  -- a query leaves the tables as they were
  pub still_holds : (sql : List ℕ) (params : Row) (old new : State) → IsPlain (understood schema sql) → (rows : List Row) → Shown sql params old new rows
      → (books : B) → Holds schema Stands old books → Holds schema Stands new books
  still_holds sql params old new plain rows h books holds =
      let same : new.now ≡ old.now = (shown_same schema sql params old new holds.schema_is plain rows h).0.now_is in
      record {
        schema_is = ap (λ (d : Database). d.schema) same ∙ holds.schema_is;
        keyed = subst (λ (d : Database). AreKeyed schema d.trees) (sym same) holds.keyed;
        stands = subst (λ (d : Database). Stands d.trees books) (sym same) holds.stands;
      }

  -- a change, if the state has the tables of the schema
  pub writes_by : (old new : State) (Given : B → Type 0) (change : B → B)
      → (IsOf schema old → Changes schema Stands old new Given change) → Writes schema Stands old new Given change
  writes_by old new Given change changes books holds given =
      let done = changes holds.schema_is in
      record { schema_is = done.schema_is; keyed = done.keyed holds.keyed; stands = done.books holds.keyed books holds.stands given }
