-- A table of the branches' rows, each with its branch and its number there: what a SELECT says of it, and what an UPDATE of one row makes of it.
use Rattle.shop_schema.proofs.Common.{◌≡◌, ◌≤◌, ◌&&◌, ◌/◌, ℕ, zero, suc, List, [], ◌∷◌, map, filter, drop, length, Bool, true, cond, Ok, refl, sym, ap, subst}
use Rattle.shop_schema.proofs.Common.{◌∙◌, arith, IfSome, option_to_list, AllByRecursion, list_all, map-id, Value, Int, Null, column, ascending, Binary, rowid}
use Rattle.shop_schema.proofs.Common.{Term, col, eval_all, holds, Query, output, cast, cast_all, cast_row, Insert, Update, Values, value_rows, values, State}
use Rattle.shop_schema.proofs.Common.{ExecutesInside, sort_by, update_where, map-map, all-filter, all_map, Means, by, PicksOne, columns_from, columns_of}
use Rattle.shop_schema.proofs.Common.{number_value, are_kept, id_of, length-map, number_test, two_tested, test_of, unmapped_kind, still_holds, writes_by}
use Rattle.shop_schema.proofs.Common.{Selects, plain_query, selects_one, selects_sorted, sets_row, Row, is_of, is_row, of, at, set_row, AreNumbered, Books}
use Rattle.shop_schema.proofs.Common.{row_at, IsHeld, IsRow, shop_schema, StandsFor, StandsWith, Holds, Reads, Writes, counts_of, cols}
use Rattle.std.specs.Prelude.{Option, Some, None, take, option_map}
use Rattle.sqlite_value.specs.Order as sql
use Rattle.sqlite_schema.specs.declared.schema.Kind.TheVariants as kind
use Rattle.sqlite.specs.State.{Shown}
use Rattle.shop_schema.proofs.Lists.{picks_row}
use Rattle.shop_schema.proofs.Stands.{with_own}
use Rattle.shop_schema.proofs.Listed.{Plain, PutsLast, puts_last, width, stood, changed, own_rows}
use Rattle.shop_ledger.proofs.Equals.{of_two}
use Rattle.shop_ledger.proofs.Rising.{Rise, of_which, which_rise, which_are, rise_differ, rise_sorted}

-- `Fits` says which rows the program can hold: their columns are one to one
pub record BranchRows (A : Type 0) : Type 1 where
  pub rows : Plain (Row A)
  pub Fits : A → Type 0
  pub one : (a b : Row A) → IsRow Fits a → IsRow Fits b → rows.columns a ≡ rows.columns b → a ≡ b
  pub begins : (row : Row A) → (column (rows.columns row) 0 ≡ number_value row.branch) × (column (rows.columns row) 1 ≡ number_value row.number)
  pub valued : (books : Books) → IsHeld books → AllByRecursion (IsRow Fits) (rows.part.items books)
  pub counted : (books : Books) → IsHeld books → (b : ℕ) → AreNumbered (is_of b) (λ row. row.number) (rows.part.items books)
  -- each column takes its value as it is
  pub kept : (row : Row A) → are_kept rows.table.columns (rows.columns row) ≡ true

-- another item at the place
abbrev pub replaced : {X : Type 0} → ℕ → X → List X → List X
replaced n y [] = []
replaced zero y (x ∷ xs) = y ∷ xs
replaced (suc n) y (x ∷ xs) = x ∷ replaced n y xs

-- the list with other items at the given places
abbrev pub written : {X : Type 0} → List ℕ → List X → List X → List X
written [] ys xs = xs
written (n ∷ ns) [] xs = xs
written (n ∷ ns) (y ∷ ys) xs = written ns ys (replaced n y xs)

-- what an UPDATE of the columns at the given places computes, from the parameter `first` on
abbrev pub set_terms : ℕ → ℕ → List ℕ → List Term
set_terms first width places = col 1 0 ∷ col 1 0 ∷ written places (cols 0 first (length places)) (cols 1 1 width)

pub take_few : {X : Type 0} (xs : List X) → length xs ≤ 1 → take 1 xs ≡ xs
take_few [] few = refl
take_few (x ∷ []) few = refl
take_few (x ∷ y ∷ xs) few = absurd (omega (arith, few))

pub option_list : {X Y : Type 0} (f : X → Y) (o : Option X) → option_to_list (option_map f o) ≡ map f (option_to_list o)
option_list f None = refl
option_list f (Some x) = refl

some_seen : {X Y : Type 0} (P : Y → Type 0) (f : X → Y) (o : Option X) → IfSome o (λ x. P (f x)) → AllByRecursion P (map f (option_to_list o))
some_seen P f None h = tt
some_seen P f (Some x) h = (h, tt)

module _ {A : Type 0} (t : BranchRows A) where
  abbrev items : Books → List (Row A)
  items = t.rows.part.items

  abbrev columns : Row A → sql.Row
  columns = t.rows.columns

  abbrev tree : ℕ
  tree = t.rows.table.tree

  abbrev pub wide : ℕ
  wide = width t.rows

  abbrev has_key : ℕ → ℕ → sql.Row → Bool
  has_key b n vs = number_test 0 b vs && (number_test 1 n vs && true)

  key_tested : (b n : ℕ) (row : Row A) → has_key b n (columns row) ≡ is_row b n row
  key_tested b n row = two_tested _ _ (test_of (columns row) 0 row.branch b (t.begins row).0) (test_of (columns row) 1 row.number n (t.begins row).1)

  -- ---- the row of a number

  abbrev pub one_query : Query
  one_query = plain_query tree of_two (cols 1 1 wide) []

  -- whether only the row of the number is shown; `refl` if the table is known
  abbrev pub ShowsOne : Type 0
  ShowsOne =
      (b n : ℕ) (r : sql.Row)
      → cond (list_all (holds ((number_value b ∷ number_value n ∷ []) ∷ r ∷ [])) of_two)
      (output one_query ((number_value b ∷ number_value n ∷ []) ∷ r ∷ []) ∷ []) []
      ≡ cond (has_key b n (columns_of wide r)) (([], columns_of wide r) ∷ []) []

  pub one_shown : (text : List ℕ) → Selects shop_schema text one_query → ShowsOne → (old new : State) (b n : ℕ) (rows : List sql.Row)
      → Shown text (number_value b ∷ number_value n ∷ []) old new rows → (books : Books) → Holds old books → IsHeld books
      → rows ≡ map columns (filter (is_row b n) (items books))
  one_shown text means only old new b n rows h books holds held =
      selects_one shop_schema text tree wide of_two (cols 1 1 wide) [] means
      (number_value b ∷ number_value n ∷ []) old new rows holds.schema_is h columns (items books)
      (stood t.rows (counts_of books) books old.now.trees (with_own old.now.trees books holds.stands))
      (own_rows old.now.trees tree) (has_key b n) (is_row b n) (key_tested b n) (only b n) (picks_row b (items books) (t.counted books held b) n)

  module _ {R : Type 0} (seen : R → Row A) (text : List ℕ) where
    abbrev pub ReadsOne : Type 1
    ReadsOne = (old new : State) (b n : ℕ) (rows : List sql.Row) (o : Option R) → Shown text (number_value b ∷ number_value n ∷ []) old new rows
        → map (λ x. columns (seen x)) (option_to_list o) ≡ take 1 rows → IfSome o (λ x. IsRow t.Fits (seen x))
        → Reads old new (λ books. option_to_list (option_map (λ x. (seen x).it) o) ≡ at n (of b (items books)))

    pub reads_one : Selects shop_schema text one_query → ShowsOne → ReadsOne
    reads_one means only old new b n rows o h read kind = λ books holds held.
        let counted = t.counted books held b in
        let few : PicksOne (is_row b n) (items books) = picks_row b (items books) counted n in
        let found : rows ≡ map columns (filter (is_row b n) (items books)) = one_shown text means only old new b n rows h books holds held in
        let short : length rows ≤ 1 = subst (λ (k : ℕ). k ≤ 1) (sym (ap length found ∙ length-map columns (filter (is_row b n) (items books)))) few in
        let one : map seen (option_to_list o) ≡ filter (is_row b n) (items books) =
        unmapped_kind columns (IsRow t.Fits) t.one _ _ (some_seen (IsRow t.Fits) seen o kind)
        (all-filter (IsRow t.Fits) (is_row b n) (items books) (t.valued books held))
        (map-map columns seen (option_to_list o) ∙ read ∙ take_few rows short ∙ found) in (
          still_holds shop_schema StandsFor text _ old new means.plain rows h books holds,
          option_list (λ (x : R). (seen x).it) o ∙ sym (map-map (λ (row : Row A). row.it) seen (option_to_list o)) ∙ ap (map (λ (row : Row A). row.it)) one
              ∙ row_at (λ (it : A). it) b n (items books) counted ∙ ap (at n) (map-id (of b (items books))),
        )

  -- ---- rows that pass a test, in order of number

  module _ (tests : List Term) where
    abbrev pub sorted_query : Query
    sorted_query = plain_query tree tests (cols 1 1 wide) ((col 1 2, ascending Binary) ∷ [])

    -- whether the rows that pass are shown; `refl` if the table and the tests are known
    abbrev pub ShowsSorted : sql.Row → (sql.Row → Bool) → Type 0
    ShowsSorted params test =
        (r : sql.Row)
        → cond (list_all (holds (params ∷ r ∷ [])) tests) (output sorted_query (params ∷ r ∷ []) ∷ []) []
        ≡ cond (test (columns_of wide r)) ((column (columns_of wide r) 1 ∷ [], columns_of wide r) ∷ []) []

    module _ (text : List ℕ) (means : Selects shop_schema text sorted_query) (params : sql.Row) (test : sql.Row → Bool) (p : Row A → Bool)
        (tested : (row : Row A) → test (columns row) ≡ p row) (only : ShowsSorted params test)
        (rises : (books : Books) → IsHeld books → Rise (filter p (items books))) where
      pub sorted_shown : (old new : State) (rows : List sql.Row) → Shown text params old new rows → (books : Books) → Holds old books → IsHeld books
          → rows ≡ map columns (filter p (items books))
      sorted_shown old new rows h books holds held =
          let rise = rises books held in
          let sorted : sort_by (by (λ (row : Row A). row.number)) (filter p (items books)) ≡ filter p (items books) =
          rise_sorted (λ (row : Row A). row.number) (filter p (items books)) rise in
          selects_sorted shop_schema text tree wide tests (cols 1 1 wide) 1 means params old new rows holds.schema_is h columns (items books)
          (stood t.rows (counts_of books) books old.now.trees (with_own old.now.trees books holds.stands)) (own_rows old.now.trees tree) test p tested only
          (λ row. row.number) (λ row. (t.begins row).1) (rise_differ (λ (row : Row A). row.number) (filter p (items books)) rise)
          ∙ ap (map columns) sorted

      pub reads_sorted : {R : Type 0} (seen : R → Row A) (old new : State) (rows : List sql.Row) (all : List R) → Shown text params old new rows
          → map (λ x. columns (seen x)) all ≡ rows → AllByRecursion (λ x. IsRow t.Fits (seen x)) all
          → (books : Books) → Holds old books → IsHeld books → Holds new books × (map seen all ≡ filter p (items books))
      reads_sorted seen old new rows all h read kinds books holds held = (
        still_holds shop_schema StandsFor text params old new means.plain rows h books holds,
        unmapped_kind columns (IsRow t.Fits) t.one _ _ (all_map (IsRow t.Fits) seen all kinds)
            (all-filter (IsRow t.Fits) p (items books) (t.valued books held))
            (map-map columns seen all ∙ read ∙ sorted_shown old new rows h books holds held),
      )

  module _ {R : Type 0} (seen : R → Row A) (text : List ℕ) where
    -- the statement reads a branch's items that pass a test
    abbrev pub ReadsWhich : sql.Row → ℕ → (A → Bool) → Type 1
    ReadsWhich params b which =
        (old new : State) (rows : List sql.Row) (all : List R) → Shown text params old new rows
        → map (λ x. columns (seen x)) all ≡ rows → AllByRecursion (λ x. IsRow t.Fits (seen x)) all
        → Reads old new (λ books. map (λ x. (seen x).it) all ≡ filter which (of b (items books)))

    -- `tested` says that the filter on a row's columns is the test; `only` is `refl`
    pub reads_which : (tests : List Term) → Selects shop_schema text (sorted_query tests)
        → (params : sql.Row) (b : ℕ) (test : sql.Row → Bool) (which : A → Bool) → ((row : Row A) → test (columns row) ≡ of_which which b row)
        → ShowsSorted tests params test → ReadsWhich params b which
    reads_which tests means params b test which tested only old new rows all h read kinds = λ books holds held.
        let found =
        reads_sorted tests text means params test (of_which which b) tested only
        (λ books held. which_rise which b (items books) (t.counted books held b)) seen old new rows all h read kinds books holds held in (
          found.0,
          sym (map-map (λ (row : Row A). row.it) seen all) ∙ ap (map (λ (row : Row A). row.it)) found.1
              ∙ which_are which b (items books) (t.counted books held b),
        )

  -- ---- an INSERT of a row

  abbrev pub PutsRow : List ℕ → Type 1
  PutsRow text = PutsLast t.rows text

  -- the premises are `refl` if the text is known
  pub puts_row : (text : List ℕ) → Means shop_schema text (Insert t.rows.place (Values (values wide) (suc wide)))
      → ((x : Row A) → value_rows (columns x) (suc wide) (length (values wide) / suc wide) (values wide) ≡ eval_all (values wide) (columns x ∷ []) ∷ [])
      → ((x : Row A) → eval_all (values wide) (columns x ∷ []) ≡ Null ∷ columns x)
      → ((x : Row A) (id : Value) → columns_of wide (id ∷ columns x) ≡ columns x) → PutsRow text
  puts_row text means one is whole = puts_last t.rows text means one is t.kept whole

  -- ---- an UPDATE of some columns of one row

  -- `places` are the places of the columns, from 0; all premises are `refl` if the text is known
  module _ (text : List ℕ) (places : List ℕ) (vs : List Value) (f : A → A) (b n : ℕ) where
    abbrev pub set_columns : sql.Row → sql.Row
    set_columns row = written places vs (columns_from 0 wide row)

    abbrev pub set_item : Row A → Row A
    set_item row = record row { it = f row.it }

    abbrev pub set_params : sql.Row
    set_params = number_value b ∷ number_value n ∷ vs

    abbrev makes : List Term
    makes = set_terms 2 wide places

    -- of books in which no two rows have the number, and of all books of a chain
    abbrev pub IsOne : Books → Type 0
    IsOne books = PicksOne (is_row b n) (items books)

    abbrev pub SetsWhere : (Books → Type 0) → Type 1
    SetsWhere Given =
        (old new : State) (count : ℕ) → ExecutesInside 0 text set_params old new (Ok count)
        → Writes old new Given (λ books. t.rows.part.filled (set_row b n f (items books)) books)

    module _ (means : Means shop_schema text (Update t.rows.place (record { lets = []; body = plain_query tree of_two makes [] })))
        (sets_are : (row : Row A) → set_columns (columns row) ≡ columns (set_item row))
        (sees : (r : sql.Row) → list_all (holds (set_params ∷ r ∷ [])) of_two ≡ has_key b n (columns_of wide r))
        (shown : (r : sql.Row) → drop 1 (eval_all makes (set_params ∷ r ∷ [])) ≡ rowid r ∷ set_columns (columns_of wide r))
        (ids : (r : sql.Row) → id_of (eval_all makes (set_params ∷ r ∷ [])) ≡ id_of r)
        (whole : (r : sql.Row) → columns_of wide (Int (id_of r) ∷ set_columns (columns_of wide r)) ≡ set_columns (columns_of wide r))
        (casts : (w : Value) (row : sql.Row) → cast_row t.rows.table (w ∷ row) ≡ cast kind.Integer w ∷ cast_all t.rows.table.columns row) where
      pub sets_one : SetsWhere IsOne
      sets_one old new count h counts =
          let change : Books → Books = λ them. t.rows.part.filled (update_where (is_row b n) set_item (items them)) them in
          let kept : (row : Row A) → are_kept t.rows.table.columns (set_columns (columns row)) ≡ true =
          λ row. ap (are_kept t.rows.table.columns) (sets_are row) ∙ t.kept (set_item row) in
          writes_by shop_schema (StandsWith counts) old new IsOne change (λ has.
          sets_row shop_schema (StandsWith counts) text t.rows.place t.rows.table wide of_two makes set_params columns
          (has_key b n) (is_row b n) set_columns set_item (key_tested b n) sets_are kept old new has
          means t.rows.plain.place refl count h (own_rows old.now.trees t.rows.table.tree) sees shown ids whole casts IsOne change
          (λ them same s few sets.
          changed t.rows counts them (update_where (is_row b n) set_item (items them)) old.now.trees new.now.trees same s
          (sets (items them) (stood t.rows counts them old.now.trees s) few)))

      pub sets_held : SetsWhere IsHeld
      sets_held old new count h counts books holds held = sets_one old new count h counts books holds (picks_row b (items books) (t.counted books held b) n)
