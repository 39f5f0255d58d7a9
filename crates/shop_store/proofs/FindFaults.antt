-- Why looks for rows fail with `Failed`: the rows of sound books are such as the program can hold, so that none is refused.
use Rattle.shop_schema.proofs.Common.{◌≡◌, ◌≢◌, ◌≤◌, ◌∙◌, at, ap, ℕ, List, [], ◌∷◌, map, filter, length, Bool, true, inl, inr, refl, sym, subst}
use Rattle.shop_schema.proofs.Common.{AllByRecursion, all-filter, all_map}
use Rattle.shop_schema.proofs.Common.{all_weaker, Query, State, number_value, Selects, Term, Row, is_row, Books, IsHeld, IsRow, shop_schema, StoreFault, Failed}
use Rattle.sqlite_value.specs.Order as sql
use Rattle.sqlite_typing.specs.Types.{accepts_program}
use Rattle.sqlite.specs.Listing.{understood}
use Rattle.sqlite.specs.State.{Shown}
use Rattle.sql_rows.specs.Causes.{IsReadyInside, MetFaults, FailsToRead, FailsToReadAll}
use Rattle.sql_rows.proofs.QueryFaults.{IsFine, IsOne, fine_plain, told_met, first_met}
use Rattle.shop_schema.specs.Asked.{HoldsBooks}
use Rattle.shop_schema.specs.Kinds.{Values, columns_of, FitEach}
use Rattle.shop_schema.specs.TableOf.{TableOf}
use Rattle.shop_ledger.proofs.Rising.{of_which, which_rise}
use Rattle.shop_store.specs.Asked.{IsNoneOf}
use Rattle.shop_store.proofs.Ascending.{all_at}
use Rattle.shop_store.proofs.ByNumber.{ByNumber}
use Rattle.shop_store.proofs.SharedReads.{asked, Shows, shows_shared}
use Rattle.shop_store.proofs.BranchRows.{BranchRows, one_query, one_shown, sorted_query, sorted_shown, ShowsOne, ShowsSorted}

-- the row is that of an item such as the program can hold
abbrev pub IsSomeOf : {A : Type 0} → (A → Type 0) → (A → sql.Row) → sql.Row → Type 0
IsSomeOf {A} Fits columns row = (x : A) × Fits x × (columns x ≡ row)

-- a row that has no columns of the table's kinds is no row of the table
pub refused_by : {A : Type 0} {columns : A → sql.Row} {Fits : A → Type 0} (t : TableOf columns Fits) (row : sql.Row)
    → ((v : Values t.kinds) → FitEach t.kinds v → columns_of t.kinds v ≢ row) → IsNoneOf Fits columns row
refused_by {columns = columns} t row none x fits is =
    let v = t.only x fits in
    none v.0 v.1 (sym (t.told v.0) ∙ ap columns v.2 ∙ is)

-- what is shown of a SELECT are rows of items that the program can hold
module _ {A : Type 0} (Fits : A → Type 0) (columns : A → sql.Row) (text : List ℕ) (q : Query) (params : sql.Row) (fine : IsFine shop_schema text q params)
    (old new : State) (it : HoldsBooks old)
    (shown : (rows : List sql.Row) → Shown text params old new rows → (xs : List A) × AllByRecursion Fits xs × (rows ≡ map columns xs))
    (ready : IsReadyInside old) where
  all_some : (rows : List sql.Row) → Shown text params old new rows → AllByRecursion (IsSomeOf Fits columns) rows
  all_some rows h =
      let xs = shown rows h in
      subst (AllByRecursion (IsSomeOf Fits columns)) (sym xs.2)
      (all_map (IsSomeOf Fits columns) columns xs.0 (all_weaker Fits (λ x. IsSomeOf Fits columns (columns x)) (λ x fits. (x, fits, refl)) xs.0 xs.1))

  pub first_fits : (fault : StoreFault) → FailsToRead (λ row e. e ≡ Failed → IsNoneOf Fits columns row) text params old new fault
      → fault ≡ Failed → MetFaults old new
  first_fits =
      first_met (IsSomeOf Fits columns) shop_schema text q params fine old new it.1.schema_is
      (λ row fault fails failed is. fails failed is.0 is.1 is.2) all_some ready

  pub all_fit : (fault : StoreFault) → FailsToReadAll (IsNoneOf Fits columns) text params old new fault → fault ≡ Failed → MetFaults old new
  all_fit fault (inl told) failed = told_met shop_schema text q params fine old new it.1.schema_is ready fault told failed
  all_fit fault (inr h) failed =
      absurd (h.2 failed
      (all_weaker (IsSomeOf Fits columns) (λ row. ¬ IsNoneOf Fits columns row) (λ row is refuses. refuses is.0 is.1 is.2) h.0 (all_some h.0 h.1)))

-- ---- the rows of a branch

module _ {A : Type 0} (t : BranchRows A) (text : List ℕ) where
  -- the row of a number
  abbrev pub FindsOne : Type 1
  FindsOne =
      (old new : State) (b n : ℕ) → IsReadyInside old → HoldsBooks old → (fault : StoreFault)
      → FailsToRead (λ row e. e ≡ Failed → IsNoneOf (IsRow t.Fits) t.rows.columns row) text (number_value b ∷ number_value n ∷ []) old new fault
      → fault ≡ Failed → MetFaults old new

  -- all premises but the first are `refl` if the text and the table are known
  pub finds_one : Selects shop_schema text (one_query t) → ShowsOne t → IsOne (length text) 2 (understood shop_schema text)
      → ((b n : ℕ) → accepts_program shop_schema [] (one_query t) (number_value b ∷ number_value n ∷ []) ≡ true) → FindsOne
  finds_one means only one typed old new b n ready it =
      first_fits (IsRow t.Fits) t.rows.columns text (one_query t) (number_value b ∷ number_value n ∷ []) (fine_plain _ _ _ _ means one (typed b n)) old new it
      (λ rows h. (
        filter (is_row b n) (t.rows.part.items it.0),
        all-filter (IsRow t.Fits) (is_row b n) (t.rows.part.items it.0) (t.valued it.0 it.2),
        one_shown t text means only old new b n rows h it.0 it.1 it.2,
      )) ready

  -- the rows that pass a test
  abbrev pub FindsAll : sql.Row → Type 1
  FindsAll params =
      (old new : State) → IsReadyInside old → HoldsBooks old → (fault : StoreFault)
      → FailsToReadAll (IsNoneOf (IsRow t.Fits) t.rows.columns) text params old new fault → fault ≡ Failed → MetFaults old new

  -- the last three premises are `refl` if the text, the table and the tests are known
  pub finds_which : (tests : List Term) → Selects shop_schema text (sorted_query t tests)
      → (params : sql.Row) (b : ℕ) (test : sql.Row → Bool) (which : A → Bool) → ((row : Row A) → test (t.rows.columns row) ≡ of_which which b row)
      → ShowsSorted t tests params test → IsOne (length text) (length params) (understood shop_schema text)
      → accepts_program shop_schema [] (sorted_query t tests) params ≡ true → FindsAll params
  finds_which tests means params b test which tested only one typed old new ready it =
      all_fit (IsRow t.Fits) t.rows.columns text (sorted_query t tests) params (fine_plain _ _ _ _ means one typed) old new it
      (λ rows h. (
        filter (of_which which b) (t.rows.part.items it.0),
        all-filter (IsRow t.Fits) (of_which which b) (t.rows.part.items it.0) (t.valued it.0 it.2),
        sorted_shown t tests text means params test (of_which which b) tested only
            (λ books held. which_rise which b (t.rows.part.items books) (t.counted books held b)) old new rows h it.0 it.1 it.2,
      )) ready

-- ---- a shared row of a number

module _ {A : Type 0} (t : ByNumber A) (text : List ℕ) (shown : List Term) where
  -- `show` gives what is shown of a row's columns, which is such as `Is` says; the premises on the text are `refl` if the text and the table are known
  pub shared_met : {Fails : sql.Row → StoreFault → Type 0} (means : Selects shop_schema text (asked t text shown)) (show : sql.Row → sql.Row)
      → Shows t text shown show → IsOne (length text) 1 (understood shop_schema text)
      → ((n : ℕ) → accepts_program shop_schema [] (asked t text shown) (number_value n ∷ []) ≡ true)
      → (Fits : A → Type 0) → ((books : Books) → IsHeld books → AllByRecursion Fits (t.part.items books)) → (Is : sql.Row → Type 0)
      → (old new : State) (n : ℕ) → 1 ≤ n → ((books : Books) (x : A) → Fits x → Is (show (t.columns books (n, x))))
      → ((row : sql.Row) (fault : StoreFault) → Fails row fault → fault ≡ Failed → ¬ Is row) → IsReadyInside old → HoldsBooks old
      → (fault : StoreFault) → FailsToRead Fails text (number_value n ∷ []) old new fault → fault ≡ Failed → MetFaults old new
  shared_met means show only one typed Fits valued Is old new n low is refuses ready it =
      let books = it.0 in
      let found = at n (t.part.items books) in
      first_met Is shop_schema text (asked t text shown) (number_value n ∷ []) (fine_plain _ _ _ _ means one (typed n)) old new it.1.schema_is refuses
      (λ rows h.
      subst (AllByRecursion Is) (sym (shows_shared t text shown means show only old new n rows h low books it.1))
      (all_map Is (λ (x : A). show (t.columns books (n, x))) found
      (all_weaker Fits _ (is books) found (all_at Fits n (t.part.items books) (valued books it.2)))))
      ready
