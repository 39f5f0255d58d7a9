-- Why a call may fail with `Failed`: only as its disk meets a fault.
use Rattle.std.specs.Prelude.{◌≡◌, ◌≤◌, ◌-◌, ◌^◌, ◌⊎◌, List, [], ◌∷◌, ◌++◌, length, ℕ, Some, None, IsTrue, Result, IfErr, slice_get}
use Rattle.std.specs.List.{AllByRecursion}
use Rattle.std.specs.Borrow.{MutBor}
use Rattle.sqlite_disk.specs.Disk.{MoreFaults}
use Rattle.sqlite_value.specs.Order.{Row}
use Rattle.sqlite_trees.specs.declared.store.Store.{Ghosts}
use Rattle.sqlite.specs.Held.{Held, state}
use Rattle.sqlite.specs.State.{State, HasCleanDisk, IsUnchanged, Survives, FailsToQuery, Shown, Begins}
use Rattle.sql_rows.specs.Fault.{IsToldOf, QueryGave}
use Rattle.sql_rows.specs.declared.fault.StoreFault.{StoreFault}
use Rattle.sql_rows.specs.declared.fault.StoreFault.TheVariants.{Failed}

-- the connection is open, and its queries may take any number of steps
pub record IsReady (s : State) : Type 0 where
  pub is_open : IsTrue s.is_open
  pub unlimited : s.step_limit ≡ None

-- the same inside a transaction
pub record IsReadyInside (s : State) : Type 0 where
  pub inside : IsTrue s.in_transaction
  pub ready : IsReady s

-- the disk has failed or refused once more
abbrev pub MetFaults : State → State → Type 0
MetFaults old new = MoreFaults old.faults new.faults

-- Where this is asked of the state before it, the call fails with `Failed` only as the disk meets a fault.
abbrev pub FailsByFaults : {S X : Type 0} → Ghosts S → MutBor (Held S) → MutBor (Held S) → Result X StoreFault → (State → Type 0) → Type 0
FailsByFaults g old new result Asked =
    HasCleanDisk (state g new.now) → IsReadyInside (state g old.now) → Asked (state g old.now)
    → IfErr result (λ e. e ≡ Failed → MetFaults (state g old.now) (state g new.now))

-- The same of a call outside a transaction, whose connection is ready before it.
abbrev pub FailsAtRest : {S X : Type 0} → Ghosts S → Held S → Held S → Result X StoreFault → (State → Type 0) → Type 0
FailsAtRest g old new result Asked =
    HasCleanDisk (state g new) → IsReady (state g old) → Asked (state g old) → IfErr result (λ e. e ≡ Failed → MetFaults (state g old) (state g new))

-- the reader of the first row gave this fault
abbrev pub FailsFirst : (Row → StoreFault → Type 0) → List Row → StoreFault → Type 0
FailsFirst Fails rows fault = (row : Row) × (Some row ≡ slice_get rows 0) × Fails row fault

-- the database gave the query an error that this fault reports, or the reader of the first row that it shows gave the fault
abbrev pub FailsToRead : (Row → StoreFault → Type 0) → List ℕ → Row → State → State → StoreFault → Type 0
FailsToRead Fails sql params old new fault =
    IsToldOf (QueryGave sql params old new) fault ⊎ ((rows : List Row) × Shown sql params old new rows × FailsFirst Fails rows fault)

-- if the fault is `Failed`, one of the rows is such as the reader may refuse
abbrev pub FailsAtOne : (Row → Type 0) → List Row → StoreFault → Type 0
FailsAtOne Refuses rows fault = fault ≡ Failed → ¬ AllByRecursion (λ row. ¬ Refuses row) rows

-- the database gave the query an error that this fault reports, or the reader refused one of the rows that it shows
abbrev pub FailsToReadAll : (Row → Type 0) → List ℕ → Row → State → State → StoreFault → Type 0
FailsToReadAll Refuses sql params old new fault =
    IsToldOf (QueryGave sql params old new) fault ⊎ ((rows : List Row) × Shown sql params old new rows × FailsAtOne Refuses rows fault)

-- ---- rows that are taken one at a time

-- the database gave the query an error that this fault reports, at its start or after it had shown some rows
abbrev pub FailsOnTheWay : {S : Type 0} → Ghosts S → List ℕ → Row → Held S → Held S → StoreFault → Type 0
FailsOnTheWay {S} g sql params old new fault =
    (mid : Held S) × (IsTrue (state g old).is_open → IsUnchanged (state g old) (state g mid)) × Survives (state g old) (state g mid) (λ _. ⊥)
    × IsToldOf (FailsToQuery sql params (state g mid) (state g new)) fault

-- An answer begins with rows that the taker took, and a row that it may refuse then.
abbrev pub RefusesOne : {T : Type 0} → (T → List Row → Type 0) → (T → Row → Type 0) → T → List ℕ → Row → State → Type 0
RefusesOne {T} Took Refuses taker sql params s =
    (given : List Row) × (row : Row) × (it : T) × Begins sql params s (given ++ row ∷ []) × (Took taker [] → Took it given) × Refuses it row

-- an answer begins with more rows than a loop counts
abbrev pub ShowsTooMany : List ℕ → Row → State → Type 0
ShowsTooMany sql params s = (given : List Row) × Begins sql params s given × (2 ^ 128 - 1 ≤ length given)

-- The database gave the query an error that this fault reports. Or nothing was changed, and the fault is `Failed` only if the taker may refuse a row that is
-- shown, or too many rows are.
abbrev pub FailsToTake : {S T : Type 0} → Ghosts S → (T → List Row → Type 0) → (T → Row → Type 0) → T → List ℕ → Row → Held S → Held S → StoreFault → Type 0
FailsToTake g Took Refuses taker sql params old new fault =
    FailsOnTheWay g sql params old new fault
    ⊎ (IsUnchanged (state g old) (state g new)
    × (fault ≡ Failed → RefusesOne Took Refuses taker sql params (state g old) ⊎ ShowsTooMany sql params (state g old)))
