-- Defines which fault reports an error of the database, and which errors a call's fault can report.
use Rattle.std.specs.Prelude.{◌≡◌, ◌⊎◌, ℕ, Err, List, [], IsTrue, false}
use Rattle.sqlite_value.specs.Order.{Row}
use Rattle.sqlite_rules.specs.Lists.{Has}
use Rattle.sqlite_trees.specs.declared.store.Store.{Ghosts}
use Rattle.sqlite.specs.declared.error.Error.{Error}
use Rattle.sqlite.specs.declared.error.Error.TheVariants.{SqliteFailure}
use Rattle.sqlite.specs.declared.error.ErrorCode.TheVariants.{OutOfMemory, TooBig, TransactionState}
use Rattle.sqlite.specs.Held.{Held, state}
use Rattle.sqlite.specs.State.{State, Survives, ExecutesInside, FailsToQuery, IsTooLate}
use Rattle.sql_rows.specs.declared.fault.StoreFault.{StoreFault}
use Rattle.sql_rows.specs.declared.fault.StoreFault.TheVariants.{Memory, Size, Failed}

abbrev pub fault_of : Error → StoreFault
fault_of (SqliteFailure OutOfMemory) = Memory
fault_of (SqliteFailure TooBig) = Size
fault_of _ = Failed

-- The fault reports an error for which `Gave` holds. Each kind of fault reports some error, so the clause has its meaning from `Gave`.
abbrev pub IsToldOf : (Error → Type 0) → StoreFault → Type 0
IsToldOf Gave fault = (e : Error) × (fault ≡ fault_of e) × Gave e

-- the database gave the query this error, inside the transaction or when that had ended
abbrev pub QueryGave : List ℕ → Row → State → State → Error → Type 0
QueryGave sql params old new e = FailsToQuery sql params old new e ⊎ IsTooLate sql params old new e

-- the same of a statement that shows no rows
abbrev pub StatementGave : List ℕ → Row → State → State → Error → Type 0
StatementGave sql params old new e =
    (IsTrue old.in_transaction × ExecutesInside 0 sql params old new (Err e)) ⊎ ((old.in_transaction ≡ false) × (e ≡ SqliteFailure TransactionState))

-- and of one of several statements with no parameters: nothing was committed before it
pub record OneGave {S : Type 0} (g : Ghosts S) (texts : List (List ℕ)) (old new : Held S) (e : Error) : Type 0 where
  pub text : List ℕ
  pub among : Has texts text
  pub before : Held S
  pub survives : Survives (state g old) (state g before) (λ _. ⊥)
  pub gave : StatementGave text [] (state g before) (state g new) e
