-- Calls that find, one after another, fail only as the disk meets faults.
use Rattle.shop_schema.proofs.Common.{ℕ, Result, Books, MutBor, Ghosts, Held, state, State, StaysWithin, StoreFault}
use Rattle.sql_rows.specs.Causes.{FailsByFaults}
use Rattle.sql_rows.proofs.CallFaults.{fails_behind}
use Rattle.sql_rows.proofs.Chaining.{Calls}
use Rattle.shop_schema.specs.Asked.{HoldsBooks}
use Rattle.shop_ledger.specs.Asked.{HoldsBranch}
use Rattle.shop_ledger.specs.Calls.{Finds}

-- a call that finds leaves the books
pub finds_stay : {Says : Books → Type 0} {old new : State} → Finds Says old new → HoldsBooks old → HoldsBooks new
finds_stay said it = (it.0, (said it.0 it.1 it.2).0, it.2)

-- and the branch that is there
pub branch_stays : {Says : Books → Type 0} {old new : State} {b : ℕ} → Finds Says old new → HoldsBranch b old → HoldsBranch b new
branch_stays said it = (it.0, (said it.0 it.1 it.2).0, it.2, it.3)

pub has_books : {s : State} {b : ℕ} → HoldsBranch b s → HoldsBooks s
has_books it = (it.0, it.1, it.2)

-- a call after others
pub fails_after : {S Y : Type 0} {g : Ghosts S} {a b c : MutBor (Held S)} {r : Result Y StoreFault} (Asked Next : State → Type 0) (calls : Calls g a b)
    → (calls.Said → Asked (state g a.now) → Next (state g b.now)) → StaysWithin g b c r → FailsByFaults g b c r Next → FailsByFaults g a c r Asked
fails_after {c = c} {r = r} Asked Next calls stay last = fails_behind c r Asked Next calls.inside (λ clean. stay (calls.said clean)) last.survives
