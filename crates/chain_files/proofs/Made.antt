-- The state that a transaction leaves that makes the tables of a chain.
use Rattle.shop_schema.proofs.Common.{◌≡◌, inl, inr, refl, arith, no_doubt, Trees, true, Ghosts}
use Rattle.shop_schema.proofs.Common.{Held, state, State, HasCleanDisk, Survives, no_schema, survives_nothing, crash_new, Books, Holds}
use Rattle.sqlite_trees.specs.declared.memory.MemStore.{MemStore}
use Rattle.sqlite.specs.Steps.{over_memory}
use Rattle.sql_rows.specs.Causes.{IsReady}
use Rattle.sql_rows.proofs.CallFaults.{ready_or_met}
use Rattle.chain_requests.proofs.Resting.{leaves_less}
use Rattle.chain_files.specs.Making.{LeavesMade}

module _ {S : Type 0} (g : Ghosts S) (old mid end : Held S) where
  -- the tables were made by a transaction that was committed
  pub made_new : (books : Books) → (HasCleanDisk (state g mid) → (state g old).now.schema ≡ no_schema → Holds (state g mid) books)
      → Survives (state g (record old { in_transaction = true })) (state g mid) (λ _. ⊥)
      → Survives (state g mid) (state g end) (λ db. db ≡ (state g mid).now.trees) → Survives (state g old) (state g end) (LeavesMade (state g old) books)
  made_new books made inside ending = crash_new g old mid end (LeavesMade (state g old) books) (λ clean none. (made clean none).stands) inside ending

-- in a database that has tables, nothing is made
pub leaves_untouched : (s : State) (books : Books) → Survives s s (LeavesMade s books)
leaves_untouched s books = leaves_less s s (LeavesMade s books) (survives_nothing s)

-- in memory a connection that is ready stays ready
pub ready_in_memory : {P : Trees → Type 0} (old new : Held MemStore) → Survives (state over_memory old) (state over_memory new) P
    → IsReady (state over_memory old) → IsReady (state over_memory new)
ready_in_memory old new survives ready = elim (ready_or_met (state over_memory old) (state over_memory new) survives (no_doubt _ refl) ready) [
  | inl still ↦ still
  | inr met ↦ absurd (omega (arith, met))
]
