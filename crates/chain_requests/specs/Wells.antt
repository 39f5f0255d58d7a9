-- When a chain fails: only as its disk meets a fault, in this call or in an earlier one.
use Rattle.std.specs.Prelude.{◌≡◌, ◌⊎◌, ◌≤◌, false, Bool, not}
use Rattle.sqlite_trees.specs.declared.store.Store.{Ghosts}
use Rattle.sqlite.specs.Held.{Held, state}
use Rattle.sqlite.specs.State.{State, HasCleanDisk}
use Rattle.sql_rows.specs.Causes.{IsReady, MetFaults}
use Rattle.shop_model.specs.Machine.{Request, Look}
use Rattle.shop_model.specs.Books.{Books}
use Rattle.shop_schema.specs.Held.{IsHeld}
use Rattle.branch_finds.specs.Looks.{is_list}
use Rattle.chain_requests.specs.Holding.{Chained}
use Rattle.chain_requests.specs.Chains.{Rests, IsAt}

-- the connection rests on books that the tables can hold
abbrev pub RestsOnBooks : State → Type 0
RestsOnBooks s = (books : Books) × Rests s books × IsHeld books

-- the chain hasn't failed, and its connection is ready
pub record IsWell {S : Type 0} (g : Ghosts S) (chain : Chained S) : Type 0 where
  pub works : chain.is_failed ≡ false
  pub ready : IsReady (state g chain.conn)

-- If a chain that has books is well before the call, it is well after the call, or the disk met a fault in it.
pub record StaysWell {S : Type 0} (g : Ghosts S) (old new : Chained S) : Type 0 where
  -- no fault is forgotten
  pub counts : (state g old.conn).faults ≤ (state g new.conn).faults
  pub stays : HasCleanDisk (state g new.conn) → (books besides : Books) → IsAt g old books besides → IsWell g old
      → IsWell g new ⊎ MetFaults (state g old.conn) (state g new.conn)

-- a branch's look at rows that are read inside the transaction, which asks for no list
abbrev pub is_row_look : Request → Bool
is_row_look (Look ask) = not (is_list ask)
is_row_look request = false
