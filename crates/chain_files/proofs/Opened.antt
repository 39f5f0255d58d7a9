-- A chain in files is well from its opening on, unless the disk met a fault.
use Rattle.shop_schema.proofs.Common.{◌≡◌, false, inl, inr, arith, Trees, Held, file_state, HasCleanDisk, Survives, IsOpened}
use Rattle.sqlite_disk.specs.declared.Disk.{Ghosts}
use Rattle.sqlite_store.specs.declared.store.FileStore.{FileStore}
use Rattle.sqlite.specs.Held.{IsNew}
use Rattle.sql_rows.proofs.CallFaults.{ready_or_met}
use Rattle.chain_requests.specs.Holding.{Chained}
use Rattle.chain_files.specs.Openings.{IsWellOrFaulty}

-- a chain over a connection that was just opened, after one call of it
pub opened_well : {D : Type 0} {g : Ghosts D} {P : Trees → Type 0} (old : Held (FileStore D g)) (chain : Chained (FileStore D g))
    → Survives (file_state old) (file_state chain.conn) P → (HasCleanDisk (file_state old) → IsOpened old) → IsNew old
    → chain.is_failed ≡ false → IsWellOrFaulty chain
opened_well old chain survives opened new works clean =
    let first : HasCleanDisk (file_state old) = omega (arith, clean, survives.clean) in
    elim (ready_or_met (file_state old) (file_state chain.conn) survives clean (record { is_open = (opened first).0.is_open; unlimited = new.unlimited })) [
      | inl ready ↦ inl (record { works = works; ready = ready })
      | inr met ↦ inr (omega (arith, met))
    ]
