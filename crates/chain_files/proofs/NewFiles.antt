-- Why no chain was made in files.
use Rattle.shop_schema.proofs.Common.{◌≡◌, ◌≢◌, inl, Books, OpenFailed}
use Rattle.sqlite_disk.specs.declared.Disk.{Ghosts}
use Rattle.sqlite_disk.specs.declared.Files.{Files}
use Rattle.sqlite_wal.specs.Reads.{AreClean}
use Rattle.chain_files.specs.declared.faults.OpenFault.{OpenFault}
use Rattle.chain_files.specs.declared.faults.OpenFault.TheVariants as fault
use Rattle.chain_files.specs.Openings.{IsNotCreated}

-- a fault of the store, and what remains in the files
pub stopped_by : {D : Type 0} (g : Ghosts D) (files : Files D) (books : Books) (why : OpenFault) (left : Files D)
    → why ≢ fault.NotAChain → why ≢ fault.OtherVersion → why ≢ fault.Damaged → why ≢ fault.Already
    → (AreClean g left.log left.db → OpenFailed g files left) → IsNotCreated g files books why left
stopped_by g files books why left chain version damaged already failed = record {
  already = λ honest is. absurd (already is);
  stopped = λ honest _. inl (failed honest);
  chain = chain;
  version = version;
  damaged = damaged;
}
