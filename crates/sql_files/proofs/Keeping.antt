-- What files hold after the store is closed, or their disks have crashed.
use Rattle.sql_rows.proofs.Common.{◌≡◌, ◌∙◌, subst, IsTrue, ∥∥₁_map, Held}
use Rattle.sqlite.specs.Held.{AreDatabases}
use Rattle.sqlite.specs.Files.{HoldsDatabase, file_state}
use Rattle.sqlite.proofs.Theorems.{opens_again}
use Rattle.sqlite_trees.specs.Tree.{Trees}
use Rattle.sqlite_trees.specs.View.{IsClean}
use Rattle.sqlite_trees.proofs.Doubt.{no_doubt}
use Rattle.sqlite_disk.specs.declared.Disk.{Ghosts}
use Rattle.sqlite_disk.specs.declared.Files.{Files}
use Rattle.sqlite_wal.specs.Files.{outcomes}
use Rattle.sqlite_wal.specs.Reads.{AreClean}
use Rattle.sqlite_wal.specs.Recovery.{Image}
use Rattle.sqlite_wal.proofs.LogLemmas.{SeenMayStay}
use Rattle.sqlite_pool.proofs.StateLemmas.{clean_is, may_leave_is}
use Rattle.sqlite_store.specs.declared.store.FileStore.{FileStore}
use Rattle.sqlite_store.specs.FileStore.{view, recovers, files as store_files}
use Rattle.sqlite_store.specs.Laws.{settled_at}
use Rattle.sql_rows.specs.Files.{HoldsOne}

pub clean_store : {D : Type 0} {g : Ghosts D} (it : FileStore D g) (files : Files D)
    → (files.log, files.db) ≡ store_files it → AreClean g files.log files.db → IsClean (view it)
clean_store {D} {g} it files is honest = no_doubt _ (clean_is it.pool ∙ subst (λ (p : D × D). AreClean g p.0 p.1) is honest)

-- each outcome of a crash of a closed store's files is a database that the store allowed
pub holds_one : {D : Type 0} {g : Ghosts D} (it : FileStore D g) (files : Files D) (P : Trees → Type 0)
    → (files.log, files.db) ≡ store_files it → AreClean g files.log files.db
    → IsTrue (view it).is_numbered → AreDatabases (recovers it) → ((db : Trees) → recovers it db → P db) → HoldsOne g files P
holds_one {D} {g} it files P is honest numbered sound within image may =
    let clean = subst (λ (p : D × D). AreClean g p.0 p.1) is honest in
    ∥∥₁_map (opens_again it numbered sound image (may_leave_is it.pool image clean (subst (λ (p : D × D). outcomes g p.0 p.1 image) is may)))
    (λ found. let r : (db : Trees) × P db × HoldsDatabase image db = (found.0, within found.0 found.1, found.2) in r)

pub kept_one : {D : Type 0} (g : Ghosts D) (files : Files D) (P Q : Trees → Type 0) → HoldsOne g files P → ((db : Trees) → P db → Q db) → HoldsOne g files Q
kept_one g files P Q holds weaker image may =
    ∥∥₁_map (holds image may) (λ found. let r : (db : Trees) × Q db × HoldsDatabase image db = (found.0, weaker found.0 found.1, found.2) in r)

-- while a connection is open, a crash leaves only the last commit
pub only_committed : {D : Type 0} {g : Ghosts D} (c : Held (FileStore D g)) → SeenMayStay g
    → IsTrue (file_state c).is_open → (db : Trees) → (file_state c).may_leave db → db ≡ (file_state c).committed.trees
only_committed c stays live db may = settled_at c.store stays db live may

-- after a crash of the disks the files hold no more outcomes than before
pub crashed_one : {D : Type 0} (g : Ghosts D) (files now : Files D) (P : Trees → Type 0)
    → ((image : Image) → outcomes g now.log now.db image → outcomes g files.log files.db image)
    → (AreClean g now.log now.db → AreClean g files.log files.db)
    → (AreClean g files.log files.db → HoldsOne g files P) → AreClean g now.log now.db → HoldsOne g now P
crashed_one g files now P left clean holds honest image may = holds (clean honest) image (left image may)
