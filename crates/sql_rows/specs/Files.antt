-- The database that two files hold, whatever its tables are.
use Rattle.std.specs.Prelude.{◌≡◌, ◌⊎◌, ℕ, true, List}
use Rattle.sqlite_disk.specs.declared.Disk.{Ghosts}
use Rattle.sqlite_disk.specs.declared.Files.{Files}
use Rattle.sqlite_wal.specs.Files.{outcomes}
use Rattle.sqlite_wal.specs.Recovery.{Image}
use Rattle.sqlite_pages.specs.PageMap.{PageMap}
use Rattle.sqlite_pool.specs.Stored.{Adopts}
use Rattle.sqlite_store.specs.declared.catalog.Wanted.{Wanted}
use Rattle.sqlite_store.specs.Listing.{IsOurs, file_trees}
use Rattle.sqlite_trees.specs.Tree.{Trees}
use Rattle.sqlite_catalog.specs.Listing.{IsSound as IsDatabaseOf}
use Rattle.sqlite.specs.Files.{HoldsDatabase, IsNothing, IsEmpty, IsCleanLeft, LeavesFiles}
use Rattle.sqlite.specs.Closing.{files_left}
use Rattle.sqlite.specs.declared.file.Leftover.{Leftover}
use Rattle.sql_rows.specs.Books.{no_schema}

-- The files hold this database: recovery finds pages in them that are a whole and sound file, which reads as these trees; and no other is read there.
pub record IsHeldIn (image : Image) (db : Trees) : Type 0 where
  pub recovers : (size : ℕ) × (pages : PageMap) × (wanted : List Wanted) × Adopts size image pages
      × ∥ IsOurs size true wanted pages ∥₁ × (db ≡ file_trees size wanted pages)
  pub only : (other : Trees) → HoldsDatabase image other → db ≡ other

-- the same, or they were no database yet, and it is the empty one
abbrev pub IsFoundIn : Image → Trees → Type 0
IsFoundIn image db = IsHeldIn image db ⊎ (IsNothing image × IsEmpty db × ((other : Trees) → HoldsDatabase image other → db ≡ other))

-- what is found in the files has no table: they hold a database without one, or were no database yet
abbrev pub HoldsNoTable : Image → Type 0
HoldsNoTable image = (db : Trees) × IsFoundIn image db × IsDatabaseOf no_schema db

-- whatever a crash leaves of the files, or a read finds in them, is a database that fulfils `P`
abbrev pub HoldsOne : {D : Type 0} → Ghosts D → Files D → (Trees → Type 0) → Type 0
HoldsOne g files P = (image : Image) → outcomes g files.log files.db image → ∥ ((db : Trees) × P db × HoldsDatabase image db) ∥₁

-- an open of `files` failed and left the files `now`
abbrev pub OpenFailed : {D : Type 0} → Ghosts D → Files D → Files D → Type 0
OpenFailed {D} g files now = (left : Leftover D g) × (files_left left ≡ (now.log, now.db)) × (IsCleanLeft left → LeavesFiles files left)
