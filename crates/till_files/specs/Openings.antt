-- The promises of making and of opening a book in two files.
use Rattle.std.specs.Prelude.{◌≡◌, ◌≢◌, ◌⊎◌, false}
use Rattle.sqlite_disk.specs.declared.Disk.{Ghosts}
use Rattle.sqlite_disk.specs.declared.Files.{Files}
use Rattle.sqlite_wal.specs.Reads.{AreClean}
use Rattle.sqlite_trees.specs.Tree.{Trees}
use Rattle.sqlite_store.specs.declared.store.FileStore.{FileStore}
use Rattle.sqlite_catalog.specs.Listing.{IsSound as IsDatabaseOf}
use Rattle.sqlite.specs.Held.{Held}
use Rattle.sqlite.specs.State.{HasCleanDisk}
use Rattle.sqlite.specs.Files.{file_state, image_of}
use Rattle.sql_rows.specs.Books.{no_schema}
use Rattle.till_book.specs.Journal.{Journal}
use Rattle.till_book.specs.Steps.{Rests}
use Rattle.till_files.specs.declared.faults.BookFault.{BookFault}
use Rattle.till_files.specs.declared.faults.BookFault.TheVariants as fault
use Rattle.till_files.specs.Files.{HasFirstBook, HasNoFirstBook, HoldsFirstBook, KeepsFirstBook, IsMigratedFrom, HasBook, HasNoBook, HoldsBook, KeepsBook}
use Rattle.till_files.specs.Files.{KeepsEither, IsNoneOrNew, empty_journal}
use Rattle.sql_rows.specs.Files.{IsHeldIn, IsFoundIn, HoldsNoTable, HoldsOne, OpenFailed}

-- ---- making

-- a book that was made in the files
pub record IsBookMade {D : Type 0} {g : Ghosts D} (files : Files D) (conn : Held (FileStore D g)) : Type 0 where
  pub ended : conn.in_transaction ≡ false
  -- if the disk was honest until now, it was honest before
  pub honest : HasCleanDisk (file_state conn) → AreClean g files.log files.db
  -- the book is empty
  pub made : HasCleanDisk (file_state conn) → Rests (file_state conn) empty_journal
  -- the files held no table
  pub none : HasCleanDisk (file_state conn) → HoldsNoTable (image_of g files)

-- no book was made in the files, because of that fault; the files are now `left`
pub record IsNotMade {D : Type 0} (g : Ghosts D) (files : Files D) (why : BookFault) (left : Files D) : Type 0 where
  -- Already: the files hold a database that has a table, and go on to hold it
  pub already : AreClean g left.log left.db → why ≡ fault.Already
      → (db : Trees) × IsHeldIn (image_of g files) db × (¬ IsDatabaseOf no_schema db) × HoldsOne g left (λ found. found ≡ db)
  -- Any other fault: either the files are as the failed opening left them, or they held no table. In the second case, what is found in the files, or left by a
  -- crash, has no table or is the whole book.
  pub stopped : AreClean g left.log left.db → why ≢ fault.Already → OpenFailed g files left ⊎ (HoldsNoTable (image_of g files) × HoldsOne g left IsNoneOrNew)
  -- only an opening fails with NotABook
  pub book : why ≢ fault.NotABook

-- ---- opening

-- a book that was opened in the files
pub record IsBookOpened {D : Type 0} {g : Ghosts D} (files : Files D) (conn : Held (FileStore D g)) : Type 0 where
  pub ended : conn.in_transaction ≡ false
  -- if the disk was honest until now, it was honest before
  pub honest : HasCleanDisk (file_state conn) → AreClean g files.log files.db
  -- the files hold the tables of a book, and no other table
  pub book : HasCleanDisk (file_state conn) → HasBook (image_of g files)
  -- the opened book is the one that is found in the files
  pub found : HasCleanDisk (file_state conn) → (journal : Journal) → HoldsBook (image_of g files) journal → Rests (file_state conn) journal
  -- the opened book is the one that was closed in the files
  pub again : HasCleanDisk (file_state conn) → (journal : Journal) → KeepsBook g files journal → Rests (file_state conn) journal
  -- if a change had been under way, the opened book is the book before or after the change
  pub either : HasCleanDisk (file_state conn) → (journal besides : Journal) → KeepsEither g files journal besides
      → ∥ Rests (file_state conn) journal ⊎ Rests (file_state conn) besides ∥₁

-- no book was opened in the files, because of that fault; the files are now `left`
pub record IsNotOpened {D : Type 0} (g : Ghosts D) (files : Files D) (why : BookFault) (left : Files D) : Type 0 where
  -- NotABook: no database in the files has the tables of a book
  pub no_book : AreClean g left.log left.db → why ≡ fault.NotABook → HasNoBook (image_of g files)
  -- whatever the fault is, the files are as the failed opening of their database left them, or they hold what was found in them
  pub kept : AreClean g left.log left.db → OpenFailed g files left ⊎ ((db : Trees) × IsFoundIn (image_of g files) db × HoldsOne g left (λ found. found ≡ db))
  -- only the making of a book fails with Already
  pub already : why ≢ fault.Already

-- ---- opening a book that was made before it had tables beside the journal

-- an old book that was opened in the files, and has its tables now
pub record IsBookMigrated {D : Type 0} {g : Ghosts D} (files : Files D) (conn : Held (FileStore D g)) : Type 0 where
  pub ended : conn.in_transaction ≡ false
  -- the disk was honest before
  pub honest : HasCleanDisk (file_state conn) → AreClean g files.log files.db
  -- the files held the journal's tables, these and no other
  pub book : HasCleanDisk (file_state conn) → HasFirstBook (image_of g files)
  -- its journal is the one that is found in the files,
  pub found : HasCleanDisk (file_state conn) → (journal : Journal) → HoldsFirstBook (image_of g files) journal → Rests (file_state conn) journal
  -- or that was closed
  pub again : HasCleanDisk (file_state conn) → (journal : Journal) → KeepsFirstBook g files journal → Rests (file_state conn) journal

-- the fault for which no old book was opened in the files, and what is left of them
pub record IsNotMigrated {D : Type 0} (g : Ghosts D) (files : Files D) (why : BookFault) (left : Files D) : Type 0 where
  -- NotABook: no database in the files has the journal's tables and no other
  pub no_book : AreClean g left.log left.db → why ≡ fault.NotABook → HasNoFirstBook (image_of g files)
  -- Whatever the fault is, the files are as the opening of their database left them that failed. Or they hold what was found in them, or the book with its
  -- tables.
  pub kept : AreClean g left.log left.db → OpenFailed g files left ⊎ ((db : Trees) × IsFoundIn (image_of g files) db × HoldsOne g left (IsMigratedFrom db))
  -- what only making a book reports isn't reported
  pub already : why ≢ fault.Already
