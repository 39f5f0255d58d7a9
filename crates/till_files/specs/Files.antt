-- The till's book in two files.
use Rattle.std.specs.Prelude.{◌≡◌, ◌⊎◌, []}
use Rattle.sqlite_disk.specs.declared.Disk.{Ghosts}
use Rattle.sqlite_disk.specs.declared.Files.{Files}
use Rattle.sqlite_wal.specs.Reads.{AreClean}
use Rattle.sqlite_wal.specs.Recovery.{Image}
use Rattle.sqlite_trees.specs.Tree.{Trees}
use Rattle.sqlite_catalog.specs.Listing.{IsSound as IsDatabaseOf}
use Rattle.sqlite.specs.State.{State}
use Rattle.sqlite.specs.Files.{HoldsDatabase}
use Rattle.sql_files.specs.Making.{LeavesMade as MayLeave, IsNoneOr}
use Rattle.sql_rows.specs.Files.{IsHeldIn, HoldsOne}
use Rattle.till_book.specs.Tables.{book_schema}
use Rattle.till_book.specs.Journal.{Journal, StandsFor, IsWritten}
use Rattle.till_files.specs.Migrations.{first_schema}

abbrev pub empty_journal : Journal
empty_journal = record { entries = []; replies = []; settled = [] }

-- ---- what is found in files

-- the files hold a database that has the tables of a book, and no other table
abbrev pub HasBook : Image → Type 0
HasBook image = (db : Trees) × IsHeldIn image db × IsDatabaseOf book_schema db

-- no database in the files has exactly the tables of a book
abbrev pub HasNoBook : Image → Type 0
HasNoBook image = (db : Trees) → HoldsDatabase image db → ¬ IsDatabaseOf book_schema db

-- an image of the two files, as it is read or as a crash left it, holds a database whose tables hold this journal
pub record HoldsBook (image : Image) (journal : Journal) : Type 0 where
  pub db : Trees
  pub holds : ∥ HoldsDatabase image db ∥₁
  pub stands : StandsFor db journal

-- ---- what is left in files

-- the tables hold the journal or the other journal `besides`
abbrev pub StandsForEither : Journal → Journal → Trees → Type 0
StandsForEither journal besides db = StandsFor db journal ⊎ StandsFor db besides

-- a crash leaves the journal or the other journal `besides`
abbrev pub LeavesEither : State → Journal → Journal → Type 0
LeavesEither s journal besides = (db : Trees) → s.may_leave db → StandsForEither journal besides db

-- The files keep the journal of a closed book. If the disk was honest, whatever is found in the files, or left by a crash, is a database whose tables hold the
-- journal.
abbrev pub KeepsBook : {D : Type 0} → Ghosts D → Files D → Journal → Type 0
KeepsBook g files journal = AreClean g files.log files.db → HoldsOne g files (λ db. StandsFor db journal)

-- the files keep the journal or the other journal `besides`
abbrev pub KeepsEither : {D : Type 0} → Ghosts D → Files D → Journal → Journal → Type 0
KeepsEither g files journal besides = AreClean g files.log files.db → HoldsOne g files (StandsForEither journal besides)

-- what a commit that makes the tables may leave on the disk
abbrev pub LeavesMade : State → Trees → Type 0
LeavesMade old = MayLeave (λ db. StandsFor db empty_journal) old

-- a database with no table, or the tables of a book without an entry
abbrev pub IsNoneOrNew : Trees → Type 0
IsNoneOrNew = IsNoneOr (λ db. StandsFor db empty_journal)

-- ---- books that were made before they had tables beside the journal

-- the files hold a database that has the journal's tables, these and no other
abbrev pub HasFirstBook : Image → Type 0
HasFirstBook image = (db : Trees) × IsHeldIn image db × IsDatabaseOf first_schema db

abbrev pub HasNoFirstBook : Image → Type 0
HasNoFirstBook image = (db : Trees) → HoldsDatabase image db → ¬ IsDatabaseOf first_schema db

-- an image of the two files holds a database whose first tables are this journal
pub record HoldsFirstBook (image : Image) (journal : Journal) : Type 0 where
  pub db : Trees
  pub holds : ∥ HoldsDatabase image db ∥₁
  pub written : IsWritten db journal

-- if the disk was honest, the files hold a database whose first tables are this journal, even after a crash
abbrev pub KeepsFirstBook : {D : Type 0} → Ghosts D → Files D → Journal → Type 0
KeepsFirstBook g files journal = AreClean g files.log files.db → HoldsOne g files (λ db. IsWritten db journal)

-- the database as it was found, or a book of the same journal
abbrev pub IsMigratedFrom : Trees → Trees → Type 0
IsMigratedFrom old db = (db ≡ old) ⊎ ((journal : Journal) → IsDatabaseOf first_schema old → IsWritten old journal → StandsFor db journal)
