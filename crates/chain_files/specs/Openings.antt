-- What making, opening and migrating a chain in two files promise. The disk was honest if no wrong answer from it was taken as true.
use Rattle.std.specs.Prelude.{◌≡◌, ◌≢◌, ◌⊎◌, true, false}
use Rattle.sqlite_disk.specs.Disk.{MoreFaults}
use Rattle.sqlite_disk.specs.declared.Disk.{Ghosts}
use Rattle.sqlite_disk.specs.declared.Files.{Files}
use Rattle.sqlite_wal.specs.Reads.{AreClean}
use Rattle.sqlite_trees.specs.Tree.{Trees}
use Rattle.sqlite_store.specs.declared.store.FileStore.{FileStore}
use Rattle.sqlite_catalog.specs.Listing.{IsSound as IsDatabaseOf}
use Rattle.sqlite.specs.State.{HasCleanDisk}
use Rattle.sqlite.specs.Files.{over_files, file_state, image_of}
use Rattle.sql_rows.specs.Books.{no_schema}
use Rattle.shop_types.specs.LimitValues.{Limits}
use Rattle.shop_model.specs.Books.{Books}
use Rattle.shop_model.specs.Migration.{migrated}
use Rattle.shop_schema.specs.Shop.{StandsFor}
use Rattle.shop_schema.specs.declared.known.KnownVersion.TheVariants.{Other}
use Rattle.chain_files.specs.declared.faults.OpenFault.{OpenFault}
use Rattle.chain_files.specs.declared.faults.OpenFault.TheVariants as fault
use Rattle.chain_requests.specs.Holding.{Chained}
use Rattle.chain_requests.specs.Chains.{IsAt}
use Rattle.chain_requests.specs.Wells.{IsWell}
use Rattle.chain_files.specs.Faults.{is_store_fault}
use Rattle.chain_files.specs.Migrations.{AreMigrated}
use Rattle.chain_files.specs.Files.{HoldsBooks, KeepsBooks, KeepsEither, HoldsNoChain, HoldsSoundly, HoldsDamage, HasThisVersion, HasNoVersion, HasOtherVersion}
use Rattle.chain_files.specs.Files.{TellsVersion, HoldsVersion1Books, HoldsVersion1Soundly, KeepsVersion1Books, KeepsInEither, HoldsNoVersion1, HasVersion1}
use Rattle.chain_files.specs.Files.{HasNeitherVersion, HoldsVersion1Damage}
use Rattle.sql_files.specs.Making.{IsNoneOr}
use Rattle.sql_rows.specs.Files.{HoldsOne, IsHeldIn, IsFoundIn, OpenFailed, HoldsNoTable}

-- ---- a chain that was made, opened or migrated

-- if the disk was honest, the chain is well, or the disk has failed or refused at least once
abbrev pub IsWellOrFaulty : {D : Type 0} {g : Ghosts D} → Chained (FileStore D g) → Type 0
IsWellOrFaulty chain = HasCleanDisk (file_state chain.conn) → IsWell over_files chain ⊎ MoreFaults 0 (file_state chain.conn).faults

-- ---- making

-- a database with no table, or a database whose tables stand for the books
abbrev pub IsNoneOrNew : Books → Trees → Type 0
IsNoneOrNew books = IsNoneOr (λ db. StandsFor db books)

-- a chain was made in the files, with the limits and the books
pub record IsCreated {D : Type 0} {g : Ghosts D} (files : Files D) (given : Limits) (books : Books) (chain : Chained (FileStore D g)) : Type 0 where
  pub limits : chain.limits ≡ given
  pub live : chain.is_failed ≡ false
  -- the disk was honest before
  pub honest : HasCleanDisk (file_state chain.conn) → AreClean g files.log files.db
  -- the chain has the books
  pub made : HasCleanDisk (file_state chain.conn) → IsAt over_files chain books books
  -- the files held no table
  pub none : HasCleanDisk (file_state chain.conn) → HoldsNoTable (image_of g files)

-- the fault if no chain with the books was made in the files, and what remains in the files
pub record IsNotCreated {D : Type 0} (g : Ghosts D) (files : Files D) (books : Books) (why : OpenFault) (left : Files D) : Type 0 where
  -- Already: the files hold a database that has a table, and still hold it afterwards
  pub already : AreClean g left.log left.db → why ≡ fault.Already
      → (db : Trees) × IsHeldIn (image_of g files) db × (¬ IsDatabaseOf no_schema db) × HoldsOne g left (λ found. found ≡ db)
  -- Any other fault: the files are as their failed opening left them. Or they held no table; then what they hold, or what a crash leaves of them, has no table
  -- or is the whole chain.
  pub stopped : AreClean g left.log left.db → why ≢ fault.Already
      → OpenFailed g files left ⊎ (HoldsNoTable (image_of g files) × HoldsOne g left (IsNoneOrNew books))
  -- the faults that only an opening reports don't occur
  pub chain : why ≢ fault.NotAChain
  pub version : why ≢ fault.OtherVersion
  pub damaged : why ≢ fault.Damaged

-- ---- opening

-- a chain was opened in the files, with the limits
pub record IsOpenedIn {D : Type 0} {g : Ghosts D} (files : Files D) (given : Limits) (chain : Chained (FileStore D g)) : Type 0 where
  pub limits : chain.limits ≡ given
  pub live : chain.is_failed ≡ false
  -- the disk was honest before
  pub honest : HasCleanDisk (file_state chain.conn) → AreClean g files.log files.db
  -- even if nothing was known of the files, they hold sound books, and the chain has them
  pub sound : HasCleanDisk (file_state chain.conn) → (books : Books) × HoldsSoundly (image_of g files) books × IsAt over_files chain books books
  -- the chain has the books that the files hold,
  pub found : HasCleanDisk (file_state chain.conn) → (books : Books) → HoldsBooks (image_of g files) books → IsAt over_files chain books books
  -- and the books of the chain that was closed,
  pub again : HasCleanDisk (file_state chain.conn) → (books : Books) → KeepsBooks g files books → IsAt over_files chain books books
  -- or, if the store had failed, one of the two books
  pub either : HasCleanDisk (file_state chain.conn) → (books besides : Books) → KeepsEither g files books besides
      → ∥ IsAt over_files chain books books ⊎ IsAt over_files chain besides besides ∥₁
  -- the files hold a chain of this version
  pub this : HasCleanDisk (file_state chain.conn) → HasThisVersion (image_of g files)

-- the fault if no chain was opened in the files, and what remains in the files
pub record IsNotOpened {D : Type 0} (g : Ghosts D) (files : Files D) (why : OpenFault) (left : Files D) : Type 0 where
  -- NotAChain: no tables in the files stand for books,
  pub no_chain : AreClean g left.log left.db → why ≡ fault.NotAChain → HoldsNoChain (image_of g files)
  -- and the files don't say a version
  pub no_version : AreClean g left.log left.db → why ≡ fault.NotAChain → HasNoVersion (image_of g files)
  -- OtherVersion: the files say another version
  pub other : AreClean g left.log left.db → why ≡ fault.OtherVersion → HasOtherVersion (image_of g files)
  -- Damaged: the files hold a chain of this version, whose tables stand for no sound books
  pub damaged : AreClean g left.log left.db → why ≡ fault.Damaged → AreClean g files.log files.db × HoldsDamage (image_of g files)
  -- for any fault, the files are as the failed opening of their database left them, or still hold the database that was found in them
  pub kept : AreClean g left.log left.db → OpenFailed g files left ⊎ ((db : Trees) × IsFoundIn (image_of g files) db × HoldsOne g left (λ found. found ≡ db))
  -- So what remains in the files keeps the books that they kept: the books of a chain that was closed,
  pub books : AreClean g left.log left.db → (books : Books) → KeepsBooks g files books → OpenFailed g files left ⊎ KeepsBooks g left books
  -- or, if its store had failed, `books` or `besides`.
  pub either : AreClean g left.log left.db → (books besides : Books)
      → KeepsEither g files books besides → OpenFailed g files left ⊎ KeepsEither g left books besides
  -- the fault that only making a chain reports doesn't occur
  pub already : why ≢ fault.Already

-- ---- migrating

-- a chain of version 1 in the files became a chain of this version, with the limits
pub record IsMigratedIn {D : Type 0} {g : Ghosts D} (files : Files D) (given : Limits) (chain : Chained (FileStore D g)) : Type 0 where
  pub limits : chain.limits ≡ given
  pub live : chain.is_failed ≡ false
  -- the disk was honest before
  pub honest : HasCleanDisk (file_state chain.conn) → AreClean g files.log files.db
  -- the files held the tables of version 1
  pub first : HasCleanDisk (file_state chain.conn) → HasVersion1 (image_of g files)
  -- even if nothing was known of the files, they held sound books of version 1; the chain has them, with the terms of each rental
  pub sound : HasCleanDisk (file_state chain.conn)
      → (books : Books) × HoldsVersion1Soundly (image_of g files) books × IsAt over_files chain (migrated books) (migrated books)
  -- the chain has the books of version 1 that the files held, with the terms of each rental,
  pub found : HasCleanDisk (file_state chain.conn) → (books : Books)
      → HoldsVersion1Books (image_of g files) books → IsAt over_files chain (migrated books) (migrated books)
  -- or the books of the chain of version 1 that was closed,
  pub again : HasCleanDisk (file_state chain.conn) → (books : Books)
      → KeepsVersion1Books g files books → IsAt over_files chain (migrated books) (migrated books)
  -- even if a migration had been stopped before
  pub resumed : HasCleanDisk (file_state chain.conn) → (books : Books) → KeepsInEither g files books → IsAt over_files chain (migrated books) (migrated books)

-- the fault if nothing was migrated in the files, or if that isn't certain, and what remains in the files
pub record IsNotMigrated {D : Type 0} (g : Ghosts D) (files : Files D) (why : OpenFault) (left : Files D) : Type 0 where
  -- Already: the files hold a chain of this version
  pub already : AreClean g left.log left.db → why ≡ fault.Already → HasThisVersion (image_of g files)
  -- NotAChain: no tables in the files, of this version or of version 1, stand for books,
  pub no_chain : AreClean g left.log left.db → why ≡ fault.NotAChain → HoldsNoChain (image_of g files) × HoldsNoVersion1 (image_of g files)
  -- and the files don't say either version
  pub no_version : AreClean g left.log left.db → why ≡ fault.NotAChain → HasNeitherVersion (image_of g files)
  -- OtherVersion: the files say a version that is neither
  pub other : AreClean g left.log left.db → why ≡ fault.OtherVersion → TellsVersion Other (image_of g files)
  -- Damaged: the files hold tables of version 1 that stand for no sound books
  pub damaged : AreClean g left.log left.db → why ≡ fault.Damaged → AreClean g files.log files.db × HoldsVersion1Damage (image_of g files)
  -- For any fault, the files are as the failed opening of their database left them, or still hold the database that was found in them. If the store
  -- failed or was out of memory or room, they may hold the migrated database instead.
  pub kept : AreClean g left.log left.db → OpenFailed g files left
      ⊎ ((db : Trees) × IsFoundIn (image_of g files) db × HoldsOne g left (λ found. (found ≡ db) ⊎ ((is_store_fault why ≡ true) × AreMigrated db found)))
  -- So the books that the files kept are still in the files, in one of the two versions.
  pub books : AreClean g left.log left.db → (books : Books) → KeepsInEither g files books → OpenFailed g files left ⊎ KeepsInEither g left books
