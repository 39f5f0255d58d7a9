-- The books that two files hold.
use Rattle.std.specs.Prelude.{◌≡◌, ◌⊎◌, map}
use Rattle.sqlite_disk.specs.declared.Disk.{Ghosts}
use Rattle.sqlite_disk.specs.declared.Files.{Files}
use Rattle.sqlite_wal.specs.Reads.{AreClean}
use Rattle.sqlite_wal.specs.Recovery.{Image}
use Rattle.sqlite_trees.specs.Tree.{Trees}
use Rattle.sqlite_catalog.specs.Listing.{IsSound as IsDatabaseOf}
use Rattle.sqlite.specs.Schema.{Schema}
use Rattle.sqlite.specs.State.{State}
use Rattle.sqlite.specs.Files.{HoldsDatabase}
use Rattle.sql_rows.specs.Rows.{columns_of}
use Rattle.sql_rows.specs.Files.{IsHeldIn, HoldsOne}
use Rattle.shop_model.specs.Books.{Books}
use Rattle.shop_model.specs.Migration.{IsSoundWithoutTerms, migrated}
use Rattle.shop_model.specs.Sound.{IsSound}
use Rattle.shop_schema.specs.Held.{AreValues}
use Rattle.shop_schema.specs.Shop.{StandsFor, StandsForVersion1, HasVersion, shop_schema, version_1_schema}
use Rattle.shop_schema.specs.Versions.{version_of}
use Rattle.shop_schema.specs.declared.known.KnownVersion.{KnownVersion}
use Rattle.shop_schema.specs.declared.known.KnownVersion.TheVariants.{This, Missing, First, Other}
use Rattle.chain_requests.specs.Chains.{widest_rules, StandsForEither, StandsSoundly}
use Rattle.chain_files.specs.Migrations.{StandsSoundlyForVersion1}

-- What is known of the tables. `This`: they are a chain's of this version. `Missing`: they aren't a chain's. Then the first table isn't the table of the
-- version, or it hasn't exactly its one row, or it says this version of other tables. `First` and `Other`: the first table says version 1 or any other
-- version, whatever the other tables are.
abbrev pub Knows : KnownVersion → State → Type 0
Knows This s = (s.now.schema ≡ shop_schema) × (version_of (map (columns_of 1) (s.now.trees 0)) ≡ This)
Knows Missing s =
    (¬ HasVersion s.now.schema)
    ⊎ ((version_of (map (columns_of 1) (s.now.trees 0)) ≡ Missing)
    ⊎ ((version_of (map (columns_of 1) (s.now.trees 0)) ≡ This) × (¬ (s.now.schema ≡ shop_schema))))
Knows First s = HasVersion s.now.schema × (version_of (map (columns_of 1) (s.now.trees 0)) ≡ First)
Knows Other s = HasVersion s.now.schema × (version_of (map (columns_of 1) (s.now.trees 0)) ≡ Other)

-- the tables are those that version 1 has, and the first table says version 1
abbrev pub IsFirst : State → Type 0
IsFirst s = (s.now.schema ≡ version_1_schema) × (version_of (map (columns_of 1) (s.now.trees 0)) ≡ First)

-- the tables aren't a chain's of this version or of version 1
abbrev pub IsNeither : State → Type 0
IsNeither s = Knows Missing s ⊎ (Knows First s × (¬ (s.now.schema ≡ version_1_schema)))

-- an image of the two files, as read or as a crash left it, holds a database whose tables stand for the books
pub record HoldsBooks (image : Image) (books : Books) : Type 0 where
  pub db : Trees
  pub holds : ∥ HoldsDatabase image db ∥₁
  pub stands : StandsFor db books
  pub sound : IsSound widest_rules books
  pub values : AreValues books

-- The files keep the books of a closed chain: a close promises this, and an open requires it. The books are sound. If the disk was honest, the files hold a
-- database whose tables stand for the books. So they do after a crash.
pub record KeepsBooks {D : Type 0} (g : Ghosts D) (files : Files D) (books : Books) : Type 0 where
  pub sound : IsSound widest_rules books
  pub values : AreValues books
  pub left : AreClean g files.log files.db → HoldsOne g files (λ db. StandsFor db books)

-- The files keep the books of a closed chain whose store may have failed: `books` are the books before the request at which it failed, `besides` the books
-- after it. The files keep one of the two.
pub record KeepsEither {D : Type 0} (g : Ghosts D) (files : Files D) (books besides : Books) : Type 0 where
  pub sound : IsSound widest_rules books
  pub values : AreValues books
  pub left : AreClean g files.log files.db → HoldsOne g files (StandsForEither books besides)

-- no database in the files has exactly the tables of a chain and stands for books
abbrev pub HoldsNoChain : Image → Type 0
HoldsNoChain image = (db : Trees) → HoldsDatabase image db → IsDatabaseOf shop_schema db → (books : Books) → ¬ StandsFor db books

-- the files hold a database that has the tables of a chain, and the one row of the first table says this version
abbrev pub HasThisVersion : Image → Type 0
HasThisVersion image = (db : Trees) × IsHeldIn image db × IsDatabaseOf shop_schema db × (version_of (map (columns_of 1) (db 0)) ≡ This)

-- No database in the files says a version: it doesn't begin with the table of the version, or that table hasn't exactly its one row. Or the table says this
-- version, and the other tables are others.
abbrev pub HasNoVersion : Image → Type 0
HasNoVersion image = (db : Trees) → HoldsDatabase image db → (schema : Schema) × IsDatabaseOf schema db
    × ((¬ HasVersion schema)
    ⊎ ((version_of (map (columns_of 1) (db 0)) ≡ Missing) ⊎ ((version_of (map (columns_of 1) (db 0)) ≡ This) × (¬ (schema ≡ shop_schema)))))

-- the files hold a database that begins with the table of the version, and the table's one row says this version
abbrev pub TellsVersion : KnownVersion → Image → Type 0
TellsVersion known image =
    (db : Trees) × IsHeldIn image db × (schema : Schema) × IsDatabaseOf schema db × HasVersion schema × (version_of (map (columns_of 1) (db 0)) ≡ known)

-- the database says another version than this one
abbrev pub HasOtherVersion : Image → Type 0
HasOtherVersion image = TellsVersion First image ⊎ TellsVersion Other image

-- the files hold a database whose tables stand for the books
abbrev pub HoldsSoundly : Image → Books → Type 0
HoldsSoundly image books = (db : Trees) × IsHeldIn image db × StandsFor db books

-- the files hold a database that has the tables of a chain and says this version, but its tables stand for no sound books
abbrev pub HoldsDamage : Image → Type 0
HoldsDamage image = (db : Trees) × IsHeldIn image db × IsDatabaseOf shop_schema db × (version_of (map (columns_of 1) (db 0)) ≡ This) × (¬ StandsSoundly db)

-- ---- files of version 1, in which rentals had no terms

-- an image of the two files, read or left by a crash, holds a database whose tables stand for the books of version 1
pub record HoldsVersion1Books (image : Image) (books : Books) : Type 0 where
  pub db : Trees
  pub holds : ∥ HoldsDatabase image db ∥₁
  pub stands : StandsForVersion1 db books
  pub sound : IsSoundWithoutTerms widest_rules books
  pub values : AreValues books

-- the files keep the books of a closed chain of version 1
pub record KeepsVersion1Books {D : Type 0} (g : Ghosts D) (files : Files D) (books : Books) : Type 0 where
  pub sound : IsSoundWithoutTerms widest_rules books
  pub values : AreValues books
  pub left : AreClean g files.log files.db → HoldsOne g files (λ db. StandsForVersion1 db books)

-- a database whose tables are of version 1 and stand for the books; or its tables are of this version and stand for the books with the terms of each rental
abbrev pub StandsInEither : Books → Trees → Type 0
StandsInEither books db = StandsForVersion1 db books ⊎ StandsFor db (migrated books)

-- The files keep the books in one of the two versions. This is so after a migration was stopped.
pub record KeepsInEither {D : Type 0} (g : Ghosts D) (files : Files D) (books : Books) : Type 0 where
  pub sound : IsSoundWithoutTerms widest_rules books
  pub values : AreValues books
  pub left : AreClean g files.log files.db → HoldsOne g files (StandsInEither books)

-- no database in the files has exactly the tables of version 1 and stands for books
abbrev pub HoldsNoVersion1 : Image → Type 0
HoldsNoVersion1 image = (db : Trees) → HoldsDatabase image db → IsDatabaseOf version_1_schema db → (books : Books) → ¬ StandsForVersion1 db books

-- the files hold a database that has the tables of version 1, and the one row of the first table says version 1
abbrev pub HasVersion1 : Image → Type 0
HasVersion1 image = (db : Trees) × IsHeldIn image db × IsDatabaseOf version_1_schema db × (version_of (map (columns_of 1) (db 0)) ≡ First)

-- No database in the files says one of the two versions. It doesn't begin with the table of the version. Or that table hasn't exactly its one row, or says one
-- of the two versions of other tables.
abbrev pub HasNeitherVersion : Image → Type 0
HasNeitherVersion image = (db : Trees) → HoldsDatabase image db → (schema : Schema) × IsDatabaseOf schema db
    × ((¬ HasVersion schema)
    ⊎ ((version_of (map (columns_of 1) (db 0)) ≡ Missing) ⊎ (((version_of (map (columns_of 1) (db 0)) ≡ This) × (¬ (schema ≡ shop_schema)))
    ⊎ ((version_of (map (columns_of 1) (db 0)) ≡ First) × (¬ (schema ≡ version_1_schema))))))

-- the files hold a database whose tables stand for the books of version 1, which are sound and have values in their ranges
abbrev pub HoldsVersion1Soundly : Image → Books → Type 0
HoldsVersion1Soundly image books = (db : Trees) × IsHeldIn image db × StandsSoundlyForVersion1 db books

-- the files hold a database that has the tables of version 1 and says version 1, but its tables stand for no sound books
abbrev pub HoldsVersion1Damage : Image → Type 0
HoldsVersion1Damage image =
    (db : Trees) × IsHeldIn image db × IsDatabaseOf version_1_schema db
    × (version_of (map (columns_of 1) (db 0)) ≡ First) × ((books : Books) → ¬ StandsSoundlyForVersion1 db books)
