-- What is left after tables were made in a database that had none, or were to be made.
use Rattle.std.specs.Prelude.{◌≡◌, ◌⊎◌}
use Rattle.sqlite_trees.specs.Tree.{Trees}
use Rattle.sqlite_catalog.specs.Listing.{IsSound as IsDatabaseOf}
use Rattle.sqlite.specs.State.{State}
use Rattle.sql_rows.specs.Books.{no_schema}

-- what the commit of new tables may leave, if the database had no table
abbrev pub LeavesMade : (Trees → Type 0) → State → Trees → Type 0
LeavesMade P old db = old.now.schema ≡ no_schema → P db

-- a database that has no table, or that fulfils `P`
abbrev pub IsNoneOr : (Trees → Type 0) → Trees → Type 0
IsNoneOr P db = IsDatabaseOf no_schema db ⊎ P db
