-- Defines the steps from the tables of version 1 to the tables of version 2.
use Rattle.std.specs.Prelude.{◌≡◌, ℕ, List, [], ◌∷◌}
use Rattle.std.specs.List.{AllByRecursion}
use Rattle.sqlite_value.specs.Order as sql
use Rattle.sqlite_trees.specs.Tree.{Trees}
use Rattle.sqlite.specs.State.{State}
use Rattle.sql_rows.specs.Calls as calls
use Rattle.sql_rows.specs.Rows.{HasRows, SameBut}
use Rattle.shop_model.specs.Values.{Text, Rules, ByCode}
use Rattle.shop_model.specs.Books.{Books}
use Rattle.shop_model.specs.Migration.{IsSoundWithoutTerms, migrated, without_terms}
use Rattle.shop_schema.specs.RowValues.{this_version, first_version, versioned_columns, rule_columns}
use Rattle.shop_schema.specs.Counts.{counts_of}
use Rattle.shop_schema.specs.Shop.{StandsAs, Holds, HoldsVersion1, IsFirstShop, IsFirstKeyed, shop_schema, version_1_schema}

-- the tables of version 2, which still stand for books of version 1; they have the given version, rows of terms, and rows of the rule
abbrev pub IsUnderWay : ℕ → List sql.Row → List sql.Row → State → Books → Type 0
IsUnderWay version terms rule = calls.Holds shop_schema (λ trees books. StandsAs version (λ _. terms ∷ rule ∷ []) (counts_of books) trees books)

-- the table `chain` has one row, with this version and a token
abbrev pub Tells : ℕ → Text → Trees → Type 0
Tells version token trees = HasRows 2 (trees 0) (versioned_columns version token ∷ [])

-- ---- how each step leaves the tables, whatever they stand for

-- the new tables are added, and the other tables are as they were
pub record AddsTables (old new : Trees) : Type 0 where
  pub others : AllByRecursion (λ t. new t.tree ≡ old t.tree) version_1_schema.tables
  pub no_rule : new 59 ≡ []

-- if the table of the rule had no row, it has the rule now; the other tables are as they were
pub record PutsRule (old new : Trees) : Type 0 where
  pub others : SameBut shop_schema 59 old new
  pub rule : old 59 ≡ [] → HasRows 1 (new 59) (rule_columns ByCode ∷ [])

-- the table `chain` has this program's version with the same token, and the other tables are as they were
pub record SetsVersion (old new : Trees) (token : Text) : Type 0 where
  pub others : SameBut shop_schema 0 old new
  pub told : Tells this_version token new

-- ---- all of it

-- if the tables of version 1 stood for sound books, the new tables stand for the same books with the terms of each rental
abbrev pub Migrates : State → State → Type 0
Migrates old new = (rules : Rules) (books : Books) → IsSoundWithoutTerms rules books → HoldsVersion1 old books → Holds new (migrated books)

-- If the first table of version 1 said its version, the old tables stood for the books of the new tables, without terms.
abbrev pub StoodForSame : State → State → Type 0
StoodForSame old new =
    IsFirstShop old → IsFirstKeyed old → (token : Text) → Tells first_version token old.now.trees
    → (books : Books) → Holds new books → HoldsVersion1 old (without_terms books)
