-- The results of migrating tables of version 1.
use Rattle.std.specs.Prelude.{◌↔◌, Bool, IsTrue}
use Rattle.sqlite_trees.specs.Tree.{Trees}
use Rattle.sqlite.specs.State.{State}
use Rattle.shop_model.specs.Values.{Text}
use Rattle.shop_model.specs.Books.{Books}
use Rattle.shop_model.specs.Migration.{IsSoundWithoutTerms, migrated, without_terms}
use Rattle.shop_migration.specs.Migrating.{Tells}
use Rattle.shop_schema.specs.RowValues.{first_version}
use Rattle.shop_schema.specs.Held.{AreValues}
use Rattle.shop_schema.specs.Shop.{StandsFor, StandsForVersion1, IsShop, IsKeyed, IsFirstShop, IsFirstKeyed}
use Rattle.chain_requests.specs.Chains.{Rests, StandsSoundly, widest_rules}

-- the tables of version 1 stand for the books, which are sound and have values in their ranges
abbrev pub StandsSoundlyForVersion1 : Trees → Books → Type 0
StandsSoundlyForVersion1 db books = StandsForVersion1 db books × AreValues books × IsSoundWithoutTerms widest_rules books

-- The new tables stand for sound books. If the old tables of version 1 stood for sound books, the new tables stand for the same books with the terms of each
-- rental. If the first old table says version 1, the old tables did stand for sound books.
pub record AreMigrated (old new : Trees) : Type 0 where
  pub sound : StandsSoundly new
  pub books : (books : Books) → StandsSoundlyForVersion1 old books → StandsFor new (migrated books)
  pub were : (token : Text) → Tells first_version token old → (books : Books) × StandsSoundlyForVersion1 old books × StandsFor new (migrated books)

-- the state has the tables of version 1, with rowids that rise
abbrev pub IsVersion1 : State → Type 0
IsVersion1 s = IsFirstShop s × IsFirstKeyed s

-- inside a transaction, the tables of version 1 became tables of this version; `told` says whether the new tables stand for sound books
pub record MigratesInside (told : Bool) (old new : State) : Type 0 where
  pub shop : IsVersion1 old → IsShop new × IsKeyed new
  pub sound : IsVersion1 old → IsTrue told ↔ StandsSoundly new.now.trees
  pub books : IsVersion1 old → (books : Books) → StandsSoundlyForVersion1 old.now.trees books → StandsFor new.now.trees (migrated books)
  pub were : IsVersion1 old → (token : Text) → Tells first_version token old.now.trees → (books : Books)
      → StandsFor new.now.trees books → StandsForVersion1 old.now.trees (without_terms books)

-- outside the transaction: the tables were migrated and that was committed, and the connection rests on all books for which the tables stand now
pub record IsMigration (old new : State) : Type 0 where
  pub was_open : IsTrue old.is_open
  pub tables : IsVersion1 old → AreMigrated old.now.trees new.now.trees
  pub rests : IsVersion1 old → (books : Books) → StandsFor new.now.trees books → Rests new books

-- the tables stand for no sound books of version 1
abbrev pub IsUnsoundVersion1 : State → Type 0
IsUnsoundVersion1 s = IsTrue s.is_open × (IsVersion1 s → (books : Books) → ¬ StandsSoundlyForVersion1 s.now.trees books)

-- what the commit of a migration may leave
abbrev pub LeavesMigrated : State → Trees → Type 0
LeavesMigrated old db = IsTrue old.is_open × (IsVersion1 old → AreMigrated old.now.trees db)
