-- The rowids of files that were opened rise.
use Rattle.sql_rows.proofs.Common.{◌≡◌, ℕ, List, [], ◌∷◌, filter, true, inl, inr, refl, sym, ap, subst, ∥∥₁_elim, AllByRecursion, AllZip, Row, Trees, IsShaped}
use Rattle.sql_rows.proofs.Common.{catalog_tree, Schema, IsSound, AreListed, IsTableRow, is_table_row, Database, Held, AreKeyed, IsOf, IsKeyed}
use Rattle.sqlite_disk.specs.declared.Disk as disk
use Rattle.sqlite_disk.specs.declared.Files.{Files}
use Rattle.sqlite_pages.specs.PageMap.{PageMap}
use Rattle.sqlite_wal.specs.Recovery.{Image}
use Rattle.sqlite_pool.specs.File.{version_in, in_use}
use Rattle.sqlite_trees.specs.declared.store.Shape.{Shape}
use Rattle.sqlite_trees.specs.declared.store.Shape.TheVariants.{Table as TableShape}
use Rattle.sqlite_trees.specs.Props.{IsShaped-prop}
use Rattle.sqlite_schema.specs.declared.schema.Table.{Table}
use Rattle.sqlite_keyed.proofs.ListLemmas.{all_weaker}
use Rattle.sqlite_catalog.proofs.LayoutLemmas.{laid_out}
use Rattle.sqlite_store.specs.declared.catalog.Wanted.{Wanted}
use Rattle.sqlite_store.specs.declared.store.FileStore.{FileStore}
use Rattle.sqlite_store.specs.Listing.{file_trees, all_shapes, listed_from, IsOurs}
use Rattle.sqlite_store.specs.Listed.{catalog_rows, is_listed}
use Rattle.sqlite_store.proofs.ListingLemmas.{all_ordered, listing_shaped}
use Rattle.sqlite.specs.Files.{file_state, AreFoundIn, Finds, IsOpened, IsEmpty}

module _ (size : ℕ) (wanted : List Wanted) (pages : PageMap) (ours : ∥ IsOurs size true wanted pages ∥₁) where
  abbrev read : Trees
  read = file_trees size wanted pages

  shaped_at : (t : ℕ) → all_shapes wanted t ≡ TableShape → IsShaped TableShape (read t)
  shaped_at t is =
      subst (λ (s : Shape). IsShaped s (read t)) is
      (∥∥₁_elim ours (IsShaped-prop (all_shapes wanted t) (read t)) (λ it. all_ordered it.file.db (version_in pages) t))

  pub file_keyed : (schema : Schema) → IsSound schema read → AreKeyed schema read
  file_keyed schema sound =
      let list : read catalog_tree ≡ listed_from 0 wanted = catalog_rows size wanted (in_use size pages) in
      let are : AreListed (listed_from 0 wanted) schema = subst (λ rows. AreListed rows schema) list sound.lists.listed in
      all_weaker (λ (t : Table). all_shapes wanted t.tree ≡ TableShape) (λ t. IsShaped TableShape (read t.tree))
      (λ t. shaped_at t.tree) schema.tables (laid_out (is_listed wanted) (listing_shaped 0 wanted) are).tables

no_tables : (tables : List Table) → AllZip IsTableRow [] tables → tables ≡ []
no_tables [] h = refl
no_tables (t ∷ ts) h = elim h [ ]

empty_keyed : (schema : Schema) (trees : Trees) → IsEmpty trees → IsSound schema trees → AreKeyed schema trees
empty_keyed schema trees e sound =
    let none : schema.tables ≡ [] =
    no_tables schema.tables (subst (λ (rows : List Row). AllZip IsTableRow (filter is_table_row rows) schema.tables) e.1 sound.lists.listed.tables) in
    subst (AllByRecursion (λ t. IsShaped TableShape (trees t.tree))) (sym none) tt

pub found_keyed : (schema : Schema) (image : Image) (trees : Trees) → AreFoundIn image trees → IsSound schema trees → AreKeyed schema trees
found_keyed schema image trees (inl it) sound = subst (AreKeyed schema) (sym it.5) (file_keyed it.0 it.2 it.1 it.4 schema (subst (IsSound schema) it.5 sound))
found_keyed schema image trees (inr nothing) sound = empty_keyed schema trees nothing.1 sound

-- what is found under a schema has rowids that rise
pub opened_keyed : {D : Type 0} {g : disk.Ghosts D} (schema : Schema) (files : Files D) (c : Held (FileStore D g))
    → IsOpened c → Finds files c → IsOf schema (file_state c) → IsKeyed schema (file_state c)
opened_keyed schema files c opened found has =
    let sound : IsSound schema (file_state c).now.trees = subst (λ s. IsSound s (file_state c).now.trees) has (opened.1 opened.0.is_open).0 in
    let same : (file_state c).now.trees ≡ (file_state c).committed.trees = ap (λ (d : Database). d.trees) opened.0.clean in
    subst (AreKeyed schema) (sym same) (found_keyed schema _ _ found.reads (subst (IsSound schema) same sound))
