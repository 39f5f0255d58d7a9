-- The database that opening finds in files.
use Rattle.sql_rows.proofs.Common.{◌≡◌, ◌≢◌, ◌∙◌, inl, inr, refl, sym, ap, subst, List, [], ◌∷◌, AllZip, ∥∥₁_elim, ∥∥₁_map, Schema, State, Database}
use Rattle.sql_rows.proofs.Common.{HasCleanDisk}
use Rattle.sql_rows.proofs.Common.{Survives, Held, no_schema, AreListed, IsTableRow, IsIndexRow, IsViewRow}
use Rattle.sql_rows.proofs.Unique.{one_schema}
use Rattle.sql_rows.specs.Files.{HoldsOne, IsHeldIn, IsFoundIn, HoldsNoTable}
use Rattle.sqlite.specs.Files.{Finds, HoldsDatabase, IsEmpty, IsOpened, file_state, image_of}
use Rattle.sqlite_trees.specs.Tree.{Trees}
use Rattle.sqlite_disk.specs.declared.Disk.{Ghosts}
use Rattle.sqlite_disk.specs.declared.Files.{Files}
use Rattle.sqlite_value.specs.Order.{Row}
use Rattle.sqlite_wal.proofs.LogLemmas.{SeenMayStay}
use Rattle.sqlite_store.specs.declared.store.FileStore.{FileStore}
use Rattle.sqlite_catalog.specs.Listing.{IsSound as IsDatabaseOf}
use Rattle.sql_files.specs.Making.{LeavesMade, IsNoneOr}
use Rattle.sql_files.proofs.Keeping.{kept_one, only_committed}

nothing_listed : {A B : Type 0} (P : A → B → Type 0) (ys : List B) → AllZip P [] ys → ys ≡ []
nothing_listed P [] h = refl
nothing_listed P (y ∷ ys) h = elim h [ ]

-- an empty database has no table
empty_has_none : (schema : Schema) (db : Trees) → IsEmpty db → IsDatabaseOf schema db → schema ≡ no_schema
empty_has_none schema db empty sound =
    let listed : AreListed [] schema = subst (λ (rows : List Row). AreListed rows schema) empty.1 sound.lists.listed in
    let tables : schema.tables ≡ [] = nothing_listed IsTableRow schema.tables listed.tables in
    let indexes : schema.indexes ≡ [] = nothing_listed (IsIndexRow schema.tables) schema.indexes listed.indexes in
    let views : schema.views ≡ [] = nothing_listed IsViewRow schema.views listed.views in
    λ i. record { tables = tables i; indexes = indexes i; views = views i }

module _ {D : Type 0} {g : Ghosts D} (c : Held (FileStore D g)) (files : Files D) (opened : IsOpened c) (found : Finds files c) where
  abbrev opened_state : State
  opened_state = file_state c

  pub same_trees : opened_state.now.trees ≡ opened_state.committed.trees
  same_trees = ap (λ (d : Database). d.trees) opened.0.clean

  -- the database of the files is what the connection shows
  pub shows_found : (db : Trees) → HoldsDatabase (image_of g files) db → opened_state.now.trees ≡ db
  shows_found db held = same_trees ∙ found.holds db held

  pub committed_database : IsDatabaseOf opened_state.now.schema opened_state.committed.trees
  committed_database = subst (IsDatabaseOf opened_state.now.schema) same_trees (opened.1 opened.0.is_open).0

  pub is_database : (db : Trees) → HoldsDatabase (image_of g files) db → IsDatabaseOf opened_state.now.schema db
  is_database db held = subst (IsDatabaseOf opened_state.now.schema) (found.holds db held) committed_database

  -- what is found in the files is what the connection shows
  pub shows_what_is_found : IsFoundIn (image_of g files) opened_state.committed.trees
  shows_what_is_found = elim found.reads [
    | inl it ↦ inl (record { recovers = it; only = found.holds })
    | inr none ↦ inr (none.0, none.1, found.holds)
  ]

  -- and if the database has a table, the files hold the database
  pub shows_what_is_held : opened_state.now.schema ≢ no_schema → IsHeldIn (image_of g files) opened_state.committed.trees
  shows_what_is_held some = elim found.reads [
    | inl it ↦ record { recovers = it; only = found.holds }
    | inr none ↦ absurd (some (empty_has_none opened_state.now.schema opened_state.committed.trees none.1 committed_database))
  ]

  -- what the files keep holds of the database that the connection shows
  pub shows_one : SeenMayStay g → (P : Trees → Type 0) → HoldsOne g files P → ∥ P opened_state.committed.trees ∥₁
  shows_one stays P holds = ∥∥₁_map (holds (image_of g files) (stays _, stays _)) (λ it. subst P (sym (found.holds it.0 it.2)) it.1)

  -- ---- what is left in the files

  -- a store that is closed at once leaves the same database
  pub closed_as_found : SeenMayStay g → (now : Files D) → HoldsOne g now opened_state.may_leave
      → HoldsOne g now (λ left. left ≡ opened_state.committed.trees)
  closed_as_found stays now holds = kept_one g now _ _ holds (λ left may. only_committed c stays opened.0.is_open left may)

  -- calls that commit nothing leave the files so
  pub left_as_found : SeenMayStay g → (new : Held (FileStore D g)) (now : Files D)
      → Survives opened_state (file_state new) (λ _. ⊥) → HasCleanDisk (file_state new)
      → HoldsOne g now (file_state new).may_leave → HoldsOne g now (λ left. left ≡ opened_state.committed.trees)
  left_as_found stays new now survives clean holds =
      kept_one g now _ _ holds (λ left may. elim (survives.crash clean left may) [
        | inl before ↦ only_committed c stays opened.0.is_open left before
        | inr none ↦ absurd none
      ])

  -- files that hold what was found keep what the first files kept
  pub still_one : SeenMayStay g → (now : Files D) → HoldsOne g now (λ left. left ≡ opened_state.committed.trees)
      → (P : Trees → Type 0) → HoldsOne g files P → HoldsOne g now P
  still_one stays now same P holds image may =
      ∥∥₁_elim (shows_one stays P holds) squash₁ (λ is.
      ∥∥₁_map (same image may) (λ one. let r : (db : Trees) × P db × HoldsDatabase image db = (one.0, subst P (sym one.1) is, one.2) in r))

  -- ---- a database without a table

  bare : opened_state.now.schema ≡ no_schema → IsDatabaseOf no_schema opened_state.committed.trees
  bare none = subst (λ (it : Schema). IsDatabaseOf it opened_state.committed.trees) none committed_database

  pub holds_no_table : opened_state.now.schema ≡ no_schema → HoldsNoTable (image_of g files)
  holds_no_table none = (opened_state.committed.trees, shows_what_is_found, bare none)

  -- if a store with a table is closed at once, it leaves the same database
  pub holds_a_table : SeenMayStay g → (opened_state.now.schema ≢ no_schema) → (now : Files D) → HoldsOne g now opened_state.may_leave
      → (db : Trees) × IsHeldIn (image_of g files) db × (¬ IsDatabaseOf no_schema db) × HoldsOne g now (λ left. left ≡ db)
  holds_a_table stays some now holds = (
    opened_state.committed.trees,
    shows_what_is_held some,
    λ none. some (one_schema opened_state.now.schema no_schema opened_state.committed.trees committed_database none refl),
    closed_as_found stays now holds,
  )

  -- a stopped creation leaves no table or all tables
  pub none_or_new : SeenMayStay g → opened_state.now.schema ≡ no_schema → (P : Trees → Type 0) (new : Held (FileStore D g)) (now : Files D)
      → Survives opened_state (file_state new) (LeavesMade P opened_state)
      → HasCleanDisk (file_state new) → HoldsOne g now (file_state new).may_leave → HoldsOne g now (IsNoneOr P)
  none_or_new stays none P new now survives clean holds =
      kept_one g now _ (IsNoneOr P) holds (λ left may. elim (survives.crash clean left may) [
        | inl before ↦ inl (subst (IsDatabaseOf no_schema) (sym (only_committed c stays opened.0.is_open left before)) (bare none))
        | inr made ↦ inr (made none)
      ])
