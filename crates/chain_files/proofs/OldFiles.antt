-- What the files of a chain of version 1 hold after its migration, or after a failed migration.
use Rattle.std.proofs.Common.{◌⊎◌}
use Rattle.shop_schema.proofs.Common.{◌≡◌, ◌≢◌, ◌∙◌, true, false, map, inl, inr, refl, sym, subst, cases_Bool, ∥∥₁_elim, ∥∥₁_map, Trees, Trees-set, Schema}
use Rattle.shop_schema.proofs.Common.{State, HasCleanDisk, Survives, Held, HoldsDatabase, Finds, IsOpened, file_state, image_of, columns_of, opened_keyed}
use Rattle.shop_schema.proofs.Common.{one_schema, Text, Books, migrated, this_version, first_version, HasVersion, StandsFor, StandsForVersion1}
use Rattle.shop_schema.proofs.Common.{version_1_schema, version_of, HoldsOne, IsHeldIn, OpenFailed}
use Rattle.shop_schema.specs.declared.known.KnownVersion.{KnownVersion}
use Rattle.shop_schema.specs.declared.known.KnownVersion.TheVariants.{This, First}
use Rattle.sqlite_disk.specs.declared.Disk.{Ghosts}
use Rattle.sqlite_disk.specs.declared.Files.{Files}
use Rattle.sqlite_wal.proofs.LogLemmas.{SeenMayStay}
use Rattle.sqlite_store.specs.declared.store.FileStore.{FileStore}
use Rattle.sqlite_catalog.specs.Listing.{IsSound as IsDatabaseOf}
use Rattle.shop_migration.specs.Migrating.{Tells}
use Rattle.shop_schema.specs.declared.known.KnownVersion.TheVariants.{Missing}
use Rattle.chain_files.specs.declared.faults.OpenFault.{OpenFault}
use Rattle.chain_files.specs.declared.faults.OpenFault.TheVariants as fault
use Rattle.chain_files.specs.Faults.{is_store_fault}
use Rattle.chain_files.specs.Files.{IsFirst, IsNeither, HoldsNoChain, HoldsNoVersion1, HasNeitherVersion, HasVersion1, HoldsVersion1Books, HoldsVersion1Damage}
use Rattle.chain_files.specs.Files.{HoldsVersion1Soundly, KeepsInEither, KeepsVersion1Books, StandsInEither}
use Rattle.chain_files.specs.Migrations.{StandsSoundlyForVersion1, AreMigrated, IsUnsoundVersion1, IsVersion1, LeavesMigrated}
use Rattle.chain_files.specs.Openings.{IsNotMigrated}
use Rattle.chain_files.proofs.Deciding.{stands_in_any}
use Rattle.chain_files.proofs.FirstRow.{first_row}
use Rattle.sql_files.proofs.Keeping.{kept_one, only_committed}
use Rattle.sql_files.proofs.Found.{same_trees, shows_found, shows_what_is_held, committed_database, is_database, shows_one}
use Rattle.chain_files.proofs.Opening.{one_version, begins_with_some, version_there, holds_no_chain}

-- ---- the version in the first table

told_this : (db : Trees) (books : Books) → StandsFor db books → version_of (map (columns_of 1) (db 0)) ≡ This
told_this db books stands = version_there this_version books.catalogue.office_token (db 0) stands.chain

told_first : (db : Trees) (books : Books) → StandsForVersion1 db books → version_of (map (columns_of 1) (db 0)) ≡ First
told_first db books stands = version_there first_version books.catalogue.office_token (db 0) stands.chain

not_both : {told : KnownVersion} → told ≡ First → told ≡ This → ⊥
not_both first this = let no : First ≡ This = sym first ∙ this in cc

-- files that keep books of version 1 keep them in one of the two versions
pub keeps_in_either : {D : Type 0} (g : Ghosts D) (files : Files D) (books : Books) → KeepsVersion1Books g files books → KeepsInEither g files books
keeps_in_either g files books keeps = record {
  sound = keeps.sound;
  values = keeps.values;
  left = λ honest. kept_one g files _ (StandsInEither books) (keeps.left honest) (λ db stands. inl stands);
}

-- ---- files that were opened

module _ {D : Type 0} {g : Ghosts D} (c : Held (FileStore D g)) (files : Files D) (opened : IsOpened c) (found : Finds files c) where
  abbrev opened_state : State
  opened_state = file_state c

  same : opened_state.now.trees ≡ opened_state.committed.trees
  same = same_trees c files opened found

  pub is_version_1 : opened_state.now.schema ≡ version_1_schema → IsVersion1 opened_state
  is_version_1 schema = (schema, opened_keyed version_1_schema files c opened found schema)

  held_of_first : opened_state.now.schema ≡ version_1_schema → IsHeldIn (image_of g files) opened_state.committed.trees
  held_of_first schema = shows_what_is_held c files opened found (begins_with_some opened_state.now.schema (subst HasVersion (sym schema) refl))

  told_committed : IsFirst opened_state → version_of (map (columns_of 1) (opened_state.committed.trees 0)) ≡ First
  told_committed first = subst (λ (t : Trees). version_of (map (columns_of 1) (t 0)) ≡ First) same first.1

  first_database : IsFirst opened_state → IsDatabaseOf version_1_schema opened_state.committed.trees
  first_database first = subst (λ (schema : Schema). IsDatabaseOf schema opened_state.committed.trees) first.0 (committed_database c files opened found)

  pub has_version_1 : IsFirst opened_state → HasVersion1 (image_of g files)
  has_version_1 first = (opened_state.committed.trees, held_of_first first.0, first_database first, told_committed first)

  pub holds_version_1_damage : IsFirst opened_state → IsUnsoundVersion1 opened_state → HoldsVersion1Damage (image_of g files)
  unfolding has_version_1
  holds_version_1_damage first unsound =
      let it = has_version_1 first in
      (it.0, it.1, it.2, it.3, λ books sound. unsound.1 (is_version_1 first.0) books (subst (λ (t : Trees). StandsSoundlyForVersion1 t books) (sym same) sound))

  pub tells_first : IsFirst opened_state → (token : Text) × Tells first_version token opened_state.now.trees
  tells_first first =
      let sound : IsDatabaseOf version_1_schema opened_state.now.trees =
      subst (λ (schema : Schema). IsDatabaseOf schema opened_state.now.trees) first.0 (opened.1 opened.0.is_open).0 in
      first_row opened_state.now.trees sound.obeys first.1

  pub holds_version_1_soundly : IsFirst opened_state → (books : Books)
      → StandsSoundlyForVersion1 opened_state.now.trees books → HoldsVersion1Soundly (image_of g files) books
  holds_version_1_soundly first books stands =
      (opened_state.committed.trees, held_of_first first.0, subst (λ (t : Trees). StandsSoundlyForVersion1 t books) same stands)

  told_found : (known : KnownVersion) (db : Trees) → HoldsDatabase (image_of g files) db
      → version_of (map (columns_of 1) (opened_state.now.trees 0)) ≡ known → version_of (map (columns_of 1) (db 0)) ≡ known
  told_found known db held told = subst (λ (t : Trees). version_of (map (columns_of 1) (t 0)) ≡ known) (shows_found c files opened found db held) told

  no_chain : IsNeither opened_state → HoldsNoChain (image_of g files)
  no_chain (inl none) = holds_no_chain c files opened found none
  no_chain (inr (first, other)) = λ db held sound books stands. not_both (told_found First db held first.1) (told_this db books stands)

  no_version_1 : IsNeither opened_state → HoldsNoVersion1 (image_of g files)
  no_version_1 (inl (inl none)) db held sound books stands =
      let is = one_schema opened_state.now.schema version_1_schema db (is_database c files opened found db held) sound refl in
      let begins : HasVersion version_1_schema = refl in
      none (subst HasVersion (sym is) begins)
  no_version_1 (inl (inr (inl none))) db held sound books stands = one_version (db 0) _ stands.chain (told_found Missing db held none)
  no_version_1 (inl (inr (inr (told, other)))) db held sound books stands = not_both (told_first db books stands) (told_found This db held told)
  no_version_1 (inr (first, other)) db held sound books stands =
      other (one_schema opened_state.now.schema version_1_schema db (is_database c files opened found db held) sound refl)

  pub holds_neither : IsNeither opened_state → HoldsNoChain (image_of g files) × HoldsNoVersion1 (image_of g files)
  holds_neither it = (no_chain it, no_version_1 it)

  pub has_neither_version : IsNeither opened_state → HasNeitherVersion (image_of g files)
  has_neither_version (inl (inl none)) db held = (opened_state.now.schema, is_database c files opened found db held, inl none)
  has_neither_version (inl (inr (inl none))) db held =
      (opened_state.now.schema, is_database c files opened found db held, inr (inl (told_found Missing db held none)))
  has_neither_version (inl (inr (inr (told, other)))) db held =
      (opened_state.now.schema, is_database c files opened found db held, inr (inr (inl (told_found This db held told, other))))
  has_neither_version (inr (first, other)) db held =
      (opened_state.now.schema, is_database c files opened found db held, inr (inr (inr (told_found First db held first.1, other))))

  -- ---- books

  pub stands_as_found : (books : Books) → HoldsVersion1Books (image_of g files) books → StandsSoundlyForVersion1 opened_state.now.trees books
  stands_as_found books held =
      let is : opened_state.committed.trees ≡ held.db = ∥∥₁_elim held.holds (Trees-set _ _) (found.holds held.db) in
      (subst (λ (t : Trees). StandsForVersion1 t books) (sym (same ∙ is)) held.stands, held.values, held.sound)

  -- the books that the files keep, in one of the two versions
  in_either : SeenMayStay g → (books : Books) → KeepsInEither g files books → ∥ StandsInEither books opened_state.committed.trees ∥₁
  in_either stays books keeps =
      shows_one c files opened found stays (StandsInEither books) (keeps.left found.honest)

  becomes : (books : Books) (db : Trees) → IsFirst opened_state → AreMigrated opened_state.now.trees db
      → KeepsInEither g files books → StandsInEither books opened_state.committed.trees → StandsFor db (migrated books)
  becomes books db first tables keeps (inl was) =
      tables.books books (subst (λ (t : Trees). StandsForVersion1 t books) (sym same) was, keeps.values, keeps.sound)
  becomes books db first tables keeps (inr is) = absurd (not_both (told_committed first) (told_this opened_state.committed.trees (migrated books) is))

  pub stands_as_kept : SeenMayStay g → (books : Books) → KeepsInEither g files books → IsFirst opened_state
      → (db : Trees) → AreMigrated opened_state.now.trees db → StandsFor db (migrated books)
  stands_as_kept stays books keeps first db tables =
      stands_in_any _ (migrated books) (∥∥₁_map (in_either stays books keeps) (λ either. becomes books db first tables keeps either))

  -- ---- what remains if nothing was migrated, or if that isn't certain

  abbrev pub LeavesFirst : Trees → Type 0
  LeavesFirst db = IsFirst opened_state × (opened_state.now ≡ opened_state.committed → LeavesMigrated opened_state db)

  tables_left : (db : Trees) → LeavesFirst db → AreMigrated opened_state.now.trees db
  tables_left db leaves = (leaves.1 opened.0.clean).1 (is_version_1 leaves.0.0)

  module _ (stays : SeenMayStay g) (new : Held (FileStore D g)) (now : Files D)
      (survives : Survives opened_state (file_state new) LeavesFirst) (clean : HasCleanDisk (file_state new))
      (holds : HoldsOne g now (file_state new).may_leave) where
    pub left_or_migrated : (why : OpenFault) → (is_store_fault why ≡ false → Survives opened_state (file_state new) (λ _. ⊥))
        → HoldsOne g now (λ it. (it ≡ opened_state.committed.trees) ⊎ ((is_store_fault why ≡ true) × AreMigrated opened_state.committed.trees it))
    left_or_migrated why undone = elim (cases_Bool (is_store_fault why)) [
      | inl store ↦ kept_one g now _ _ holds (λ left may. elim (survives.crash clean left may) [
        | inl before ↦ inl (only_committed c stays opened.0.is_open left before)
        | inr leaves ↦ inr (store, subst (λ (t : Trees). AreMigrated t left) same (tables_left left leaves))
      ])
      | inr other ↦ kept_one g now _ _ holds (λ left may. elim ((undone other).crash clean left may) [
        | inl before ↦ inl (only_committed c stays opened.0.is_open left before)
        | inr none ↦ absurd none
      ])
    ]

    pub left_in_either : (books : Books) → KeepsInEither g files books → KeepsInEither g now books
    left_in_either books keeps = record {
      sound = keeps.sound;
      values = keeps.values;
      left = λ honest image may.
          ∥∥₁_elim (in_either stays books keeps) squash₁ (λ either.
          ∥∥₁_map (holds image may) (λ it.
          let is : StandsInEither books it.0 = elim (survives.crash clean it.0 it.1) [
            | inl before ↦ subst (StandsInEither books) (sym (only_committed c stays opened.0.is_open it.0 before)) either
            | inr leaves ↦ inr (becomes books it.0 leaves.0 (tables_left it.0 leaves) keeps either)
          ] in
          let r : (db : Trees) × StandsInEither books db × HoldsDatabase image db = (it.0, is, it.2) in r));
    }

-- ---- faults

-- a fault by which the database wasn't opened, and what remains in the files
pub unmigrated_by : {D : Type 0} (g : Ghosts D) (files : Files D) (why : OpenFault) (left : Files D)
    → why ≢ fault.NotAChain → why ≢ fault.OtherVersion → why ≢ fault.Damaged → why ≢ fault.Already
    → OpenFailed g files left → IsNotMigrated g files why left
unmigrated_by g files why left chain version damaged already failed = record {
  already = λ honest is. absurd (already is);
  no_chain = λ honest is. absurd (chain is);
  no_version = λ honest is. absurd (chain is);
  other = λ honest is. absurd (version is);
  damaged = λ honest is. absurd (damaged is);
  kept = λ honest. inl failed;
  books = λ honest books keeps. inl failed;
}
