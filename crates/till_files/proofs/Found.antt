-- The database that opening finds in files.
use Rattle.std.proofs.Common.{◌⊎◌}
use Rattle.shop_schema.proofs.Common.{◌≡◌, ◌≢◌, ◌∙◌, inl, inr, refl, sym, ap, subst, [], ◌∷◌, ∥∥₁_elim, ∥∥₁_map, Trees-set}
use Rattle.shop_schema.proofs.Common.{Database, Schema, State, HasCleanDisk, Survives, Held, Finds, IsOpened}
use Rattle.shop_schema.proofs.Common.{file_state, image_of, no_schema, opened_keyed, one_schema, HoldsOne}
use Rattle.shop_schema.proofs.Common.{OpenFailed}
use Rattle.sqlite_disk.specs.declared.Disk.{Ghosts}
use Rattle.sqlite_disk.specs.declared.Files.{Files}
use Rattle.sqlite_wal.proofs.LogLemmas.{SeenMayStay}
use Rattle.sqlite_store.specs.declared.store.FileStore.{FileStore}
use Rattle.sqlite_catalog.specs.Listing.{IsSound as IsDatabaseOf}
use Rattle.till_book.specs.Tables.{book_schema, entry_table, reply_table, settled_table, unsure_table, rented_table, returned_table}
use Rattle.till_book.specs.Journal.{Journal, StandsFor, IsWritten}
use Rattle.till_files.specs.Migrations.{first_schema, HoldsFirst, LeavesFilled}
use Rattle.till_book.specs.Steps.{Rests}
use Rattle.till_files.specs.declared.faults.BookFault.{BookFault}
use Rattle.till_files.specs.declared.faults.BookFault.TheVariants as fault
use Rattle.till_files.specs.Files.{HasBook, HasNoBook, HoldsBook, KeepsBook, KeepsEither, StandsForEither, HasFirstBook}
use Rattle.till_files.specs.Files.{HasNoFirstBook, HoldsFirstBook, KeepsFirstBook, IsMigratedFrom}
use Rattle.till_files.specs.Openings.{IsNotOpened, IsNotMade, IsNotMigrated}
use Rattle.till_files.proofs.Deciding.{stands_in_any, written_in_any}
use Rattle.sql_files.proofs.Keeping.{kept_one, only_committed}
use Rattle.sql_files.proofs.Found.{committed_database, is_database, shows_what_is_held, shows_one}

some_tables : book_schema ≢ no_schema
some_tables e =
    let tables : entry_table ∷ reply_table ∷ settled_table ∷ unsure_table ∷ rented_table ∷ returned_table ∷ [] ≡ [] = ap (λ (it : Schema). it.tables) e in cc

first_tables : first_schema ≢ no_schema
first_tables e = let tables : entry_table ∷ reply_table ∷ settled_table ∷ [] ≡ [] = ap (λ (it : Schema). it.tables) e in cc

module _ {D : Type 0} {g : Ghosts D} (c : Held (FileStore D g)) (files : Files D) (opened : IsOpened c) (found : Finds files c) where
  abbrev opened_state : State
  opened_state = file_state c

  -- ---- a book

  pub has_book : opened_state.now.schema ≡ book_schema → HasBook (image_of g files)
  has_book schema = (
    opened_state.committed.trees,
    shows_what_is_held c files opened found (λ none. some_tables (sym schema ∙ none)),
    subst (λ (it : Schema). IsDatabaseOf it opened_state.committed.trees) schema (committed_database c files opened found),
  )

  pub has_no_book : (opened_state.now.schema ≢ book_schema) → HasNoBook (image_of g files)
  has_no_book other db held sound = other (one_schema opened_state.now.schema book_schema db (is_database c files opened found db held) sound refl)

  rests_on : SeenMayStay g → opened_state.now.schema ≡ book_schema → (journal : Journal)
      → StandsFor opened_state.committed.trees journal → Rests opened_state journal
  rests_on stays schema journal stands =
      record {
        now = λ live.
            record {
              schema_is = schema;
              keyed = opened_keyed book_schema files c opened found schema;
              stands = subst (λ (d : Database). StandsFor d.trees journal) (sym opened.0.clean) stands;
            };
        committed = λ live. sym opened.0.clean;
        left = λ db may. subst (λ t. StandsFor t journal) (sym (only_committed c stays opened.0.is_open db may)) stands;
      }

  pub found_rests : SeenMayStay g → opened_state.now.schema ≡ book_schema
      → (journal : Journal) → HoldsBook (image_of g files) journal → Rests opened_state journal
  found_rests stays schema journal held =
      let is : opened_state.committed.trees ≡ held.db = ∥∥₁_elim held.holds (Trees-set _ _) (found.holds held.db) in
      rests_on stays schema journal (subst (λ t. StandsFor t journal) (sym is) held.stands)

  -- the opened book has the journal of the book that was closed
  pub kept_rests : SeenMayStay g → opened_state.now.schema ≡ book_schema → (journal : Journal) → KeepsBook g files journal → Rests opened_state journal
  kept_rests stays schema journal keeps =
      rests_on stays schema journal (stands_in_any _ journal (shows_one c files opened found stays (λ db. StandsFor db journal) (keeps found.honest)))

  -- the opened book has one of two journals
  pub either_rests : SeenMayStay g → opened_state.now.schema ≡ book_schema → (journal besides : Journal) → KeepsEither g files journal besides
      → ∥ Rests opened_state journal ⊎ Rests opened_state besides ∥₁
  either_rests stays schema journal besides keeps =
      ∥∥₁_map (shows_one c files opened found stays (StandsForEither journal besides) (keeps found.honest)) (λ stands. elim stands [
        | inl first ↦ inl (rests_on stays schema journal first)
        | inr other ↦ inr (rests_on stays schema besides other)
      ])

  -- ---- a book that was made before it had tables beside the journal

  pub has_first : opened_state.now.schema ≡ first_schema → HasFirstBook (image_of g files)
  has_first schema = (
    opened_state.committed.trees,
    shows_what_is_held c files opened found (λ none. first_tables (sym schema ∙ none)),
    subst (λ (it : Schema). IsDatabaseOf it opened_state.committed.trees) schema (committed_database c files opened found),
  )

  pub has_no_first : (opened_state.now.schema ≢ first_schema) → HasNoFirstBook (image_of g files)
  has_no_first other db held sound = other (one_schema opened_state.now.schema first_schema db (is_database c files opened found db held) sound refl)

  holds_first : opened_state.now.schema ≡ first_schema → (journal : Journal) → IsWritten opened_state.committed.trees journal → HoldsFirst opened_state journal
  holds_first schema journal written = record {
    schema_is = schema;
    keyed = opened_keyed first_schema files c opened found schema;
    stands = subst (λ (d : Database). IsWritten d.trees journal) (sym opened.0.clean) written;
  }

  pub first_found : opened_state.now.schema ≡ first_schema → (journal : Journal) → HoldsFirstBook (image_of g files) journal → HoldsFirst opened_state journal
  first_found schema journal held =
      let is : opened_state.committed.trees ≡ held.db = ∥∥₁_elim held.holds (Trees-set _ _) (found.holds held.db) in
      holds_first schema journal (subst (λ t. IsWritten t journal) (sym is) held.written)

  pub first_kept : SeenMayStay g → opened_state.now.schema ≡ first_schema
      → (journal : Journal) → KeepsFirstBook g files journal → HoldsFirst opened_state journal
  first_kept stays schema journal keeps =
      holds_first schema journal (written_in_any _ journal (shows_one c files opened found stays (λ db. IsWritten db journal) (keeps found.honest)))

  -- a migration that stopped leaves the tables as they were, or the book
  pub first_or_filled : SeenMayStay g → opened_state.now.schema ≡ first_schema
      → (new : Held (FileStore D g)) (now : Files D) → Survives opened_state (file_state new) (LeavesFilled opened_state)
      → HasCleanDisk (file_state new) → HoldsOne g now (file_state new).may_leave → HoldsOne g now (IsMigratedFrom opened_state.committed.trees)
  first_or_filled stays schema new now survives clean holds =
      kept_one g now _ (IsMigratedFrom opened_state.committed.trees) holds (λ left may. elim (survives.crash clean left may) [
        | inl before ↦ inl (only_committed c stays opened.0.is_open left before)
        | inr filled ↦ inr (λ journal sound written. filled journal (holds_first schema journal written))
      ])

  pub left_alone : SeenMayStay g → (now : Files D) → HoldsOne g now opened_state.may_leave → HoldsOne g now (IsMigratedFrom opened_state.committed.trees)
  left_alone stays now holds =
      kept_one g now _ (IsMigratedFrom opened_state.committed.trees) holds (λ left may. inl (only_committed c stays opened.0.is_open left may))

-- ---- faults by which the database wasn't opened

pub unopened_by : {D : Type 0} (g : Ghosts D) (files : Files D) (why : BookFault) (left : Files D)
    → why ≢ fault.NotABook → why ≢ fault.Already → OpenFailed g files left → IsNotOpened g files why left
unopened_by g files why left book already failed = record { no_book = λ honest is. absurd (book is); kept = λ honest. inl failed; already = already }

pub unmade_by : {D : Type 0} (g : Ghosts D) (files : Files D) (why : BookFault) (left : Files D)
    → why ≢ fault.NotABook → why ≢ fault.Already → OpenFailed g files left → IsNotMade g files why left
unmade_by g files why left book already failed = record { already = λ honest is. absurd (already is); stopped = λ honest other. inl failed; book = book }

pub unmigrated_by : {D : Type 0} (g : Ghosts D) (files : Files D) (why : BookFault) (left : Files D)
    → why ≢ fault.NotABook → why ≢ fault.Already → OpenFailed g files left → IsNotMigrated g files why left
unmigrated_by g files why left book already failed = record { no_book = λ honest is. absurd (book is); kept = λ honest. inl failed; already = already }
