-- What opening files finds, and what files hold after the store is closed.
use Rattle.std.proofs.Common.{◌⊎◌}
use Rattle.std.specs.Prelude.{◌==◌}
use Rattle.shop_schema.proofs.Common.{[], ◌≡◌, ◌≢◌, ◌∙◌, inl, inr, refl, sym, ap, subst, true, false, arith, map, take, ℕ, List, ◌∷◌, pos, negsuc}
use Rattle.shop_schema.proofs.Common.{cases_Bool, length_permutation, ∥∥₁_elim, ∥∥₁_map, column, Value, Null, Int, Real, Blob, Trees}
use Rattle.shop_schema.proofs.Common.{Trees-set, Database, State, Held}
use Rattle.shop_schema.proofs.Common.{Finds, IsOpened, over_files, file_state, image_of, one_permutation}
use Rattle.shop_schema.proofs.Common.{no_schema, columns_of, HasRows, number_value, opened_keyed, one_schema, Books, IsSound, AreValues, shop_schema}
use Rattle.shop_schema.proofs.Common.{HasVersion, StandsFor, this_version, first_version, versioned_columns, Schema, version_of, version_told, HoldsOne}
use Rattle.shop_schema.proofs.Common.{IsHeldIn, OpenFailed}
use Rattle.shop_schema.specs.declared.known.KnownVersion.{KnownVersion}
use Rattle.shop_schema.specs.declared.known.KnownVersion.TheVariants.{This, First, Other}
use mathlib.Core.HLevel.{⊥_prop}
use Rattle.sqlite_disk.specs.declared.Disk.{Ghosts}
use Rattle.sqlite_disk.specs.declared.Files.{Files}
use Rattle.sqlite_value.specs.Order.{Row}
use Rattle.sqlite.specs.declared.types.Value.TheVariants.{Text}
use Rattle.sqlite_wal.specs.Reads.{AreClean}
use Rattle.sqlite_wal.proofs.LogLemmas.{SeenMayStay}
use Rattle.sqlite_store.specs.declared.store.FileStore.{FileStore}
use Rattle.sqlite_store.specs.FileStore.{files as store_files}
use Rattle.sqlite_catalog.specs.Listing.{IsSound as IsDatabaseOf}
use Rattle.shop_schema.specs.declared.known.KnownVersion.TheVariants.{Missing}
use Rattle.chain_requests.specs.Chains.{Rests, IsAt, StandsForEither, StandsSoundly, widest_rules}
use Rattle.chain_caches.proofs.FilmRows.{no_rows}
use Rattle.chain_caches.proofs.CallerSteps.{no_callers}
use Rattle.chain_requests.specs.Holding.{Chained}
use Rattle.sql_files.proofs.Keeping.{kept_one, only_committed}
use Rattle.sql_files.proofs.Found.{same_trees, shows_found, committed_database, is_database, shows_what_is_held, shows_one, still_one}
use Rattle.chain_files.proofs.Deciding.{stands_in_any}
use Rattle.chain_files.specs.declared.faults.OpenFault.{OpenFault}
use Rattle.chain_files.specs.declared.faults.OpenFault.TheVariants as fault
use Rattle.chain_files.specs.Files.{HoldsBooks, KeepsBooks, KeepsEither, HoldsNoChain, HoldsSoundly, HoldsDamage, HasThisVersion, HasNoVersion, HasOtherVersion}
use Rattle.chain_files.specs.Files.{TellsVersion, Knows}
use Rattle.chain_files.specs.Openings.{IsNotOpened}

-- the files of a chain that is closed keep its books
pub keeps_books : {D : Type 0} {g : Ghosts D} (chain : Chained (FileStore D g)) (files : Files D)
    → (AreClean g files.log files.db → HoldsOne g files (file_state chain.conn).may_leave)
    → chain.is_failed ≡ false → (books besides : Books) → IsAt over_files chain books besides → KeepsBooks g files books
keeps_books {D} {g} chain files left live books besides at = record {
  sound = at.sound;
  values = at.values;
  left = λ honest. kept_one g files _ _ (left honest) (at.rests live).left;
}

-- whether or not the store has failed, the files keep its books or `besides`
pub keeps_either : {D : Type 0} {g : Ghosts D} (chain : Chained (FileStore D g)) (files : Files D)
    → (AreClean g files.log files.db → HoldsOne g files (file_state chain.conn).may_leave)
    → (books besides : Books) → IsAt over_files chain books besides → KeepsEither g files books besides
keeps_either {D} {g} chain files left books besides at = record {
  sound = at.sound;
  values = at.values;
  left = λ honest.
      kept_one g files _ _ (left honest)
      (elim (cases_Bool chain.is_failed) [ inl failed ↦ at.left failed | inr live ↦ λ db may. inl ((at.rests live).left db may) ]);
}

-- a chain that rests on books, and whose store hasn't failed, has the books
pub opened_at : {D : Type 0} {g : Ghosts D} (chain : Chained (FileStore D g)) (books : Books)
    → chain.is_failed ≡ false → chain.films ≡ [] → chain.callers ≡ [] → IsSound widest_rules books → AreValues books
    → Rests (file_state chain.conn) books → IsAt over_files chain books books
opened_at chain books live none nobody sound values rests = record {
  sound = sound;
  values = values;
  films = no_rows _ _ none;
  callers = no_callers _ _ nobody;
  rests = λ _. rests;
  alone = λ _. refl;
  left = λ failed. absurd (apart (sym live ∙ failed));
}
  where
    apart : false ≡ true → ⊥
    apart e = cc

-- a database that begins with the table of the version has a table
pub begins_with_some : (schema : Schema) → HasVersion schema → schema ≢ no_schema
begins_with_some schema begins none = subst HasVersion none begins

-- ---- the version

told_some : (v : Value) → version_told v ≡ Missing → ⊥
told_some (Int (pos n)) e = elim (cases_Bool (n == this_version)) [
  | inl is ↦ let no : This ≡ Missing = rw is at e in cc
  | inr isnt ↦ elim (cases_Bool (n == first_version)) [
    | inl was ↦ let no : First ≡ Missing = rw (isnt, was) at e in cc
    | inr wasnt ↦ let no : Other ≡ Missing = rw (isnt, wasnt) at e in cc
  ]
]
told_some (Int (negsuc n)) e = let no : Other ≡ Missing = e in cc
told_some Null e = let no : Other ≡ Missing = e in cc
told_some (Real x) e = let no : Other ≡ Missing = e in cc
told_some (Text t) e = let no : Other ≡ Missing = e in cc
told_some (Blob b) e = let no : Other ≡ Missing = e in cc

-- if a chain's first table has one row, its version isn't missing
pub one_version : (rows : List Row) (row : Row) → HasRows 2 rows (row ∷ []) → version_of (map (columns_of 1) rows) ≡ Missing → ⊥
one_version [] row has e = omega (arith, length_permutation _ _ has)
one_version (r ∷ []) row has e = told_some (column (columns_of 1 r) 0) e
one_version (r ∷ s ∷ rows) row has e = omega (arith, length_permutation _ _ has)

pub version_there : (version : ℕ) (token : List ℕ) (rows : List Row) → HasRows 2 rows (versioned_columns version token ∷ [])
    → version_of (map (columns_of 1) rows) ≡ version_told (number_value version)
version_there version token [] has = absurd (omega (arith, length_permutation _ _ has))
version_there version token (r ∷ []) has =
    let same : versioned_columns version token ∷ [] ≡ columns_of 2 r ∷ [] = one_permutation _ _ has in
    ap (λ (rows : List Row). version_of rows) (sym (ap (map (take 1)) same))
version_there version token (r ∷ s ∷ rows) has = absurd (omega (arith, length_permutation _ _ has))

module _ {D : Type 0} {g : Ghosts D} (c : Held (FileStore D g)) (files : Files D) (opened : IsOpened c) (found : Finds files c) where
  abbrev opened_state : State
  opened_state = file_state c

  rests_on : SeenMayStay g → opened_state.now.schema ≡ shop_schema → (books : Books) → StandsFor opened_state.committed.trees books → Rests opened_state books
  rests_on stays schema books stands =
      record {
        now = λ live.
            record {
              schema_is = schema;
              keyed = opened_keyed shop_schema files c opened found schema;
              stands = subst (λ (d : Database). StandsFor d.trees books) (sym opened.0.clean) stands;
            };
        committed = λ live. sym opened.0.clean;
        left = λ db may. subst (λ t. StandsFor t books) (sym (only_committed c stays opened.0.is_open db may)) stands;
      }

  pub found_rests : SeenMayStay g → opened_state.now.schema ≡ shop_schema → (books : Books) → HoldsBooks (image_of g files) books → Rests opened_state books
  found_rests stays schema books held =
      let is : opened_state.committed.trees ≡ held.db = ∥∥₁_elim held.holds (Trees-set _ _) (found.holds held.db) in
      rests_on stays schema books (subst (λ t. StandsFor t books) (sym is) held.stands)

  -- the books that an audit found
  pub sound_rests : SeenMayStay g → opened_state.now.schema ≡ shop_schema → (books : Books) → StandsFor opened_state.now.trees books → Rests opened_state books
  sound_rests stays schema books stands = rests_on stays schema books (subst (λ (t : Trees). StandsFor t books) (same_trees c files opened found) stands)

  -- the books that were closed
  pub kept_rests : SeenMayStay g → opened_state.now.schema ≡ shop_schema → (books : Books) → KeepsBooks g files books → Rests opened_state books
  kept_rests stays schema books keeps =
      rests_on stays schema books (stands_in_any _ books (shows_one c files opened found stays (λ db. StandsFor db books) (keeps.left found.honest)))

  -- or the books of one of the two
  pub either_rests : SeenMayStay g → opened_state.now.schema ≡ shop_schema → (books besides : Books) → KeepsEither g files books besides
      → ∥ Rests opened_state books ⊎ (IsSound widest_rules besides × AreValues besides × Rests opened_state besides) ∥₁
  either_rests stays schema books besides keeps =
      ∥∥₁_map (shows_one c files opened found stays (StandsForEither books besides) (keeps.left found.honest)) (λ stands. elim stands [
        | inl first ↦ inl (rests_on stays schema books first)
        | inr other ↦ inr (other.0, other.1, rests_on stays schema besides other.2)
      ])

  held_of_shop : opened_state.now.schema ≡ shop_schema → IsHeldIn (image_of g files) opened_state.committed.trees
  held_of_shop schema = shows_what_is_held c files opened found (begins_with_some opened_state.now.schema (subst HasVersion (sym schema) refl))

  pub holds_sound : opened_state.now.schema ≡ shop_schema → (books : Books) → StandsFor opened_state.now.trees books → HoldsSoundly (image_of g files) books
  holds_sound schema books stands =
      (opened_state.committed.trees, held_of_shop schema, subst (λ (t : Trees). StandsFor t books) (same_trees c files opened found) stands)

  pub holds_no_chain : Knows Missing opened_state → HoldsNoChain (image_of g files)
  holds_no_chain (inl none) db held sound books stands =
      let same = one_schema opened_state.now.schema shop_schema db (is_database c files opened found db held) sound refl in
      let begins : HasVersion shop_schema = refl in
      none (subst HasVersion (sym same) begins)
  holds_no_chain (inr (inl none)) db held sound books stands =
      one_version (db 0) _ stands.chain (subst (λ (t : Trees). version_of (map (columns_of 1) (t 0)) ≡ Missing) (shows_found c files opened found db held) none)
  holds_no_chain (inr (inr (told, other))) db held sound books stands =
      other (one_schema opened_state.now.schema shop_schema db (is_database c files opened found db held) sound refl)

  pub has_this_version : Knows This opened_state → HasThisVersion (image_of g files)
  has_this_version it = (
    opened_state.committed.trees,
    held_of_shop it.0,
    subst (λ (schema : Schema). IsDatabaseOf schema opened_state.committed.trees) it.0 (committed_database c files opened found),
    subst (λ (t : Trees). version_of (map (columns_of 1) (t 0)) ≡ This) (same_trees c files opened found) it.1,
  )

  pub holds_damage : Knows This opened_state → ¬ StandsSoundly opened_state.now.trees → HoldsDamage (image_of g files)
  unfolding has_this_version
  holds_damage it none =
      let this = has_this_version it in (this.0, this.1, this.2, this.3, λ sound. none (subst StandsSoundly (sym (same_trees c files opened found)) sound))

  pub has_no_version : Knows Missing opened_state → HasNoVersion (image_of g files)
  has_no_version (inl none) db held = (opened_state.now.schema, is_database c files opened found db held, inl none)
  has_no_version (inr (inl none)) db held = (
    opened_state.now.schema,
    is_database c files opened found db held,
    inr (inl (subst (λ (t : Trees). version_of (map (columns_of 1) (t 0)) ≡ Missing) (shows_found c files opened found db held) none)),
  )
  has_no_version (inr (inr (told, other))) db held = (
    opened_state.now.schema,
    is_database c files opened found db held,
    inr (inr (subst (λ (t : Trees). version_of (map (columns_of 1) (t 0)) ≡ This) (shows_found c files opened found db held) told, other)),
  )

  pub tells_version : (known : KnownVersion) → HasVersion opened_state.now.schema
      → version_of (map (columns_of 1) (opened_state.now.trees 0)) ≡ known → TellsVersion known (image_of g files)
  tells_version known begins told = (
    opened_state.committed.trees,
    shows_what_is_held c files opened found (begins_with_some opened_state.now.schema begins),
    opened_state.now.schema,
    committed_database c files opened found,
    begins,
    subst (λ (t : Trees). version_of (map (columns_of 1) (t 0)) ≡ known) (same_trees c files opened found) told,
  )

  pub has_other_version : Knows First opened_state ⊎ Knows Other opened_state → HasOtherVersion (image_of g files)
  has_other_version (inl it) = inl (tells_version First it.0 it.1)
  has_other_version (inr it) = inr (tells_version Other it.0 it.1)

  pub still_books : SeenMayStay g → (now : Files D) → HoldsOne g now (λ left. left ≡ opened_state.committed.trees)
      → (books : Books) → KeepsBooks g files books → KeepsBooks g now books
  still_books stays now same books keeps = record {
    sound = keeps.sound;
    values = keeps.values;
    left = λ _. still_one c files opened found stays now same (λ db. StandsFor db books) (keeps.left found.honest);
  }

  pub still_either : SeenMayStay g → (now : Files D) → HoldsOne g now (λ left. left ≡ opened_state.committed.trees)
      → (books besides : Books) → KeepsEither g files books besides → KeepsEither g now books besides
  still_either stays now same books besides keeps = record {
    sound = keeps.sound;
    values = keeps.values;
    left = λ _. still_one c files opened found stays now same (StandsForEither books besides) (keeps.left found.honest);
  }

-- the files of a closed chain hold no damage, even if its store had failed
pub undamaged : {D : Type 0} (g : Ghosts D) (files : Files D) (books besides : Books) → SeenMayStay g
    → AreClean g files.log files.db → KeepsEither g files books besides → ¬ HoldsDamage (image_of g files)
undamaged g files books besides stays honest keeps damage =
    ∥∥₁_elim (keeps.left honest (image_of g files) (stays _, stays _)) ⊥_prop (λ it.
    let held : StandsSoundly it.0 = elim it.1 [ inl first ↦ (books, first, keeps.values, keeps.sound) | inr other ↦ (besides, other.2, other.1, other.0) ] in
    damage.4 (subst StandsSoundly (sym (damage.1.only it.0 it.2)) held))

-- ---- faults

-- a fault of the store, and what remains in the files
pub unopened_by : {D : Type 0} (g : Ghosts D) (files : Files D) (why : OpenFault) (left : Files D)
    → why ≢ fault.NotAChain → why ≢ fault.OtherVersion → why ≢ fault.Damaged → why ≢ fault.Already
    → OpenFailed g files left → IsNotOpened g files why left
unopened_by g files why left chain version damaged already failed = record {
  no_chain = λ honest is. absurd (chain is);
  no_version = λ honest is. absurd (chain is);
  other = λ honest is. absurd (version is);
  damaged = λ honest is. absurd (damaged is);
  kept = λ honest. inl failed;
  books = λ honest books keeps. inl failed;
  either = λ honest books besides keeps. inl failed;
  already = already;
}
