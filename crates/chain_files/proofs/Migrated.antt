-- The state that a transaction leaves that turns tables of version 1 into tables of this version.
use Rattle.shop_schema.proofs.Common.{Ok, MutBor, arith, ◌≡◌, ◌∙◌, true, false, IsTrue, refl, sym, ap, subst, false≢true, Ghosts, Trees, Database, Held, state}
use Rattle.shop_schema.proofs.Common.{State, HasCleanDisk, Survives, AreKeyed, crash_new, Books, migrated, without_terms, migrated_sound, without_terms_sound}
use Rattle.shop_schema.proofs.Common.{Audit, StandsFor, IsShop, IsKeyed, shop_schema, version_1_schema}
use Rattle.std.specs.Prelude.{◌↔◌}
use Rattle.sql_rows.specs.Calls.{DoesInside}
use Rattle.shop_migration.specs.Migrating as tables
use Rattle.shop_schema.proofs.Values.{migrated_values, values_without}
use Rattle.books_audit.specs.Shops.{AuditsTables}
use Rattle.chain_requests.specs.Chains.{StandsSoundly, StaysAsFound, widest_rules}
use Rattle.chain_files.specs.Migrations.{StandsSoundlyForVersion1, AreMigrated, IsVersion1, MigratesInside, IsMigration, IsUnsoundVersion1, LeavesMigrated}
use Rattle.chain_requests.proofs.Resting.{Commits, Settled, begun_does, rests_after}

-- ---- inside

-- the tables were made anew, and an audit of them changed nothing
pub migrated_inside : (old mid new : State) (audit : Audit) → tables.Migrates old mid
    → tables.StoodForSame old mid → (IsVersion1 old → IsShop mid × IsKeyed mid)
    → (IsShop mid → AuditsTables mid.now.trees audit × (new.now ≡ mid.now)) → MigratesInside audit.sound old new
migrated_inside old mid new audit moved stood made audits = record {
  shop = λ is.
      let it = made is in
      (ap (λ (d : Database). d.schema) (audits it.0).1 ∙ it.0, subst (λ (d : Database). AreKeyed shop_schema d.trees) (sym (audits it.0).1) it.1);
  sound = λ is.
      let audited = audits (made is).0 in
      subst (λ (d : Database). IsTrue audit.sound ↔ StandsSoundly d.trees) (sym audited.1) (audited.0.books.sound widest_rules);
  books = λ is books sound.
      let it = made is in
      subst (λ (d : Database). StandsFor d.trees (migrated books)) (sym (audits it.0).1)
      (moved widest_rules books sound.2 (record { schema_is = is.0; keyed = is.1; stands = sound.0 })).stands;
  were = λ is token tells books stands.
      let it = made is in
      (stood is.0 is.1 token tells books
      (record { schema_is = it.0; keyed = it.1; stands = subst (λ (d : Database). StandsFor d.trees books) (audits it.0).1 stands })).stands;
}

pub are_migrated : (old new : State) → MigratesInside true old new → IsVersion1 old → AreMigrated old.now.trees new.now.trees
are_migrated old new it is = record {
  sound = (it.sound is).0 refl;
  books = it.books is;
  were = λ token tells.
      let now = (it.sound is).0 refl in
      let books = without_terms now.0 in
      let was : StandsSoundlyForVersion1 old.now.trees books =
      (it.were is token tells now.0 now.1, values_without now.0 now.2, without_terms_sound widest_rules now.0 now.3) in
      (books, was, it.books is books was);
}

-- sound books of version 1 become sound books; so if an audit finds none, there were no sound books of version 1
pub were_unsound : (old new : State) → MigratesInside false old new → IsVersion1 old → (books : Books) → ¬ StandsSoundlyForVersion1 old.now.trees books
were_unsound old new it is books sound =
    false≢true ((it.sound is).1 (migrated books, it.books is books sound, migrated_values books sound.1, migrated_sound widest_rules books sound.2))

-- ---- outside

module _ {S E : Type 0} {g : Ghosts S} (old end : Held S) {tx mid : MutBor (Held S)}
    (is : tx.now ≡ record old { in_transaction = true }) (one : DoesInside {E = E} g tx mid (Ok true) MigratesInside)
    (ending : Survives (state g mid.now) (state g end) (λ db. db ≡ (state g mid.now).now.trees)) where
  did : HasCleanDisk (state g mid.now) → IsTrue (state g old).is_open × MigratesInside true (state g (record old { in_transaction = true })) (state g mid.now)
  did clean = let it = begun_does old is one in ((it.inside.lives clean refl).was_open, it.says clean)

  pub migration_made : Settled g → (HasCleanDisk (state g end) → Commits (state g mid.now) (state g end))
      → HasCleanDisk (state g end) → IsMigration (state g old) (state g end)
  migration_made settled commits clean =
      let it = did (omega (arith, clean, ending.clean)) in
      let shows = commits clean in
      record {
        was_open = it.0;
        tables = λ first. subst (λ (d : Database). AreMigrated (state g old).now.trees d.trees) (sym shows.now_is) (are_migrated _ _ it.1 first);
        rests = λ first books stands.
            let made = it.1.shop first in
            rests_after g old mid.now end books settled
            (record { schema_is = made.0; keyed = made.1; stands = subst (λ (d : Database). StandsFor d.trees books) shows.now_is stands }) shows;
      }

  -- what the commit leaves, whether or not it reports success
  pub leaves_migration : Survives (state g old) (state g end) (LeavesMigrated (state g old))
  leaves_migration =
      crash_new g old mid.now end (LeavesMigrated (state g old))
      (λ clean. let it = did clean in (it.0, λ first. are_migrated _ _ it.1 first)) (begun_does old is one).inside.survives ending

-- ---- after a call that changes nothing

module _ (first old new : State) (clean : first.now ≡ first.committed) (stays : StaysAsFound first old) where
  still : IsTrue old.is_open → IsVersion1 first → IsVersion1 old
  still live is = subst (λ (d : Database). (d.schema ≡ version_1_schema) × AreKeyed version_1_schema d.trees) (sym (stays clean live).1) is

  pub migration_from : IsMigration old new → IsMigration first new
  migration_from it = record {
    was_open = (stays clean it.was_open).0;
    tables = λ is. subst (λ (d : Database). AreMigrated d.trees new.now.trees) (stays clean it.was_open).1 (it.tables (still it.was_open is));
    rests = λ is. it.rests (still it.was_open is);
  }

  pub unsound_from : IsUnsoundVersion1 old → IsUnsoundVersion1 first
  unsound_from it = (
    (stays clean it.0).0,
    λ is books sound. it.1 (still it.0 is) books (subst (λ (d : Database). StandsSoundlyForVersion1 d.trees books) (sym (stays clean it.0).1) sound),
  )

  pub leaves_from : (db : Trees) → LeavesMigrated old db → LeavesMigrated first db
  leaves_from db it = ((stays clean it.0).0, λ is. subst (λ (d : Database). AreMigrated d.trees db) (stays clean it.0).1 (it.1 (still it.0 is)))
