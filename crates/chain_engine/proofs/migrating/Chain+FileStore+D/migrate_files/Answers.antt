use Rattle.shop_schema.proofs.Common.{[], false, inr, refl, arith, file_state, HasCleanDisk, migrated, migrated_sound}
use Rattle.shop_schema.proofs.Values.{migrated_values}
use Rattle.chain_requests.specs.Chains.{widest_rules}
use Rattle.sql_files.proofs.Found.{shows_what_is_found}
use Rattle.chain_files.proofs.Opening.{opened_at, has_this_version, tells_version}
use Rattle.chain_files.proofs.OldFiles.{keeps_in_either, is_version_1, has_version_1, holds_version_1_damage, holds_version_1_soundly, tells_first}
use Rattle.chain_files.proofs.OldFiles.{holds_neither, has_neither_version, stands_as_found, stands_as_kept, left_or_migrated, left_in_either, unmigrated_by}
use Rattle.chain_files.proofs.Opened.{opened_well}
use Rattle.chain_engine.proofs.Results.{refused_by}
use Rattle.chain_engine.proofs.migrating.Chain+FileStore+D.migrate_files.Goals as goal

pub returns-in_err-conn-clause-refused : goal.returns-in_err-conn-clause-refused
returns-in_err-conn-clause-refused g c =
    refused_by c.from_residual.result _ _
    (unmigrated_by g.D.Disk c.args.files _ _ c.in_err-conn.ensures.chain c.in_err-conn.ensures.version
    c.in_err-conn.ensures.damaged c.in_err-conn.ensures.already c.in_err-conn.ensures.left)
    c.from_residual.ensures.1

pub returns-in-Ok-clause-migrated : goal.returns-in-Ok-clause-migrated
returns-in-Ok-clause-migrated g c =
    let conn = c.in_ok-conn.conn in
    let files = c.args.files in
    let stays = g.met.D.Disk.seen_may_stay in
    let before = λ (clean : HasCleanDisk (file_state c.migrate_first.new.conn)).
    let r : HasCleanDisk (file_state conn) = omega (arith, clean, c.migrate_first.ensures.crash.clean) in r in
    let opened = λ (clean : HasCleanDisk (file_state c.migrate_first.new.conn)). c.in_ok-conn.ensures.opened (before clean) in
    let found = λ (clean : HasCleanDisk (file_state c.migrate_first.new.conn)). c.in_ok-conn.ensures.found (before clean) in
    let first = λ (clean : HasCleanDisk (file_state c.migrate_first.new.conn)). c.in-Ok.ensures.first clean in
    let made = λ (clean : HasCleanDisk (file_state c.migrate_first.new.conn)). c.in-Ok.ensures.migrated clean (opened clean).0.clean in
    let was = λ (clean : HasCleanDisk (file_state c.migrate_first.new.conn)). is_version_1 conn files (opened clean) (found clean) (first clean).0 in
    rw c.over.ensures (record {
      limits = refl;
      live = refl;
      honest = λ clean. (found clean).honest;
      first = λ clean. has_version_1 conn files (opened clean) (found clean) (first clean);
      sound = λ clean.
          let tells = tells_first conn files (opened clean) (found clean) (first clean) in
          let it = ((made clean).tables (was clean)).were tells.0 tells.1 in (
            it.0,
            holds_version_1_soundly conn files (opened clean) (found clean) (first clean) it.0 it.1,
            opened_at _ (migrated it.0) refl refl refl (migrated_sound widest_rules it.0 it.1.2)
                (migrated_values it.0 it.1.1) ((made clean).rests (was clean) (migrated it.0) it.2),
          );
      found = λ clean books held.
          let stands = ((made clean).tables (was clean)).books books (stands_as_found conn files (opened clean) (found clean) books held) in
          opened_at _ (migrated books) refl refl refl (migrated_sound widest_rules books held.sound)
          (migrated_values books held.values) ((made clean).rests (was clean) (migrated books) stands);
      again = λ clean books keeps.
          let either = keeps_in_either g.D.Disk files books keeps in
          let stands = stands_as_kept conn files (opened clean) (found clean) stays books either (first clean) _ ((made clean).tables (was clean)) in
          opened_at _ (migrated books) refl refl refl (migrated_sound widest_rules books keeps.sound)
          (migrated_values books keeps.values) ((made clean).rests (was clean) (migrated books) stands);
      resumed = λ clean books keeps.
          let stands = stands_as_kept conn files (opened clean) (found clean) stays books keeps (first clean) _ ((made clean).tables (was clean)) in
          opened_at _ (migrated books) refl refl refl (migrated_sound widest_rules books keeps.sound)
          (migrated_values books keeps.values) ((made clean).rests (was clean) (migrated books) stands);
    })

pub returns-in-Err-clause-refused : goal.returns-in-Err-clause-refused
returns-in-Err-clause-refused g c =
    let conn = c.in_ok-conn.conn in
    let files = c.args.files in
    let back = c.close in
    let stays = g.met.D.Disk.seen_may_stay in
    let before = λ (clean : HasCleanDisk (file_state c.migrate_first.new.conn)).
    let r : HasCleanDisk (file_state conn) = omega (arith, clean, c.migrate_first.ensures.crash.clean) in r in
    let opened = λ (clean : HasCleanDisk (file_state c.migrate_first.new.conn)). c.in_ok-conn.ensures.opened (before clean) in
    let found = λ (clean : HasCleanDisk (file_state c.migrate_first.new.conn)). c.in_ok-conn.ensures.found (before clean) in
    record {
      already =
          λ honest is. let clean = back.ensures.clean honest in has_this_version conn files (opened clean) (found clean) (c.in-Err.ensures.already clean is);
      no_chain = λ honest is. let clean = back.ensures.clean honest in holds_neither conn files (opened clean) (found clean) (c.in-Err.ensures.none clean is);
      no_version =
          λ honest is. let clean = back.ensures.clean honest in has_neither_version conn files (opened clean) (found clean) (c.in-Err.ensures.none clean is);
      other = λ honest is.
          let clean = back.ensures.clean honest in
          let it = c.in-Err.ensures.other clean is in
          tells_version conn files (opened clean) (found clean) _ it.0 it.1;
      damaged = λ honest is.
          let clean = back.ensures.clean honest in
          let it = c.in-Err.ensures.damaged clean (opened clean).0.clean is in
          ((found clean).honest, holds_version_1_damage conn files (opened clean) (found clean) it.0 it.1);
      kept = λ honest.
          let clean = back.ensures.clean honest in
          inr (
            _,
            shows_what_is_found conn files (opened clean) (found clean),
            left_or_migrated conn files (opened clean) (found clean) stays c.migrate_first.new.conn back.result
                c.migrate_first.ensures.crash clean (back.ensures.left honest) _ c.in-Err.ensures.undone,
          );
      books = λ honest books keeps.
          let clean = back.ensures.clean honest in
          inr (left_in_either conn files (opened clean) (found clean) stays c.migrate_first.new.conn
          back.result c.migrate_first.ensures.crash clean (back.ensures.left honest) books keeps);
    }

pub returns-in-Ok-clause-well : goal.returns-in-Ok-clause-well
returns-in-Ok-clause-well g c =
    rw c.over.ensures (opened_well c.in_ok-conn.conn
    (record { limits = c.args.limits; is_failed = false; films = []; callers = []; conn = c.migrate_first.new.conn }) c.migrate_first.ensures.crash
    c.in_ok-conn.ensures.opened c.in_ok-conn.ensures.fresh refl)
