use Rattle.shop_schema.proofs.Common.{[], false, inl, inr, refl, arith, ∥∥₁_map, file_state, HasCleanDisk}
use Rattle.sqlite_wal.specs.Reads.{AreClean}
use Rattle.sql_files.proofs.Found.{shows_what_is_found, left_as_found}
use Rattle.chain_files.proofs.Opening.{found_rests, kept_rests, either_rests, sound_rests, opened_at, holds_no_chain, holds_sound}
use Rattle.chain_files.proofs.Opening.{holds_damage, has_this_version, has_no_version, has_other_version, still_books, still_either, unopened_by}
use Rattle.chain_files.proofs.Opened.{opened_well}
use Rattle.chain_engine.proofs.Results.{refused_by}
use Rattle.chain_engine.proofs.files.Chain+FileStore+D.open_files.Goals as goal

pub returns-in_err-conn-clause-refused : goal.returns-in_err-conn-clause-refused
returns-in_err-conn-clause-refused g c =
    refused_by c.from_residual.result _ _
    (unopened_by g.D.Disk c.args.files _ _ c.in_err-conn.ensures.chain c.in_err-conn.ensures.version
    c.in_err-conn.ensures.damaged c.in_err-conn.ensures.already c.in_err-conn.ensures.left)
    c.from_residual.ensures.1

pub returns-in-Ok-clause-opened : goal.returns-in-Ok-clause-opened
returns-in-Ok-clause-opened g c =
    let conn = c.in_ok-conn.conn in
    let first = λ (clean : HasCleanDisk (file_state c.examine.new.conn)).
    let r : HasCleanDisk (file_state conn) = omega (arith, clean, c.examine.ensures.crash.clean) in r in
    let opened = λ (clean : HasCleanDisk (file_state c.examine.new.conn)). c.in_ok-conn.ensures.opened (first clean) in
    let found = λ (clean : HasCleanDisk (file_state c.examine.new.conn)). c.in_ok-conn.ensures.found (first clean) in
    let this = λ (clean : HasCleanDisk (file_state c.examine.new.conn)). c.in-Ok.ensures.this clean in
    let stays = g.met.D.Disk.seen_may_stay in
    rw c.over.ensures (record {
      limits = refl;
      live = refl;
      honest = λ clean. (found clean).honest;
      sound = λ clean.
          let it = c.in-Ok.ensures.sound clean (opened clean).0.clean in (
            it.0,
            holds_sound conn c.args.files (opened clean) (found clean) (this clean).0 it.0 it.1,
            opened_at _ it.0 refl refl refl it.3 it.2
                (c.examine.ensures.same clean it.0 (sound_rests conn c.args.files (opened clean) (found clean) stays (this clean).0 it.0 it.1)),
          );
      found = λ clean books held.
          opened_at _ books refl refl refl held.sound held.values
          (c.examine.ensures.same clean books (found_rests conn c.args.files (opened clean) (found clean) stays (this clean).0 books held));
      again = λ clean books keeps.
          opened_at _ books refl refl refl keeps.sound keeps.values
          (c.examine.ensures.same clean books (kept_rests conn c.args.files (opened clean) (found clean) stays (this clean).0 books keeps));
      either = λ clean books besides keeps.
          ∥∥₁_map (either_rests conn c.args.files (opened clean) (found clean) stays (this clean).0 books besides keeps) (λ it. elim it [
            | inl first ↦ inl (opened_at _ books refl refl refl keeps.sound keeps.values (c.examine.ensures.same clean books first))
            | inr other ↦ inr (opened_at _ besides refl refl refl other.0 other.1 (c.examine.ensures.same clean besides other.2))
          ]);
      this = λ clean. has_this_version conn c.args.files (opened clean) (found clean) (this clean);
    })

pub returns-in-Err-clause-refused : goal.returns-in-Err-clause-refused
returns-in-Err-clause-refused g c =
    let conn = c.in_ok-conn.conn in
    let back = c.close in
    let first = λ (clean : HasCleanDisk (file_state c.examine.new.conn)).
    let r : HasCleanDisk (file_state conn) = omega (arith, clean, c.examine.ensures.crash.clean) in r in
    let opened = λ (clean : HasCleanDisk (file_state c.examine.new.conn)). c.in_ok-conn.ensures.opened (first clean) in
    let found = λ (clean : HasCleanDisk (file_state c.examine.new.conn)). c.in_ok-conn.ensures.found (first clean) in
    let stays = g.met.D.Disk.seen_may_stay in
    let same = λ (honest : AreClean g.D.Disk back.result.log back.result.db).
    let clean = back.ensures.clean honest in
    left_as_found conn c.args.files (opened clean)
    (found clean) stays c.examine.new.conn back.result c.examine.ensures.crash clean (back.ensures.left honest) in
    record {
      no_chain =
          λ honest is. let clean = back.ensures.clean honest in holds_no_chain conn c.args.files (opened clean) (found clean) (c.in-Err.ensures.none clean is);
      no_version =
          λ honest is. let clean = back.ensures.clean honest in has_no_version conn c.args.files (opened clean) (found clean) (c.in-Err.ensures.none clean is);
      other = λ honest is.
          let clean = back.ensures.clean honest in has_other_version conn c.args.files (opened clean) (found clean) (c.in-Err.ensures.other clean is);
      damaged = λ honest is.
          let clean = back.ensures.clean honest in
          let it = c.in-Err.ensures.damaged clean (opened clean).0.clean is in
          ((found clean).honest, holds_damage conn c.args.files (opened clean) (found clean) it.0 it.1);
      kept = λ honest.
          let clean = back.ensures.clean honest in
          inr (_, shows_what_is_found conn c.args.files (opened clean) (found clean), same honest);
      books = λ honest books keeps.
          let clean = back.ensures.clean honest in
          inr (still_books conn c.args.files (opened clean) (found clean) stays back.result (same honest) books keeps);
      either = λ honest books besides keeps.
          let clean = back.ensures.clean honest in
          inr (still_either conn c.args.files (opened clean) (found clean) stays back.result (same honest) books besides keeps);
      already = c.in-Err.ensures.already;
    }

pub returns-in-Ok-clause-well : goal.returns-in-Ok-clause-well
returns-in-Ok-clause-well g c =
    rw c.over.ensures (opened_well c.in_ok-conn.conn
    (record { limits = c.args.limits; is_failed = false; films = []; callers = []; conn = c.examine.new.conn }) c.examine.ensures.crash
    c.in_ok-conn.ensures.opened c.in_ok-conn.ensures.fresh refl)
