use Rattle.shop_schema.proofs.Common.{[], false, arith, inr, refl, subst, file_state, HasCleanDisk, empty_sound, first_books, HoldsOne}
use Rattle.chain_requests.specs.Chains.{widest_rules}
use Rattle.chain_files.proofs.Opening.{opened_at}
use Rattle.shop_schema.specs.Shop.{StandsFor}
use Rattle.sql_files.proofs.Found.{holds_no_table, holds_a_table, none_or_new}
use Rattle.chain_files.proofs.NewFiles.{stopped_by}
use Rattle.chain_files.proofs.Opened.{opened_well}
use Rattle.chain_engine.proofs.Results.{refused_by}
use Rattle.chain_engine.proofs.creating.Chain+FileStore+D.create_files.Goals as goal

pub returns-in_err-conn-clause-refused : goal.returns-in_err-conn-clause-refused
returns-in_err-conn-clause-refused g c =
    refused_by c.from_residual.result _ _
    (stopped_by g.D.Disk c.args.files _ _ _ c.in_err-conn.ensures.chain c.in_err-conn.ensures.version
    c.in_err-conn.ensures.damaged c.in_err-conn.ensures.already (λ honest. c.in_err-conn.ensures.left))
    c.from_residual.ensures.1

pub returns-in-Ok-clause-made : goal.returns-in-Ok-clause-made
returns-in-Ok-clause-made g c =
    let first = λ (clean : HasCleanDisk (file_state c.create.new.conn)).
    let r : HasCleanDisk (file_state c.in_ok-conn.conn) = omega (arith, clean, c.create.ensures.crash.clean) in r in
    rw c.over.ensures (record {
      limits = refl;
      live = refl;
      honest = λ clean. (c.in_ok-conn.ensures.found (first clean)).honest;
      made = λ clean.
          opened_at _ (first_books c.args.office.now) refl refl refl
          (empty_sound widest_rules c.args.office.now) c.first_values.ensures (c.in-Ok.ensures.made clean);
      none = λ clean.
          holds_no_table c.in_ok-conn.conn c.args.files (c.in_ok-conn.ensures.opened (first clean))
          (c.in_ok-conn.ensures.found (first clean)) c.in-Ok.ensures.none;
    })

pub returns-in-Err-clause-refused : goal.returns-in-Err-clause-refused
returns-in-Err-clause-refused g c =
    let conn = c.in_ok-conn.conn in
    let stays = g.met.D.Disk.seen_may_stay in
    let first = λ (clean : HasCleanDisk (file_state c.create.new.conn)).
    let r : HasCleanDisk (file_state conn) = omega (arith, clean, c.create.ensures.crash.clean) in r in
    record {
      already = λ honest is.
          let clean = first (c.close.ensures.clean honest) in
          holds_a_table conn c.args.files (c.in_ok-conn.ensures.opened clean) (c.in_ok-conn.ensures.found clean) stays
          (c.in-Err.ensures.there is).0 c.close.result
          (subst (λ h. HoldsOne g.D.Disk c.close.result (file_state h).may_leave) (c.in-Err.ensures.there is).1 (c.close.ensures.left honest));
      stopped = λ honest other.
          let clean = c.close.ensures.clean honest in
          let opened = c.in_ok-conn.ensures.opened (first clean) in
          let found = c.in_ok-conn.ensures.found (first clean) in
          let none = c.in-Err.ensures.stopped other in
          inr (
            holds_no_table conn c.args.files opened found none,
            none_or_new conn c.args.files opened found stays none (λ db. StandsFor db (first_books c.args.office.now)) c.create.new.conn
                c.close.result c.create.ensures.crash clean (c.close.ensures.left honest),
          );
      chain = c.in-Err.ensures.chain;
      version = c.in-Err.ensures.version;
      damaged = c.in-Err.ensures.damaged;
    }

pub returns-in-Ok-clause-well : goal.returns-in-Ok-clause-well
returns-in-Ok-clause-well g c =
    rw c.over.ensures (opened_well c.in_ok-conn.conn
    (record { limits = c.args.limits; is_failed = false; films = []; callers = []; conn = c.create.new.conn }) c.create.ensures.crash
    c.in_ok-conn.ensures.opened c.in_ok-conn.ensures.fresh refl)
