use Rattle.shop_schema.proofs.Common.{arith, inr, subst, file_state, HasCleanDisk, HoldsOne}
use Rattle.sql_files.proofs.Found.{holds_no_table, holds_a_table, none_or_new}
use Rattle.till_book.specs.Journal.{StandsFor}
use Rattle.till_files.specs.Files.{empty_journal}
use Rattle.till_files.proofs.Found.{unmade_by}
use Rattle.till_files.proofs.Results.{refused_by}
use Rattle.till_files.proofs.creation.create_book.Goals as goal

pub returns-in_err-conn-clause-refused : goal.returns-in_err-conn-clause-refused
returns-in_err-conn-clause-refused g c =
    refused_by c.from_residual.result _ _
    (unmade_by g.D.Disk c.args.files _ _ c.in_err-conn.ensures.book c.in_err-conn.ensures.already c.in_err-conn.ensures.left) c.from_residual.ensures.1

pub returns-in-Ok-clause-made : goal.returns-in-Ok-clause-made
returns-in-Ok-clause-made g c =
    let conn = c.in_ok-conn.conn in
    let first = λ (clean : HasCleanDisk (file_state c.create.new.conn)).
    let r : HasCleanDisk (file_state conn) = omega (arith, clean, c.create.ensures.crash.clean) in r in
    record {
      ended = c.create.ensures.ended;
      honest = λ clean. (c.in_ok-conn.ensures.found (first clean)).honest;
      made = c.in-Ok.ensures.made;
      none =
          λ clean. holds_no_table conn c.args.files (c.in_ok-conn.ensures.opened (first clean)) (c.in_ok-conn.ensures.found (first clean)) c.in-Ok.ensures.none;
    }

pub returns-in-Err-clause-refused : goal.returns-in-Err-clause-refused
returns-in-Err-clause-refused g c =
    let conn = c.in_ok-conn.conn in
    let back = c.close_book in
    let stays = g.met.D.Disk.seen_may_stay in
    let first = λ (clean : HasCleanDisk (file_state c.create.new.conn)).
    let r : HasCleanDisk (file_state conn) = omega (arith, clean, c.create.ensures.crash.clean) in r in
    record {
      already = λ honest is.
          let clean = first (back.ensures.clean honest) in
          holds_a_table conn c.args.files (c.in_ok-conn.ensures.opened clean) (c.in_ok-conn.ensures.found clean) stays (c.in-Err.ensures.there is).0 back.result
          (subst (λ h. HoldsOne g.D.Disk back.result (file_state h).may_leave) (c.in-Err.ensures.there is).1 (back.ensures.left honest));
      stopped = λ honest other.
          let clean = back.ensures.clean honest in
          let opened = c.in_ok-conn.ensures.opened (first clean) in
          let found = c.in_ok-conn.ensures.found (first clean) in
          let none = c.in-Err.ensures.stopped other in
          inr (
            holds_no_table conn c.args.files opened found none,
            none_or_new conn c.args.files opened found stays none (λ db. StandsFor db empty_journal) c.create.new.conn back.result
                c.create.ensures.crash clean (back.ensures.left honest),
          );
      book = c.in-Err.ensures.book;
    }
