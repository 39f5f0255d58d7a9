use Rattle.shop_schema.proofs.Common.{arith, file_state, HasCleanDisk}
use Rattle.std.proofs.Common.{◌≡◌, ◌∙◌, inr, sym, true, false}
use Rattle.till_files.specs.Migrations.{first_schema}
use Rattle.sql_files.proofs.Found.{shows_what_is_found}
use Rattle.till_files.proofs.Found.{has_first, has_no_first, first_found, first_kept, first_or_filled, left_alone, unmigrated_by}
use Rattle.till_files.proofs.Results.{refused_by}
use Rattle.till_files.proofs.old_books.migrate_book.Goals as goal

pub returns-in_err-conn-clause-refused : goal.returns-in_err-conn-clause-refused
returns-in_err-conn-clause-refused g c =
    refused_by c.from_residual.result _ _
    (unmigrated_by g.D.Disk c.args.files _ _ c.in_err-conn.ensures.book c.in_err-conn.ensures.already c.in_err-conn.ensures.left) c.from_residual.ensures.1

pub returns-in-Ok-clause-opened : goal.returns-in-Ok-clause-opened
returns-in-Ok-clause-opened g c =
    let conn = c.in_ok-conn.conn in
    let files = c.args.files in
    let opened = c.in_ok-conn.ensures.opened in
    let found = c.in_ok-conn.ensures.found in
    let stays = g.met.D.Disk.seen_may_stay in
    let same : c.schema.result.now ≡ conn.schema = c.schema.ensures.value in
    let schema : conn.schema ≡ first_schema = sym same ∙ c.in-Ok-true.ensures.0 c.in-Ok-true.field-0-test in
    let before =
    λ (clean : HasCleanDisk (file_state c.fill.new.conn)). let r : HasCleanDisk (file_state conn) = omega (arith, clean, c.fill.ensures.crash.clean) in r in
    record {
      ended = c.fill.ensures.ended;
      honest = λ clean. (found (before clean)).honest;
      book = λ clean. has_first conn files (opened (before clean)) (found (before clean)) schema;
      found = λ clean journal held.
          c.in-Ok.ensures.filled clean journal (first_found conn files (opened (before clean)) (found (before clean)) schema journal held);
      again = λ clean journal keeps.
          c.in-Ok.ensures.filled clean journal (first_kept conn files (opened (before clean)) (found (before clean)) stays schema journal keeps);
    }

pub returns-in-Err-fill-clause-refused : goal.returns-in-Err-fill-clause-refused
returns-in-Err-fill-clause-refused g c =
    let conn = c.in_ok-conn.conn in
    let files = c.args.files in
    let opened = c.in_ok-conn.ensures.opened in
    let found = c.in_ok-conn.ensures.found in
    let back = c.close_book in
    let stays = g.met.D.Disk.seen_may_stay in
    let same : c.schema.result.now ≡ conn.schema = c.schema.ensures.value in
    let schema : conn.schema ≡ first_schema = sym same ∙ c.in-Ok-true.ensures.0 c.in-Ok-true.field-0-test in
    let before =
    λ (clean : HasCleanDisk (file_state c.fill.new.conn)). let r : HasCleanDisk (file_state conn) = omega (arith, clean, c.fill.ensures.crash.clean) in r in
    record {
      no_book = λ honest is. absurd (c.book_fault.ensures.book is);
      kept = λ honest.
          let clean = back.ensures.clean honest in
          let k = before clean in
          inr (
            _,
            shows_what_is_found conn files (opened k) (found k),
            first_or_filled conn files (opened k) (found k) stays schema c.fill.new.conn back.result c.fill.ensures.crash clean (back.ensures.left honest),
          );
      already = c.book_fault.ensures.already;
    }

pub returns-in-Ok-false-clause-refused : goal.returns-in-Ok-false-clause-refused
returns-in-Ok-false-clause-refused g c =
    let conn = c.in_ok-conn.conn in
    let files = c.args.files in
    let opened = c.in_ok-conn.ensures.opened in
    let found = c.in_ok-conn.ensures.found in
    let back = c.close_book-in-Ok-false in
    let same : c.schema.result.now ≡ conn.schema = c.schema.ensures.value in
    record {
      no_book = λ honest is.
          let clean = back.ensures.clean honest in
          has_no_first conn files (opened clean) (found clean) (λ is. apart (sym c.in-Ok-false.field-0-test ∙ c.in-Ok-false.ensures.1 (same ∙ is)));
      kept = λ honest.
          let clean = back.ensures.clean honest in
          inr (
            _,
            shows_what_is_found conn files (opened clean) (found clean),
            left_alone conn files (opened clean) (found clean) g.met.D.Disk.seen_may_stay back.result (back.ensures.left honest),
          );
      already = λ is. cc;
    }
  where
    apart : false ≡ true → ⊥
    apart e = cc

pub returns-in-Err-clause-refused : goal.returns-in-Err-clause-refused
returns-in-Err-clause-refused g c =
    let conn = c.in_ok-conn.conn in
    let files = c.args.files in
    let opened = c.in_ok-conn.ensures.opened in
    let found = c.in_ok-conn.ensures.found in
    let back = c.close_book-in-Err in
    record {
      no_book = λ honest is. absurd (c.book_fault-in-Err.ensures.book is);
      kept = λ honest.
          let clean = back.ensures.clean honest in
          inr (
            _,
            shows_what_is_found conn files (opened clean) (found clean),
            left_alone conn files (opened clean) (found clean) g.met.D.Disk.seen_may_stay back.result (back.ensures.left honest),
          );
      already = c.book_fault-in-Err.ensures.already;
    }
