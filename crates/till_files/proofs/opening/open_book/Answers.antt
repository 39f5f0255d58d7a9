use Rattle.std.proofs.Common.{◌≡◌, ◌∙◌, inr, sym, true, false}
use Rattle.till_book.specs.Tables.{book_schema}
use Rattle.sql_files.proofs.Found.{shows_what_is_found, closed_as_found}
use Rattle.till_files.proofs.Found.{found_rests, kept_rests, either_rests, has_book, has_no_book, unopened_by}
use Rattle.till_files.proofs.Results.{refused_by}
use Rattle.till_files.proofs.opening.open_book.Goals as goal

pub returns-in_err-conn-clause-refused : goal.returns-in_err-conn-clause-refused
returns-in_err-conn-clause-refused g c =
    refused_by c.from_residual.result _ _
    (unopened_by g.D.Disk c.args.files _ _ c.in_err-conn.ensures.book c.in_err-conn.ensures.already c.in_err-conn.ensures.left) c.from_residual.ensures.1

pub returns-in-Ok-true-clause-opened : goal.returns-in-Ok-true-clause-opened
returns-in-Ok-true-clause-opened g c =
    let conn = c.in_ok-conn.conn in
    let opened = c.in_ok-conn.ensures.opened in
    let found = c.in_ok-conn.ensures.found in
    let stays = g.met.D.Disk.seen_may_stay in
    let same : c.schema.result.now ≡ conn.schema = c.schema.ensures.value in
    let schema : conn.schema ≡ book_schema = sym same ∙ c.in-Ok-true.ensures.0 c.in-Ok-true.field-0-test in
    record {
      ended = c.in_ok-conn.ensures.fresh.autocommit;
      honest = λ clean. (found clean).honest;
      book = λ clean. has_book conn c.args.files (opened clean) (found clean) schema;
      found = λ clean. found_rests conn c.args.files (opened clean) (found clean) stays schema;
      again = λ clean. kept_rests conn c.args.files (opened clean) (found clean) stays schema;
      either = λ clean. either_rests conn c.args.files (opened clean) (found clean) stays schema;
    }

pub returns-in-Ok-false-clause-refused : goal.returns-in-Ok-false-clause-refused
returns-in-Ok-false-clause-refused g c =
    let conn = c.in_ok-conn.conn in
    let opened = c.in_ok-conn.ensures.opened in
    let found = c.in_ok-conn.ensures.found in
    let back = c.close_book in
    let same : c.schema.result.now ≡ conn.schema = c.schema.ensures.value in
    record {
      no_book = λ honest is.
          let clean = back.ensures.clean honest in
          has_no_book conn c.args.files (opened clean) (found clean) (λ is. apart (sym c.in-Ok-false.field-0-test ∙ c.in-Ok-false.ensures.1 (same ∙ is)));
      kept = λ honest.
          let clean = back.ensures.clean honest in
          inr (
            _,
            shows_what_is_found conn c.args.files (opened clean) (found clean),
            closed_as_found conn c.args.files (opened clean) (found clean) g.met.D.Disk.seen_may_stay back.result (back.ensures.left honest),
          );
      already = λ is. cc;
    }
  where
    apart : false ≡ true → ⊥
    apart e = cc

pub returns-in-Err-clause-refused : goal.returns-in-Err-clause-refused
returns-in-Err-clause-refused g c =
    let conn = c.in_ok-conn.conn in
    let opened = c.in_ok-conn.ensures.opened in
    let found = c.in_ok-conn.ensures.found in
    let back = c.close_book-in-Err in
    record {
      no_book = λ honest is. absurd (c.book_fault.ensures.book is);
      kept = λ honest.
          let clean = back.ensures.clean honest in
          inr (
            _,
            shows_what_is_found conn c.args.files (opened clean) (found clean),
            closed_as_found conn c.args.files (opened clean) (found clean) g.met.D.Disk.seen_may_stay back.result (back.ensures.left honest),
          );
      already = c.book_fault.ensures.already;
    }
