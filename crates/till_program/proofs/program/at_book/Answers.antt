use Rattle.std.proofs.Common.{refl}
use Rattle.till_program.specs.Performing.{IsAttemptedAt}
use Rattle.till_program.proofs.LookLaws.{left_failed}
use Rattle.till_program.proofs.program.at_book.Goals as goal

pub returns-then-outcome-clause-attempted : goal.returns-then-outcome-clause-attempted
returns-then-outcome-clause-attempted g c =
    let attempts = rw c.if-outcome.true at c.with_tools-outcome.ensures.attempted in (
      c.in_ok-book.book,
      c.in_ok-book.ensures.found,
      left_failed (IsAttemptedAt c.args.word.is_json c.args.word.staff c.args.word.act c.with_tools-outcome.result.status _ _) c.in_ok-book.book
          (record c.in_ok-book.book { conn = c.with_tools-outcome.new.conn }) c.opened.new.held c.in_ok-book.ensures.taken
          (record { tools = refl; clean = c.with_tools-outcome.ensures.clean; attempts = attempts }),
    )

pub returns-clause-attempted : goal.returns-clause-attempted
returns-clause-attempted g c =
    let attempts = rw c.if-outcome.false at c.with_tools-outcome.ensures.attempted in (
      c.in_ok-book.book,
      c.in_ok-book.ensures.found,
      record { tools = refl; clean = c.with_tools-outcome.ensures.clean; attempts = attempts },
    )
