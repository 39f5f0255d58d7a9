use Rattle.std.proofs.Common.{sym}
use Rattle.till_program.proofs.LookLaws.{looked_at}
use Rattle.till_program.proofs.serving.first_line.Goals as goal

pub returns-then-has_waiting-clause-looked : goal.returns-then-has_waiting-clause-looked
returns-then-has_waiting-clause-looked c =
    looked_at c.args.held.now c.in-Some.book c.has_waiting-has_waiting.new.self (sym c.in-Some.ensures.value) c.has_waiting-has_waiting.ensures.tools
    c.has_waiting-has_waiting.ensures.stays

pub returns-else-has_waiting-clause-looked : goal.returns-else-has_waiting-clause-looked
returns-else-has_waiting-clause-looked c =
    looked_at c.args.held.now c.in-Some.book c.has_waiting-has_waiting.new.self (sym c.in-Some.ensures.value) c.has_waiting-has_waiting.ensures.tools
    c.has_waiting-has_waiting.ensures.stays
