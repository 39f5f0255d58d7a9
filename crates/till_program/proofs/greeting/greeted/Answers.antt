use Rattle.std.proofs.Common.{inr}
use Rattle.till_program.proofs.greeting.greeted.Goals as goal

pub returns-in_default : goal.returns-in_default
returns-in_default c = inr (_, _, c.in_ok-office_line.ensures)
