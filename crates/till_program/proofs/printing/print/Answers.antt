use Rattle.till_program.proofs.OutputLaws.{said_fault}
use Rattle.till_program.proofs.printing.print.Goals as goal

pub returns-in-Err-clause-shown : goal.returns-in-Err-clause-shown
returns-in-Err-clause-shown g c = said_fault c.args.said c.in-Err.fault _ _ _ _ c.in-Err.is c.show_fault.ensures.shown
