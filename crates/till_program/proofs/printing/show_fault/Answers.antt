use Rattle.till_program.proofs.OutputLaws.{fault_cut, fault_whole}
use Rattle.till_program.proofs.printing.show_fault.Goals as goal

pub returns-in-Ok-clause-shown : goal.returns-in-Ok-clause-shown
returns-in-Ok-clause-shown g c =
    fault_whole _ _ _ _ _ c.status-status.ensures.fails c.status-status.ensures.status c.in-Ok.ensures.1 c.in-Ok.ensures.2

pub returns-in-Err-clause-shown : goal.returns-in-Err-clause-shown
returns-in-Err-clause-shown g c =
    fault_cut _ _ _ _ _ c.status-status.ensures.fails c.status-status.ensures.status c.in-Err.ensures.1 c.in-Err.ensures.3
