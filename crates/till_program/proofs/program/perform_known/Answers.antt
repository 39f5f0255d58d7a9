use Rattle.std.proofs.Common.{inl, inr, sym}
use Rattle.till_program.proofs.LineLaws.{not_done_at}
use Rattle.till_program.proofs.OutputLaws.{errors_more, fault_grows, more_then}
use Rattle.till_program.proofs.program.perform_known.Goals as goal

pub returns-in-Ok-clause-done : goal.returns-in-Ok-clause-done
returns-in-Ok-clause-done g c = inl c.in-Ok.ensures.done

pub returns-in-Err-clause-done : goal.returns-in-Err-clause-done
returns-in-Err-clause-done g c =
    inr
    (not_done_at _ _ _ _ _ _ _ _ _ c.at.ensures c.show_fault.ensures.status c.in-Err.ensures.stopped c.in-Err.ensures.silent c.show_fault.ensures.shown)

pub returns-in-Err-clause-grows : goal.returns-in-Err-clause-grows
returns-in-Err-clause-grows g c =
    more_then _ _ _ c.perform_line.ensures.grows (errors_more _ _ _ (fault_grows _ _ _ _ c.show_fault.ensures.shown))
