use Rattle.std.proofs.Common.{inr}
use Rattle.till_program.proofs.OutputLaws.{errors_more, fault_grows}
use Rattle.till_program.proofs.PromptLaws.{some_then}
use Rattle.till_program.proofs.program.run_till.Goals as goal

pub returns-in-Err : goal.returns-in-Err
returns-in-Err g c =
    inr (
      c.asks_for_prompt.ensures c.if-not-asks_for_prompt.false,
      some_then _ _ _ _ c.prompt.ensures (errors_more _ _ _ (fault_grows _ _ _ _ c.show_fault.ensures.shown)),
    )
