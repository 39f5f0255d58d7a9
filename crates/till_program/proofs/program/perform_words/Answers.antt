use Rattle.std.proofs.Common.{inl, inr, refl}
use Rattle.till_program.proofs.LineLaws.{not_done_at, usage_done, words_done}
use Rattle.till_program.proofs.OutputLaws.{errors_more, fault_grows, said_more, said_usage}
use Rattle.till_program.proofs.program.perform_words.Goals as goal

pub returns-in-Ok-clause-done : goal.returns-in-Ok-clause-done
returns-in-Ok-clause-done g c = words_done _ _ _ c.in-Ok.line _ _ _ _ _ c.in-Ok.ensures.ok c.perform_known.ensures.done

pub returns-in-Err-Words-clause-done : goal.returns-in-Err-Words-clause-done
returns-in-Err-Words-clause-done g c =
    usage_done _ _ _ _ _ _ _ _ (c.in-Err-Words.ensures.refused (λ is. cc)) c.at.ensures
    (said_usage c.usage-said.result _ _ _ c.usage-said.ensures c.print.ensures.shown)

pub returns-in-Err-Memory-clause-done : goal.returns-in-Err-Memory-clause-done
returns-in-Err-Memory-clause-done g c =
    inr (inl (not_done_at _ _ _ _ _ _ _ _ _ c.at-in-Err-Memory.ensures c.show_fault.ensures.status (inl refl) refl c.show_fault.ensures.shown))

pub returns-in-Err-Words-clause-grows : goal.returns-in-Err-Words-clause-grows
returns-in-Err-Words-clause-grows g c = said_more c.usage-said.result _ _ _ c.print.ensures.shown

pub returns-in-Err-Memory-clause-grows : goal.returns-in-Err-Memory-clause-grows
returns-in-Err-Memory-clause-grows g c = errors_more _ _ _ (fault_grows _ _ _ _ c.show_fault.ensures.shown)
