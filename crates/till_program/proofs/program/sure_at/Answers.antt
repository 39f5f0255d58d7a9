use Rattle.till_program.proofs.program.sure_at.Goals as goal

pub returns-clause-same : goal.returns-clause-same
returns-clause-same g c clean kept = c.made_sure-sure.ensures.same clean (c.has_failed.ensures kept)
