use Rattle.till_cashier.proofs.day.since.Goals as goal

pub returns-clause-says : goal.returns-clause-says
returns-clause-says g c clean = (c.in_ok-said.ensures.status, (_, c.in_ok-said.ensures.says clean))
