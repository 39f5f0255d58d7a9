use Rattle.till_and_server.proofs.Settled.{are_noted}
use Rattle.till_and_server.proofs.laws.settlements_are_noted.Goals as goal

pub returns : goal.returns
returns c = are_noted
