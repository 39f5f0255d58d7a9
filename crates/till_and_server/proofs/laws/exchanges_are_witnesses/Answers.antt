use Rattle.till_and_server.proofs.Witnesses.{are_witnesses}
use Rattle.till_and_server.proofs.laws.exchanges_are_witnesses.Goals as goal

pub returns : goal.returns
returns c = are_witnesses
