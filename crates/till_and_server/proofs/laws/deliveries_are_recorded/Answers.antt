use Rattle.till_and_server.proofs.Recorded.{are_recorded}
use Rattle.till_and_server.proofs.laws.deliveries_are_recorded.Goals as goal

pub returns : goal.returns
returns c = are_recorded
