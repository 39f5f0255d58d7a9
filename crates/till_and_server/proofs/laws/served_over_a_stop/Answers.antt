use Rattle.till_and_server.proofs.Stopped.{served_on}
use Rattle.till_and_server.proofs.laws.served_over_a_stop.Goals as goal

pub returns : goal.returns
returns g c = served_on g.S.Store
