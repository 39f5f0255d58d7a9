use Rattle.counter_http.proofs.Following.{both_run}
use Rattle.counter_http.proofs.laws.connections_are_one_history.Goals as goal

pub returns : goal.returns
returns c = both_run
