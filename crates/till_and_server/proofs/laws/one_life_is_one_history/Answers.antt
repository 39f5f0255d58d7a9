use Rattle.till_and_server.proofs.Isolated.{one_life}
use Rattle.till_and_server.proofs.laws.one_life_is_one_history.Goals as goal

pub returns : goal.returns
returns c = one_life
