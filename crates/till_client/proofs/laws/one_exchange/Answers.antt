use Rattle.till_client.proofs.OneTalk.{one_exchange}
use Rattle.till_client.proofs.laws.one_exchange.Goals as goal

pub returns : goal.returns
returns c = one_exchange
