use Rattle.till_and_server.proofs.Isolated.{resent_the_same}
use Rattle.till_and_server.proofs.laws.resent_requests_send_the_same.Goals as goal

pub returns : goal.returns
returns c = resent_the_same
