use Rattle.till_and_server.proofs.Isolated.{sent_the_same}
use Rattle.till_and_server.proofs.laws.lives_send_the_same.Goals as goal

pub returns : goal.returns
returns c = sent_the_same
