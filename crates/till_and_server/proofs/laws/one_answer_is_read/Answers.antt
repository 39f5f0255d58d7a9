use Rattle.till_and_server.proofs.OneConnection.{answer_read}
use Rattle.till_and_server.proofs.laws.one_answer_is_read.Goals as goal

pub returns : goal.returns
returns c = answer_read
