use Rattle.till_client.proofs.OneReply.{one_answer}
use Rattle.till_client.proofs.laws.one_answer.Goals as goal

pub returns : goal.returns
returns c = one_answer
