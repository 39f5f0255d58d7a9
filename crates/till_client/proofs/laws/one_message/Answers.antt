use Rattle.till_client.proofs.OneRequest.{one_message}
use Rattle.till_client.proofs.laws.one_message.Goals as goal

pub returns : goal.returns
returns c = one_message
