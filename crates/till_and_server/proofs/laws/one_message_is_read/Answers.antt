use Rattle.till_and_server.proofs.OneConnection.{message_read}
use Rattle.till_and_server.proofs.laws.one_message_is_read.Goals as goal

pub returns : goal.returns
returns c = message_read
