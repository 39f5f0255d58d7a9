use Rattle.till_client.proofs.SoleMessages.{one_command}
use Rattle.till_client.proofs.laws.one_command.Goals as goal

pub returns : goal.returns
returns c = one_command
