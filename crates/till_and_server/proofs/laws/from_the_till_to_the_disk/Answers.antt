use Rattle.till_and_server.proofs.Witnesses.{till_and_server}
use Rattle.till_and_server.proofs.laws.from_the_till_to_the_disk.Goals as goal

pub returns : goal.returns
returns c = till_and_server
