use Rattle.till_and_server.proofs.Settled.{settled_to_disk}
use Rattle.till_and_server.proofs.laws.settled_from_the_till_to_the_disk.Goals as goal

pub returns : goal.returns
returns c = settled_to_disk
