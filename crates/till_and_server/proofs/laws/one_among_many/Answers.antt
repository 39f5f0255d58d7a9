use Rattle.till_and_server.proofs.Mixed.{among_many}
use Rattle.till_and_server.proofs.laws.one_among_many.Goals as goal

pub returns : goal.returns
returns c = among_many
