use Rattle.till_and_server.proofs.InLives.{are_answered}
use Rattle.till_and_server.proofs.laws.exchanges_are_answered.Goals as goal

pub returns : goal.returns
returns c = are_answered
