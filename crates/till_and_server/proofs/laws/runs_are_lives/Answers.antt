use Rattle.till_and_server.proofs.InLives.{are_lives}
use Rattle.till_and_server.proofs.laws.runs_are_lives.Goals as goal

pub returns : goal.returns
returns c = are_lives
