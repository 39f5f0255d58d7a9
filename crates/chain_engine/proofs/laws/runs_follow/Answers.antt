use Rattle.chain_requests.proofs.Following.{runs_follow}
use Rattle.chain_engine.proofs.laws.runs_follow.Goals as goal

pub returns : goal.returns
returns c = runs_follow
