use Rattle.till_model.proofs.Settled.{settled_for_good}
use Rattle.till_model.proofs.laws.settled_entries_stay_settled.Goals as goal

pub returns : goal.returns
returns c = settled_for_good
