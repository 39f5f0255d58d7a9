use Rattle.till_model.proofs.Outcomes.{acts_once_in_order}
use Rattle.till_model.proofs.laws.entries_act_once_in_order.Goals as goal

pub returns : goal.returns
returns c = acts_once_in_order
