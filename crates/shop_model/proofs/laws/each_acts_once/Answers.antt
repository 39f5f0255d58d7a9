use Rattle.shop_model.proofs.Stops.{acts_once}
use Rattle.shop_model.proofs.laws.each_acts_once.Goals as goal

pub returns : goal.returns
returns c = acts_once
