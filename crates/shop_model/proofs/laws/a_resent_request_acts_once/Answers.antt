use Rattle.shop_model.proofs.Stops.{resent_first}
use Rattle.shop_model.proofs.laws.a_resent_request_acts_once.Goals as goal

pub returns : goal.returns
returns c = resent_first
