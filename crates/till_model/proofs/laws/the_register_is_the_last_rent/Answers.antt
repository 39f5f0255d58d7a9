use Rattle.till_model.proofs.Held.{register_is}
use Rattle.till_model.proofs.laws.the_register_is_the_last_rent.Goals as goal

pub returns : goal.returns
returns c = register_is
