use Rattle.till_model.proofs.OfCopy.{rents_stay}
use Rattle.till_model.proofs.laws.rents_stay_of_their_copies.Goals as goal

pub returns : goal.returns
returns c = rents_stay
