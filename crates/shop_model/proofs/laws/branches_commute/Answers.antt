use Rattle.shop_model.proofs.Interleaved.{commute}
use Rattle.shop_model.proofs.laws.branches_commute.Goals as goal

pub returns : goal.returns
returns c = commute
