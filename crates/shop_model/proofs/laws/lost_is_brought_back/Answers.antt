use Rattle.shop_model.proofs.Reentered.{brought_back}
use Rattle.shop_model.proofs.laws.lost_is_brought_back.Goals as goal

pub returns : goal.returns
returns c = brought_back
