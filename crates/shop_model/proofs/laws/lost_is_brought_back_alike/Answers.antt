use Rattle.shop_model.proofs.AnyOrder.{brought_back_alike}
use Rattle.shop_model.proofs.laws.lost_is_brought_back_alike.Goals as goal

pub returns : goal.returns
returns c = brought_back_alike
