use Rattle.shop_model.proofs.AnyOrder.{any_order}
use Rattle.shop_model.proofs.laws.any_order_tells_alike.Goals as goal

pub returns : goal.returns
returns c = any_order
