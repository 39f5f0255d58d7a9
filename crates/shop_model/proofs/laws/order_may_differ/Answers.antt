use Rattle.shop_model.proofs.Swapped.{may_differ}
use Rattle.shop_model.proofs.laws.order_may_differ.Goals as goal

pub returns : goal.returns
returns c = may_differ
