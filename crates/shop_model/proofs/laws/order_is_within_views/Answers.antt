use Rattle.shop_model.proofs.Interleaved.{within_views}
use Rattle.shop_model.proofs.laws.order_is_within_views.Goals as goal

pub returns : goal.returns
returns c = within_views
