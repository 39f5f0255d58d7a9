use Rattle.shop_model.proofs.Repeats.{without_repeats}
use Rattle.shop_model.proofs.laws.repeats_change_nothing.Goals as goal

pub returns : goal.returns
returns c = without_repeats
