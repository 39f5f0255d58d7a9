use Rattle.shop_model.proofs.Swapped.{stay_alike}
use Rattle.shop_model.proofs.laws.alike_stay_alike.Goals as goal

pub returns : goal.returns
returns c = stay_alike
