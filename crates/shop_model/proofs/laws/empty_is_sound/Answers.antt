use Rattle.shop_model.proofs.Soundness.{empty_sound}
use Rattle.shop_model.proofs.laws.empty_is_sound.Goals as goal

pub returns : goal.returns
returns c = empty_sound
