use Rattle.shop_model.proofs.Migration.{without_terms_sound}
use Rattle.shop_model.proofs.laws.sound_without_terms.Goals as goal

pub returns : goal.returns
returns c = without_terms_sound
