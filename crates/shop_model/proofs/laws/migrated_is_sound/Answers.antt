use Rattle.shop_model.proofs.Migration.{migrated_sound}
use Rattle.shop_model.proofs.laws.migrated_is_sound.Goals as goal

pub returns : goal.returns
returns c = migrated_sound
