use Rattle.shop_model.proofs.Soundness.{stays_sound_within}
use Rattle.shop_model.proofs.laws.books_stay_sound_within.Goals as goal

pub returns : goal.returns
returns c = stays_sound_within
