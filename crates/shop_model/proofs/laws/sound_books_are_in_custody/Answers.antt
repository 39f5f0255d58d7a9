use Rattle.shop_model.proofs.Soundness.{in_custody}
use Rattle.shop_model.proofs.laws.sound_books_are_in_custody.Goals as goal

pub returns : goal.returns
returns c = in_custody
