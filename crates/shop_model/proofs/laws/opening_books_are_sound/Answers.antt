use Rattle.shop_model.proofs.Soundness.{opening_books_sound}
use Rattle.shop_model.proofs.laws.opening_books_are_sound.Goals as goal

pub returns : goal.returns
returns c = opening_books_sound
