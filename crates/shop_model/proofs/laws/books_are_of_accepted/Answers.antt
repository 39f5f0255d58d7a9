use Rattle.shop_model.proofs.Reentered.{of_accepted}
use Rattle.shop_model.proofs.laws.books_are_of_accepted.Goals as goal

pub returns : goal.returns
returns c = of_accepted
