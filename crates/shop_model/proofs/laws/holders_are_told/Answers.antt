use Rattle.shop_model.proofs.StockFigures.{holders_told}
use Rattle.shop_model.proofs.laws.holders_are_told.Goals as goal

pub returns : goal.returns
returns c = holders_told
