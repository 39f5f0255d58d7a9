use Rattle.shop_model.proofs.StockFigures.{splits}
use Rattle.shop_model.proofs.laws.stock_is_split.Goals as goal

pub returns : goal.returns
returns c = splits
