use Rattle.shop_model.proofs.StockFigures.{overdue_out}
use Rattle.shop_model.proofs.laws.overdue_is_out.Goals as goal

pub returns : goal.returns
returns c = overdue_out
