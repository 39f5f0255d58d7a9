use Rattle.shop_model.proofs.SalesFigures.{add_up_sales}
use Rattle.shop_model.proofs.laws.sales_add_up.Goals as goal

pub returns : goal.returns
returns c = add_up_sales
