use Rattle.shop_types.proofs.Common.{◌∙◌, IfOk-weaker}
use Rattle.branch_core.proofs.FilmLemmas.{listed_in_stock}
use Rattle.branch_core.proofs.film_copies.film_in_stock.Goals as goal

pub returns : goal.returns
returns c = IfOk-weaker c.listed.result _ _ (λ numbers is film shop are. is ∙ listed_in_stock film shop c.args.copies.now are) c.listed.ensures
