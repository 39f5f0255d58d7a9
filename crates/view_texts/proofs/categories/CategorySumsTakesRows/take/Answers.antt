use Rattle.shop_schema.proofs.Common.{map, on_ok_then}
use Rattle.view_texts.specs.CategorySums.{seen_sum}
use Rattle.view_texts.proofs.CategoryLines.{sums_more}
use Rattle.view_texts.proofs.categories.CategorySumsTakesRows.take.Goals as goal

pub returns-clause-taken : goal.returns-clause-taken
returns-clause-taken c =
    on_ok_then c.add_sale.result
    (λ adds first given so_far. sums_more given c.args.row.now (map seen_sum first.sums.items) (map seen_sum c.args.self.now.sums.items) _ adds so_far)
    c.add_sale.ensures
