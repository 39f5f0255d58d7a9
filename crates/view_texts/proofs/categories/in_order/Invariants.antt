use Rattle.shop_schema.proofs.Common.{◌≡◌, length, map, sells_more, sorted_by}
use Rattle.shop_views.specs.Sales.{seen_category}
use Rattle.view_texts.specs.CategorySums.{seen_sum, sold}
use Rattle.view_texts.proofs.CategoryOrder.{all_put}
use Rattle.view_texts.proofs.categories.in_order.Given as goal

-- with the rest put among the rows, all are in their order
abbrev pub invariant-sums : goal.invariant-sums
invariant-sums l = sorted_by sells_more (sold (map seen_sum l.initial.sums.items)) ≡ all_put (sold (map seen_sum l.sums.items)) (map seen_category l.rows.items)

abbrev pub decreases-sums : goal.decreases-sums
decreases-sums l = length l.sums.items
