use Rattle.shop_schema.proofs.Common.{◌∙◌, ap, sym, map, sells_more, sorted_by}
use Rattle.shop_views.specs.Sales.{seen_category}
use Rattle.view_texts.specs.CategorySums.{seen_sum, sold}
use Rattle.view_texts.proofs.CategoryOrder.{all_put, all_sorted, popped_put}
use Rattle.view_texts.proofs.categories.in_order.Goals as goal

pub sums-init : goal.sums-init
sums-init c =
    let all = sold (map seen_sum c.args.sums.items) in
    all_sorted all ∙ ap (λ l. all_put all (map seen_category l)) (sym c.new-rows.ensures.items)

pub sums-preserved-in-Continue-1 : goal.sums-preserved-in-Continue-1
sums-preserved-in-Continue-1 c =
    popped_put (sorted_by sells_more (sold (map seen_sum c.args.sums.items))) c.sums.sums.items c.pop.new.self.items c.in-Some.category c.in-Some.ensures.items
    c.sums.rows.items c.put.new.rows.items c.in-Some-sum.total c.in-Some-sum.is c.in_ok-put.ensures c.sums.invariant
