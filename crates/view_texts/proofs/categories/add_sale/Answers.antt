use Rattle.shop_schema.proofs.Common.{◌+◌, ◌∙◌, ap, not, map, or_null, number_value, on_ok_then, set_at}
use Rattle.view_texts.specs.CategorySums.{seen_sum, with_amount}
use Rattle.view_texts.proofs.CategorySales.{sale_added}
use Rattle.view_texts.proofs.categories.add_sale.Goals as goal

pub returns : goal.returns
returns c =
    let place = c.in-Some-place_of.place in
    on_ok_then c.add_amount.result
    (λ added names line sales is so_far.
    added ∙ ap (λ n. set_at (place + 1) (with_amount n) (map seen_sum c.args.sums.now.items)) c.from.ensures
    ∙ ap (set_at (place + 1) (with_amount c.in_ok-number_at.field-0)) so_far
    ∙ sale_added c.args.row.now line is names sales c.in_ok-number_or_null_at.field-0
    c.in-Some.number c.in_ok-number_at.field-0 place c.in_ok-number_or_null_at.ensures.ok
    (c.is_none.ensures ∙ ap not c.if-is_none.false)
    (c.in_ok-number.ensures.ok ∙ ap (or_null number_value) c.in-Some.is) c.in_ok-number_at.ensures.ok c.in-Some-place_of.ensures)
    c.add_amount.ensures
