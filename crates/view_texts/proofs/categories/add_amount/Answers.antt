use Rattle.std.proofs.Common.{◌+◌, ◌∙◌, ap}
use Rattle.view_texts.proofs.CategorySales.{amount_set}
use Rattle.view_texts.proofs.categories.add_amount.Goals as goal

pub returns-in-Some-checked_add : goal.returns-in-Some-checked_add
returns-in-Some-checked_add c =
    amount_set c.args.amount c.args.sums.now.items c.args.place c.in-Some.category.now
    c.in-Some.ensures.item.3.0 c.in-Some-checked_add.sum c.in-Some.ensures.value
    (c.in-Some-checked_add.ensures.1 ∙ ap (λ n. n + c.args.amount) c.unwrap_or.ensures)
