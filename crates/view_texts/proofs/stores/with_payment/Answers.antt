use Rattle.shop_schema.proofs.Common.{◌∙◌, ap, not, ◌+◌, unwrap_or}
use Rattle.view_texts.proofs.SalesLines.{payment_added}
use Rattle.view_texts.proofs.stores.with_payment.Goals as goal

pub returns-in-Some : goal.returns-in-Some
returns-in-Some c =
    payment_added c.args.row.now c.args.sum c.in_ok-number_or_null_at.field-0 c.in_ok-number_at.field-0 c.in-Some.sum c.in_ok-number_or_null_at.ensures.ok
    (c.is_none.ensures ∙ ap not c.if-is_none.false) c.in_ok-number_at.ensures.ok
    (c.in-Some.ensures.1 ∙ ap (λ n. n + c.from-amount.result) c.unwrap_or.ensures ∙ ap (λ n. unwrap_or c.args.sum 0 + n) c.from-amount.ensures)
