use Rattle.shop_schema.proofs.Common.{refl, number_form}
use Rattle.books_audit.proofs.parts.skip_number.Goals as goal

pub returns-then-number-high-clause-found : goal.returns-then-number-high-clause-found
returns-then-number-high-clause-found c =
    (number_form c.in_ok-number.number, (c.in_ok-number.number, (c.if-low-number.true, c.if-number-high.true), refl), c.in_ok-number.ensures.found)
