use Rattle.shop_schema.proofs.Common.{refl, text_form}
use Rattle.books_audit.proofs.parts.skip_bytes.Goals as goal

pub returns-then-text-most-clause-found : goal.returns-then-text-most-clause-found
returns-then-text-most-clause-found c =
    (text_form c.in_ok-text.text.now, (c.in_ok-text.text.now, (c.if-text-most.true, c.bytes_values.ensures), refl), c.in_ok-text.ensures.found)
