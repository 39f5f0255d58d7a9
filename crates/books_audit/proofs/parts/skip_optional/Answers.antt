use Rattle.shop_schema.proofs.Common.{refl, ◌∙◌, ◌++◌, None, number_form, option_form}
use Rattle.books_audit.proofs.Ends.{optional_found}
use Rattle.books_audit.proofs.parts.skip_optional.Goals as goal

pub returns-in-0-clause-found : goal.returns-in-0-clause-found
returns-in-0-clause-found c = (option_form None, (None, tt, refl), c.in_ok-count.ensures.found ∙ (λ i. number_form (c.in-0.is i) ++ c.in_ok-count.rest.now))

pub returns-in-1-clause-found : goal.returns-in-1-clause-found
returns-in-1-clause-found c =
    optional_found c.args.bytes.now c.in_ok-count.rest.now c.args.low c.args.high c.in_ok-count.count
    c.in_ok-count.ensures.found c.in-1.is c.skip_number.result c.skip_number.ensures.found
