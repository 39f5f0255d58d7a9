use Rattle.std.proofs.Common.{◌∙◌}
use Rattle.view_texts.specs.Payments.{paid_lines}
use Rattle.view_texts.proofs.PaymentJoin.{payments_ask}
use Rattle.view_texts.proofs.PaymentLines.{shows_lines}
use Rattle.view_texts.proofs.SalesLines.{sold_none, sum_is}
use Rattle.view_texts.proofs.stores.rental_sum.Goals as goal

pub each_row-requires : goal.each_row-requires
each_row-requires g c = payments_ask

pub returns-clause-sum : goal.returns-clause-sum
returns-clause-sum g c clean books holds held =
    let told = c.in_ok-each_row.ensures.took clean in
    let b = c.args.branch in
    let shown = rw (c.to_sql.ensures, c.get.ensures.value) at told.1 in
    let rows = shows_lines _ _ b told.0 books holds.schema_is shown holds.stands held.numbers in
    told.2 sold_none (paid_lines b books) rows ∙ sum_is b books
