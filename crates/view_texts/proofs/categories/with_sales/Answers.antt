use Rattle.std.proofs.Common.{map}
use Rattle.view_texts.specs.Payments.{paid_lines}
use Rattle.view_texts.specs.CategorySums.{seen_sum}
use Rattle.view_texts.proofs.PaymentJoin.{payments_ask}
use Rattle.view_texts.proofs.PaymentLines.{shows_lines}
use Rattle.view_texts.proofs.CategoryLines.{sums_none}
use Rattle.view_texts.proofs.categories.with_sales.Goals as goal

pub each_row-requires : goal.each_row-requires
each_row-requires g c = payments_ask

pub returns-clause-sums : goal.returns-clause-sums
returns-clause-sums g c clean books holds held names none =
    let told = c.in_ok-each_row.ensures.took clean in
    let b = c.args.branch in
    let shown = rw (c.to_sql.ensures, c.get.ensures.value) at told.1 in
    let rows = shows_lines _ _ b told.0 books holds.schema_is shown holds.stands held.numbers in
    told.2 (sums_none (map seen_sum c.args.sums.items)) names (paid_lines b books) rows none
