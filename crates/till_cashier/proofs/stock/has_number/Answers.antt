use Rattle.std.proofs.Common.{◌==◌, ◌∙◌, ◌+◌, Some, true, if◌then◌else◌, sym, ap, map, drop}
use Rattle.std.specs.Prelude.{option_and_then}
use Rattle.serde_json.specs.View.{view}
use Rattle.till_shows.proofs.ListLemmas.{front_of}
use Rattle.till_cashier.specs.Stocked.{has_number}
use Rattle.till_cashier.proofs.stock.has_number.Goals as goal

pub returns-in_err-number : goal.returns-in_err-number
returns-in_err-number c =
    let copy = c.args.copy in
    let rows = c.args.rows.now in
    let i = c.loop-row.row-index in
    let front = front_of view rows i c.row-item.result c.loop-row-test.true c.row-item.is in
    c.from_residual.ensures
    ∙ ap (option_and_then (λ n. if n == copy then Some true else has_number copy (map view (drop (i + 1) rows)))) c.in_err-number.ensures
    ∙ ap (has_number copy) (sym front) ∙ c.loop-row.invariant
