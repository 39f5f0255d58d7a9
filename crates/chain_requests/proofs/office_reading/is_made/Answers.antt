use Rattle.shop_schema.proofs.Common.{◌∙◌, seen_mark}
use Rattle.shop_store.specs.Seen.{seen_copy_row}
use Rattle.sql_rows.proofs.Chaining.{done_inside}
use Rattle.chain_requests.proofs.Marks.{made_of_row, unmade_of_none}
use Rattle.chain_requests.proofs.office_reading.is_made.Goals as goal

pub returns-in-Some : goal.returns-in-Some
returns-in-Some g c = done_inside c.in_ok-row.ensures (λ said books holds held.
    let found = said books holds held in
    (found.0, c.eq.ensures ∙ made_of_row (seen_mark c.args.mark.now) books (seen_copy_row c.in-Some.row).it held.numbers (rw c.in-Some.is at found.1)))

pub returns-in-None : goal.returns-in-None
returns-in-None g c = done_inside c.in_ok-row.ensures (λ said books holds held.
    let found = said books holds held in
    (found.0, unmade_of_none (seen_mark c.args.mark.now) books held.numbers (rw c.in-None.is at found.1)))
