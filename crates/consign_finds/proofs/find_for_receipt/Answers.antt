use Rattle.shop_schema.proofs.Common.{◌∙◌, sym, and_then, done, some_calls, of, unmarked, length_map}
use Rattle.sql_rows.proofs.Chaining.{one_call}
use Rattle.branch_core.proofs.MarkLemmas.{arrival_agrees}
use Rattle.consign_finds.proofs.find_for_receipt.Goals as goal

pub returns : goal.returns
returns g c = done (and_then (one_call c.in_ok-copies.ensures.does) (some_calls c.in_ok-arrival.ensures)) (λ said moment missing books holds held.
    let count = said.0 books holds held in
    let arrival = said.1 books count.0 held in
    let agrees = arrival_agrees c.args.branch c.args.from c.args.number books c.in_ok-arrival.arrival held.numbers arrival.1 in
    (arrival.0, ((λ rules reads. record { count = count.1 ∙ sym (length_map unmarked (of c.args.branch books.copies)); arrival_is = agrees }), arrival.1)))
