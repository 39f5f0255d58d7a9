use Rattle.shop_schema.proofs.Common.{and_then, done, some_calls}
use Rattle.branch_finds.proofs.commands.find_named.Goals as goal

pub returns : goal.returns
returns g c = done
    (and_then (some_calls c.in_ok-has_city.ensures)
    (and_then (some_calls c.in_ok-customer.ensures)
    (and_then (some_calls c.in_ok-copy.ensures)
    (some_calls c.in_ok-rental.ensures))))
    (λ said books holds held.
    let city = said.0 books holds held in
    let customer = said.1.0 books city.0 held in
    let copy = said.1.1.0 books customer.0 held in
    let rental = said.1.1.1 books copy.0 held in
    (rental.0, λ known. let it = copy.1 known in (record { city = city.1; customer = customer.1; copy = it.0.0; rental = rental.1 }, it.1)))
