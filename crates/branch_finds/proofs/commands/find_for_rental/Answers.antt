use Rattle.shop_schema.proofs.Common.{and_then, done, some_calls}
use Rattle.sql_rows.proofs.Chaining.{one_call}
use Rattle.branch_finds.proofs.commands.find_for_rental.Goals as goal

pub returns : goal.returns
returns g c =
    done (and_then (one_call c.in_ok-is_active.ensures.does) (and_then (some_calls c.in_ok-found.ensures) (one_call c.in_ok-has_same.ensures)))
    (λ said books holds held.
    let active = said.0 books holds held in
    let found = said.1.0 books active.0 held in
    let same = said.1.1 books found.0 held in
    (same.0, λ known. let it = found.1 known in ((λ rules reads. record { customer = active.1; copy = it.0.0; terms = it.0.1; same = same.1 }, tt), it.1)))
