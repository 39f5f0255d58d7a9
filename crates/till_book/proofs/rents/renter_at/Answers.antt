use Rattle.sql_rows.proofs.Chaining.{done_inside}
use Rattle.till_book.proofs.Helds.{renter_is}
use Rattle.till_book.proofs.rents.renter_at.Goals as goal

pub returns : goal.returns
returns g c = done_inside c.in_ok-rent.ensures (λ said journal holds.
    let found = said journal holds in
    (found.0, λ commands say. renter_is c.in_ok-rent.rent c.customer_of.result _ c.customer_of.ensures (found.1 commands say)))
