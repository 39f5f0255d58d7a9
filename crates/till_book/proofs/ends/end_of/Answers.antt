use Rattle.sql_rows.proofs.Chaining.{first_done, one_call}
use Rattle.till_book.proofs.ends.end_of.Goals as goal

pub returns : goal.returns
returns g c = first_done c.in_ok-last.ensures (one_call c.in_ok-replies.ensures) (λ said more journal holds.
    let last = said journal holds in
    let replies = more journal last.0 in
    (replies.0, c.end_with.ensures journal last.1 replies.1))
