use Rattle.sql_rows.proofs.Chaining.{and_then, first_done, one_call}
use Rattle.till_book.proofs.reading.rows_after.Goals as goal

pub returns : goal.returns
returns g c = first_done c.in_ok-entries.ensures (and_then (one_call c.in_ok-replies.ensures) (one_call c.in_ok-settled.ensures)) (λ said more journal holds.
    let entries = said journal holds in
    let replies = more.0 journal entries.0 in
    let settled = more.1 journal replies.0 in
    (settled.0, record { entries = entries.1; replies = replies.1; settled = settled.1 }))
