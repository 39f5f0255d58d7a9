use Rattle.sql_rows.proofs.Chaining.{done_inside}
use Rattle.till_book.proofs.ends.reply_count.Goals as goal

pub returns : goal.returns
returns g c = done_inside c.in_ok-last.ensures (λ said journal holds. let found = said journal holds in (found.0, c.count_by.ensures journal found.1))
