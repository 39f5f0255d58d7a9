use Rattle.sql_rows.proofs.Chaining.{does_so}
use Rattle.till_book.proofs.EndTexts.{reads_last_accepted}
use Rattle.till_book.proofs.ends.last_accepted_entry.Goals as goal

pub returns : goal.returns
returns g c = does_so c.query_one.ensures.inside c.query_one.ensures.shown (λ found shown. reads_last_accepted _ _ shown.0 found shown.1 shown.2)
