use Rattle.sql_rows.proofs.Chaining.{does_so}
use Rattle.till_book.proofs.EndTexts.{reads_unsure}
use Rattle.till_book.proofs.ends.unsure_entries.Goals as goal

pub returns : goal.returns
returns g c =
    does_so c.query_all.ensures.inside (rw (c.to_sql.ensures) at c.query_all.ensures.shown)
    (λ all shown. reads_unsure c.args.number _ _ shown.0 all.items shown.1 shown.2)
