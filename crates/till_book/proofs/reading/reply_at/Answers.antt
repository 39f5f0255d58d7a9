use Rattle.sql_rows.proofs.Chaining.{does_so}
use Rattle.till_book.proofs.ReadTexts.{reads_reply}
use Rattle.till_book.proofs.reading.reply_at.Goals as goal

pub returns : goal.returns
returns g c =
    does_so c.query_one.ensures.inside (rw (c.to_sql.ensures) at c.query_one.ensures.shown)
    (λ found shown. reads_reply c.args.number _ _ shown.0 found shown.1 shown.2)
