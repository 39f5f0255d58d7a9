use Rattle.sql_rows.proofs.Common.{IfOk-weaker, state}
use Rattle.till_book.proofs.ReadTexts.{reads_one}
use Rattle.till_book.proofs.reading.settled_at.Goals as goal

pub returns-clause-found : goal.returns-clause-found
returns-clause-found g c clean =
    IfOk-weaker c.query_one.result _ _
    (λ found shown.
    reads_one c.args.number (state g.S.Store c.args.tx.now.conn.now)
    (state g.S.Store c.query_one.new.tx.conn.now) shown.0 found (rw (c.to_sql.ensures) at shown.1) shown.2)
    (c.query_one.ensures.shown clean)
