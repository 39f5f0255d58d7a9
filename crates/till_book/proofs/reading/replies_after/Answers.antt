use Rattle.sql_rows.proofs.Common.{state}
use Rattle.sql_rows.proofs.Stays.{inside_as}
use Rattle.till_book.proofs.ReadTexts.{reads_replies_after}
use Rattle.till_book.proofs.reading.replies_after.Goals as goal

pub returns : goal.returns
returns g c = record {
  inside = inside_as c.in_ok-rows.ensures.inside;
  says = λ clean.
      let shown = rw (c.to_sql.ensures) at (c.in_ok-rows.ensures.shown clean) in
      rw (c.new.ensures)
      (reads_replies_after c.args.number (state g.S.Store c.args.tx.now.conn.now)
      (state g.S.Store c.query_all.new.tx.conn.now) shown.0 c.in_ok-rows.rows.items shown.1 shown.2);
}
