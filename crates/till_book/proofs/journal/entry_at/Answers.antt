use Rattle.sql_rows.proofs.Common.{IfOk-weaker, state}
use Rattle.sql_rows.proofs.Stays.{inside_as}
use Rattle.till_book.proofs.JournalTexts.{finds_entry}
use Rattle.till_book.proofs.journal.entry_at.Goals as goal

pub returns : goal.returns
returns g c = record {
  inside = inside_as c.in_ok-rows.ensures.inside;
  says = λ clean.
      let shown = rw (c.to_sql.ensures) at (c.in_ok-rows.ensures.shown clean) in
      IfOk-weaker c.first_bytes.result _ _
      (λ it tells.
      finds_entry c.args.number (state g.S.Store c.args.tx.now.conn.now)
      (state g.S.Store c.query.new.tx.conn.now) c.in_ok-rows.rows.items shown c.as_slice.result.now c.as_slice.ensures.value it tells)
      c.first_bytes.ensures;
}
