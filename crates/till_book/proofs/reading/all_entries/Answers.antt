use Rattle.sqlite.specs.Held.{state}
use Rattle.till_book.specs.Journal.{StandsFor, IsBare}
use Rattle.till_book.proofs.ReadTexts.{reads_entries, written_of}
use Rattle.till_book.proofs.reading.all_entries.Goals as goal

pub returns-clause-found : goal.returns-clause-found
returns-clause-found g c clean =
    let shown = c.in_ok-rows.ensures.shown clean in
    rw (c.new.ensures)
    (reads_entries StandsFor written_of (state g.S.Store c.args.tx.now.conn.now)
    (state g.S.Store c.query_all.new.tx.conn.now) shown.0 c.in_ok-rows.rows.items shown.1 shown.2)

pub returns-clause-bare : goal.returns-clause-bare
returns-clause-bare g c clean =
    let shown = c.in_ok-rows.ensures.shown clean in
    rw (c.new.ensures)
    (reads_entries IsBare (λ trees journal it. it.written) (state g.S.Store c.args.tx.now.conn.now)
    (state g.S.Store c.query_all.new.tx.conn.now) shown.0 c.in_ok-rows.rows.items shown.1 shown.2)
