use Rattle.sqlite.specs.Held.{state}
use Rattle.till_requests.specs.Zones.{offset_of}
use Rattle.till_cashier.specs.Today.{IsOnWall}
use Rattle.till_cashier.proofs.Departed.{read_departed, read_left}
use Rattle.till_cashier.proofs.stock.departed_in_book.Goals as goal

pub returns-clause-left : goal.returns-clause-left
returns-clause-left g c =
    let it = c.in_ok-entries.entries in
    read_left (IsOnWall c.args.desk.now.wall (offset_of c.args.desk.now.settings.now.zone)) c.args.copy c.departed.result it.number it.rows.replies
    it.rows.settled it.rows.entries c.departed.ensures

pub returns-clause-departed : goal.returns-clause-departed
returns-clause-departed g c clean =
    let it = c.in_ok-entries.entries in
    read_departed (IsOnWall c.args.desk.now.wall (offset_of c.args.desk.now.settings.now.zone)) c.args.copy c.departed.result
    c.saturating_sub-first.result it.number it.rows (state g.S.Store c.args.conn.now) (state g.S.Store c.read.new.conn)
    (c.in_ok-entries.ensures.found clean) c.in_ok-entries.ensures.first c.departed.ensures
