use Rattle.std.proofs.Common.{map}
use Rattle.std.specs.Prelude.{string_bytes}
use Rattle.sqlite.specs.Held.{state}
use Rattle.till_cashier.proofs.InTurn.{turn_grows, turn_adds}
use Rattle.till_cashier.proofs.OfficeStops.{office_stays}
use Rattle.std.proofs.Common.{inl}
use Rattle.till_cashier.proofs.Showing.{both_ok}
use Rattle.till_cashier.proofs.office.give_office.Goals as goal

pub returns-in-Ok-clause-grows : goal.returns-in-Ok-clause-grows
returns-in-Ok-clause-grows g c clean kept =
    turn_grows c.args.desk.now.settings.now.mark c.args.desk.now.settings.now.token (map string_bytes c.args.words.now) _ c.args.book.now.place
    c.give_in_turn.new.place (state g.S.Store c.args.conn.now) (state g.S.Store c.give_in_turn.new.conn) (c.give_in_turn.ensures.turn clean kept)

pub returns-in-Ok-clause-adds : goal.returns-in-Ok-clause-adds
returns-in-Ok-clause-adds g c clean kept =
    turn_adds c.args.desk.now.settings.now.mark c.args.desk.now.settings.now.token (map string_bytes c.args.words.now) _ c.args.book.now.place
    c.give_in_turn.new.place (state g.S.Store c.args.conn.now) (state g.S.Store c.give_in_turn.new.conn) (c.give_in_turn.ensures.turn clean kept)

pub returns-in-Ok-clause-crash : goal.returns-in-Ok-clause-crash
returns-in-Ok-clause-crash g c clean =
    c.give_in_turn.ensures.crash clean

pub returns-clause-crash : goal.returns-clause-crash
returns-clause-crash g c clean = office_stays _ c.args.book.now.place (state g.S.Store c.args.conn.now)

pub returns-in-Ok-clause-says : goal.returns-in-Ok-clause-says
returns-in-Ok-clause-says g c clean = c.give_in_turn.ensures.says clean

pub returns-clause-says : goal.returns-clause-says
returns-clause-says g c clean =
    both_ok c.unsaid.result _ _ _ c.unsaid.ensures.status (c.unsaid.ensures.none _ c.in-Err.ensures.fault) (λ said two none. inl (two, none))
