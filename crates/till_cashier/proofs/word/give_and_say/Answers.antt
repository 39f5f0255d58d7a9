use Rattle.sqlite.specs.Held.{state}
use Rattle.till_client.specs.Replies.{seen_answer}
use Rattle.shop_types.specs.Seen.{seen_act}
use Rattle.till_work.specs.Exchanged.{IsExchanged}
use Rattle.till_cashier.specs.Clock.{local_clock}
use Rattle.till_cashier.specs.Faults.{giver_of}
use Rattle.till_cashier.specs.Asking.{IsAnswered}
use Rattle.till_cashier.proofs.Doing.{gives_told}
use Rattle.till_cashier.proofs.Printing.{gives_saying}
use Rattle.till_cashier.proofs.Adding.{adds_stays}
use Rattle.till_cashier.proofs.GoingOn.{kept_ok, kept_as, goes_stays}
use Rattle.till_cashier.proofs.Stops.{given_leaves}
use Rattle.till_cashier.proofs.word.give_and_say.Goals as goal

pub returns-in-Err-clause-keeps : goal.returns-in-Err-clause-keeps
returns-in-Err-clause-keeps g c clean kept = c.in-Err.ensures.keeps clean (kept_as c.in-Err.fault kept)

pub returns-in_err-table-clause-keeps : goal.returns-in_err-table-clause-keeps
returns-in_err-table-clause-keeps g c clean kept =
    goes_stays _ c.args.desk.now.settings.now.mark c.args.book.now.place c.give.new.book.place
    (state g.S.Store c.args.conn.now) (state g.S.Store c.give.new.conn)
    (state g.S.Store c.waited.new.conn) (c.in-Ok.ensures.keeps (c.waited.ensures.clean clean) (kept_ok _)) (c.waited.ensures.stays clean)

pub returns-clause-keeps : goal.returns-clause-keeps
returns-clause-keeps g c clean kept =
    goes_stays _ c.args.desk.now.settings.now.mark c.args.book.now.place c.give.new.book.place
    (state g.S.Store c.args.conn.now) (state g.S.Store c.give.new.conn)
    (state g.S.Store c.waited.new.conn) (c.in-Ok.ensures.keeps (c.waited.ensures.clean clean) (kept_ok _)) (c.waited.ensures.stays clean)

pub returns-clause-given : goal.returns-clause-given
returns-clause-given g c clean =
    gives_told (IsExchanged (g.V.Server.opens c.args.desk.now.server.now) g.V.Reader.Read.remaining g.V.Writer.Write.contents)
    (local_clock (g.K.WallClock.shows c.args.desk.now.clock.now) c.args.desk.now.settings.now.zone)
    c.args.desk.now.settings.now.mark c.args.desk.now.settings.now.token
    (giver_of c.args.desk.now.settings.now.staff c.args.desk.now.staff) c.told.result (seen_act c.args.act.now)
    (seen_answer c.in-Ok.it.answer) c.args.book.now.place c.give.new.book.place
    (state g.S.Store c.args.conn.now) (state g.S.Store c.give.new.conn) (state g.S.Store c.waited.new.conn)
    (c.in-Ok.ensures.given (c.waited.ensures.clean clean)) (c.waited.ensures.stays clean)

pub returns-in_err-table-clause-adds : goal.returns-in_err-table-clause-adds
returns-in_err-table-clause-adds g c clean kept =
    adds_stays (local_clock (g.K.WallClock.shows c.args.desk.now.clock.now) c.args.desk.now.settings.now.zone)
    c.args.desk.now.settings.now.mark c.args.desk.now.settings.now.token (giver_of c.args.desk.now.settings.now.staff c.args.desk.now.staff)
    (seen_act c.args.act.now) c.args.book.now.place c.give.new.book.place
    (state g.S.Store c.args.conn.now) (state g.S.Store c.give.new.conn) (state g.S.Store c.waited.new.conn)
    (c.in-Ok.ensures.adds (c.waited.ensures.clean clean) (kept_ok _)) (c.waited.ensures.stays clean)

pub returns-clause-adds : goal.returns-clause-adds
returns-clause-adds g c clean kept =
    adds_stays (local_clock (g.K.WallClock.shows c.args.desk.now.clock.now) c.args.desk.now.settings.now.zone)
    c.args.desk.now.settings.now.mark c.args.desk.now.settings.now.token (giver_of c.args.desk.now.settings.now.staff c.args.desk.now.staff)
    (seen_act c.args.act.now) c.args.book.now.place c.give.new.book.place
    (state g.S.Store c.args.conn.now) (state g.S.Store c.give.new.conn) (state g.S.Store c.waited.new.conn)
    (c.in-Ok.ensures.adds (c.waited.ensures.clean clean) (kept_ok _)) (c.waited.ensures.stays clean)

pub returns-in-Err-clause-adds : goal.returns-in-Err-clause-adds
returns-in-Err-clause-adds g c clean kept = c.in-Err.ensures.adds clean (kept_as c.in-Err.fault kept)

pub returns-clause-says : goal.returns-clause-says
returns-clause-says g c clean =
    gives_saying (IsExchanged (g.V.Server.opens c.args.desk.now.server.now) g.V.Reader.Read.remaining g.V.Writer.Write.contents)
    (IsAnswered (g.V.Server.opens c.args.desk.now.server.now) g.V.Reader.Read.remaining g.V.Writer.Write.contents)
    (local_clock (g.K.WallClock.shows c.args.desk.now.clock.now) c.args.desk.now.settings.now.zone)
    c.args.desk.now.settings.now.mark c.args.desk.now.settings.now.token
    (giver_of c.args.desk.now.settings.now.staff c.args.desk.now.staff) c.args.desk.now.is_json c.args.desk.now.sheet.now c.told.result
    (seen_act c.args.act.now) c.args.customer (seen_answer c.in-Ok.it.answer) c.args.book.now.place c.give.new.book.place
    (state g.S.Store c.args.conn.now) (state g.S.Store c.give.new.conn) (state g.S.Store c.waited.new.conn)
    (c.in-Ok.ensures.given (c.waited.ensures.clean clean)) (c.waited.ensures.stays clean) c.told.ensures

pub returns-in_err-table-clause-crash : goal.returns-in_err-table-clause-crash
returns-in_err-table-clause-crash g c clean =
    given_leaves _ (local_clock (g.K.WallClock.shows c.args.desk.now.clock.now) c.args.desk.now.settings.now.zone) c.args.desk.now.settings.now.token
    (giver_of c.args.desk.now.settings.now.staff c.args.desk.now.staff) (seen_act c.args.act.now) c.args.desk.now.settings.now.mark
    (seen_answer c.in-Ok.it.answer) c.args.book.now.place c.give.new.book.place
    (state g.S.Store c.args.conn.now) (state g.S.Store c.give.new.conn) (state g.S.Store c.waited.new.conn)
    (c.in-Ok.ensures.given (c.waited.ensures.clean clean)) (c.waited.ensures.stays clean)

pub returns-clause-crash : goal.returns-clause-crash
returns-clause-crash g c clean =
    given_leaves _ (local_clock (g.K.WallClock.shows c.args.desk.now.clock.now) c.args.desk.now.settings.now.zone) c.args.desk.now.settings.now.token
    (giver_of c.args.desk.now.settings.now.staff c.args.desk.now.staff) (seen_act c.args.act.now) c.args.desk.now.settings.now.mark
    (seen_answer c.in-Ok.it.answer) c.args.book.now.place c.give.new.book.place
    (state g.S.Store c.args.conn.now) (state g.S.Store c.give.new.conn) (state g.S.Store c.waited.new.conn)
    (c.in-Ok.ensures.given (c.waited.ensures.clean clean)) (c.waited.ensures.stays clean)
