use Rattle.sqlite.specs.Held.{state}
use Rattle.shop_types.specs.Seen.{seen_act}
use Rattle.till_work.proofs.GoingOn.{goes_then, stays_goes, sends_goes}
use Rattle.till_cashier.proofs.GoingOn.{kept_ok, kept_as}
use Rattle.till_cashier.specs.Clock.{local_clock}
use Rattle.till_cashier.specs.Faults.{giver_of}
use Rattle.till_cashier.proofs.Giving.{try_goes, tries_one}
use Rattle.till_cashier.proofs.Adding.{one_nothing, one_try, one_sent}
use Rattle.till_cashier.proofs.Stops.{try_then_leaves}
use Rattle.till_cashier.proofs.commands.give_once.Goals as goal

pub returns-in-Err-clause-keeps : goal.returns-in-Err-clause-keeps
returns-in-Err-clause-keeps g c clean kept =
    stays_goes _ c.args.desk.now.settings.now.mark c.args.book.now.place c.enter_act.new.book.place
    (state g.S.Store c.args.conn.now) (state g.S.Store c.enter_act.new.conn)
    (c.in-Err.ensures.stays clean (kept_as c.in-Err.fault kept))

pub returns-in-Ok-Some-clause-tried : goal.returns-in-Ok-Some-clause-tried
returns-in-Ok-Some-clause-tried g c clean =
    tries_one _ _ _ _ _ _ c.in-Ok-Some.answer c.args.book.now.place c.enter_act.new.book.place c.send_all.new.place
    (state g.S.Store c.args.conn.now) (state g.S.Store c.enter_act.new.conn)
    (state g.S.Store c.send_all.new.conn) (c.in-Ok.ensures.entered (c.send_all.ensures.clean clean))
    (rw c.in-Ok-Some.field-0-is at (c.in-Ok-Some.ensures.told clean)) c.in-Ok-Some.ensures.all

pub returns-in-Ok-Some-clause-keeps : goal.returns-in-Ok-Some-clause-keeps
returns-in-Ok-Some-clause-keeps g c clean kept =
    let mark = c.args.desk.now.settings.now.mark in
    goes_then _ mark c.args.book.now.place c.enter_act.new.book.place c.send_all.new.place
    (state g.S.Store c.args.conn.now) (state g.S.Store c.enter_act.new.conn)
    (state g.S.Store c.send_all.new.conn)
    (try_goes _ _ mark _ _ _ c.args.book.now.place c.enter_act.new.book.place (state g.S.Store c.args.conn.now) (state g.S.Store c.enter_act.new.conn)
    (c.in-Ok.ensures.entered (c.send_all.ensures.clean clean)))
    (sends_goes _ mark c.enter_act.new.book.place c.send_all.new.place (state g.S.Store c.enter_act.new.conn)
    (state g.S.Store c.send_all.new.conn) (c.in-Ok-Some.ensures.sends clean (kept_ok _)))

pub returns-in-Ok-None-clause-keeps : goal.returns-in-Ok-None-clause-keeps
returns-in-Ok-None-clause-keeps g c clean kept =
    let mark = c.args.desk.now.settings.now.mark in
    goes_then _ mark c.args.book.now.place c.enter_act.new.book.place c.send_all.new.place
    (state g.S.Store c.args.conn.now) (state g.S.Store c.enter_act.new.conn)
    (state g.S.Store c.send_all.new.conn)
    (try_goes _ _ mark _ _ _ c.args.book.now.place c.enter_act.new.book.place (state g.S.Store c.args.conn.now) (state g.S.Store c.enter_act.new.conn)
    (c.in-Ok.ensures.entered (c.send_all.ensures.clean clean)))
    (sends_goes _ mark c.enter_act.new.book.place c.send_all.new.place (state g.S.Store c.enter_act.new.conn)
    (state g.S.Store c.send_all.new.conn) (c.in-Ok-None.ensures.sends clean (kept_ok _)))

pub returns-in-Err-send_all-clause-keeps : goal.returns-in-Err-send_all-clause-keeps
returns-in-Err-send_all-clause-keeps g c clean kept =
    let mark = c.args.desk.now.settings.now.mark in
    goes_then _ mark c.args.book.now.place c.enter_act.new.book.place c.send_all.new.place
    (state g.S.Store c.args.conn.now) (state g.S.Store c.enter_act.new.conn)
    (state g.S.Store c.send_all.new.conn)
    (try_goes _ _ mark _ _ _ c.args.book.now.place c.enter_act.new.book.place (state g.S.Store c.args.conn.now) (state g.S.Store c.enter_act.new.conn)
    (c.in-Ok.ensures.entered (c.send_all.ensures.clean clean)))
    (sends_goes _ mark c.enter_act.new.book.place c.send_all.new.place (state g.S.Store c.enter_act.new.conn) (state g.S.Store c.send_all.new.conn)
    (c.in-Err-send_all.ensures.sends clean (kept_as c.in-Err-send_all.fault kept)))

pub returns-then-is_down-clause-keeps : goal.returns-then-is_down-clause-keeps
returns-then-is_down-clause-keeps g c clean kept =
    try_goes _ _ c.args.desk.now.settings.now.mark _ _ _ c.args.book.now.place c.enter_act.new.book.place
    (state g.S.Store c.args.conn.now) (state g.S.Store c.enter_act.new.conn)
    (c.in-Ok.ensures.entered clean)

pub returns-in-Err-clause-adds : goal.returns-in-Err-clause-adds
returns-in-Err-clause-adds g c clean kept =
    one_nothing (local_clock (g.K.WallClock.shows c.args.desk.now.clock.now) c.args.desk.now.settings.now.zone) c.args.desk.now.settings.now.mark
    c.args.desk.now.settings.now.token (giver_of c.args.desk.now.settings.now.staff c.args.desk.now.staff) (seen_act c.args.act.now)
    c.args.book.now.place c.enter_act.new.book.place (state g.S.Store c.args.conn.now) (state g.S.Store c.enter_act.new.conn)
    (c.in-Err.ensures.stays clean (kept_as c.in-Err.fault kept))

pub returns-then-is_down-clause-adds : goal.returns-then-is_down-clause-adds
returns-then-is_down-clause-adds g c clean kept =
    one_try (local_clock (g.K.WallClock.shows c.args.desk.now.clock.now) c.args.desk.now.settings.now.zone) c.args.desk.now.settings.now.mark
    c.args.desk.now.settings.now.token (giver_of c.args.desk.now.settings.now.staff c.args.desk.now.staff) (seen_act c.args.act.now)
    c.args.book.now.place c.enter_act.new.book.place (state g.S.Store c.args.conn.now) (state g.S.Store c.enter_act.new.conn)
    (c.in-Ok.ensures.entered clean)

pub returns-in-Ok-Some-clause-adds : goal.returns-in-Ok-Some-clause-adds
returns-in-Ok-Some-clause-adds g c clean kept =
    one_sent (local_clock (g.K.WallClock.shows c.args.desk.now.clock.now) c.args.desk.now.settings.now.zone) c.args.desk.now.settings.now.mark
    c.args.desk.now.settings.now.token (giver_of c.args.desk.now.settings.now.staff c.args.desk.now.staff) (seen_act c.args.act.now) _
    c.args.book.now.place c.enter_act.new.book.place c.send_all.new.place (state g.S.Store c.args.conn.now)
    (state g.S.Store c.enter_act.new.conn) (state g.S.Store c.send_all.new.conn)
    (c.in-Ok.ensures.entered (c.send_all.ensures.clean clean)) (c.in-Ok-Some.ensures.sends clean (kept_ok _))

pub returns-in-Ok-None-clause-adds : goal.returns-in-Ok-None-clause-adds
returns-in-Ok-None-clause-adds g c clean kept =
    one_sent (local_clock (g.K.WallClock.shows c.args.desk.now.clock.now) c.args.desk.now.settings.now.zone) c.args.desk.now.settings.now.mark
    c.args.desk.now.settings.now.token (giver_of c.args.desk.now.settings.now.staff c.args.desk.now.staff) (seen_act c.args.act.now) _
    c.args.book.now.place c.enter_act.new.book.place c.send_all.new.place (state g.S.Store c.args.conn.now)
    (state g.S.Store c.enter_act.new.conn) (state g.S.Store c.send_all.new.conn)
    (c.in-Ok.ensures.entered (c.send_all.ensures.clean clean)) (c.in-Ok-None.ensures.sends clean (kept_ok _))

pub returns-in-Err-send_all-clause-adds : goal.returns-in-Err-send_all-clause-adds
returns-in-Err-send_all-clause-adds g c clean kept =
    one_sent (local_clock (g.K.WallClock.shows c.args.desk.now.clock.now) c.args.desk.now.settings.now.zone) c.args.desk.now.settings.now.mark
    c.args.desk.now.settings.now.token (giver_of c.args.desk.now.settings.now.staff c.args.desk.now.staff) (seen_act c.args.act.now) _
    c.args.book.now.place c.enter_act.new.book.place c.send_all.new.place (state g.S.Store c.args.conn.now)
    (state g.S.Store c.enter_act.new.conn) (state g.S.Store c.send_all.new.conn)
    (c.in-Ok.ensures.entered (c.send_all.ensures.clean clean)) (c.in-Err-send_all.ensures.sends clean (kept_as c.in-Err-send_all.fault kept))

pub returns-in-Ok-Some-clause-crash : goal.returns-in-Ok-Some-clause-crash
returns-in-Ok-Some-clause-crash g c clean =
    try_then_leaves _ (local_clock (g.K.WallClock.shows c.args.desk.now.clock.now) c.args.desk.now.settings.now.zone) c.args.desk.now.settings.now.token
    (giver_of c.args.desk.now.settings.now.staff c.args.desk.now.staff) (seen_act c.args.act.now) c.args.desk.now.settings.now.mark
    c.args.book.now.place c.enter_act.new.book.place (state g.S.Store c.args.conn.now) (state g.S.Store c.enter_act.new.conn)
    (state g.S.Store c.send_all.new.conn) (c.in-Ok.ensures.entered (c.send_all.ensures.clean clean)) (c.send_all.ensures.crash clean)

pub returns-in-Ok-None-clause-crash : goal.returns-in-Ok-None-clause-crash
returns-in-Ok-None-clause-crash g c clean =
    try_then_leaves _ (local_clock (g.K.WallClock.shows c.args.desk.now.clock.now) c.args.desk.now.settings.now.zone) c.args.desk.now.settings.now.token
    (giver_of c.args.desk.now.settings.now.staff c.args.desk.now.staff) (seen_act c.args.act.now) c.args.desk.now.settings.now.mark
    c.args.book.now.place c.enter_act.new.book.place (state g.S.Store c.args.conn.now) (state g.S.Store c.enter_act.new.conn)
    (state g.S.Store c.send_all.new.conn) (c.in-Ok.ensures.entered (c.send_all.ensures.clean clean)) (c.send_all.ensures.crash clean)

pub returns-in-Err-send_all-clause-crash : goal.returns-in-Err-send_all-clause-crash
returns-in-Err-send_all-clause-crash g c clean =
    try_then_leaves _ (local_clock (g.K.WallClock.shows c.args.desk.now.clock.now) c.args.desk.now.settings.now.zone) c.args.desk.now.settings.now.token
    (giver_of c.args.desk.now.settings.now.staff c.args.desk.now.staff) (seen_act c.args.act.now) c.args.desk.now.settings.now.mark
    c.args.book.now.place c.enter_act.new.book.place (state g.S.Store c.args.conn.now) (state g.S.Store c.enter_act.new.conn)
    (state g.S.Store c.send_all.new.conn) (c.in-Ok.ensures.entered (c.send_all.ensures.clean clean)) (c.send_all.ensures.crash clean)
