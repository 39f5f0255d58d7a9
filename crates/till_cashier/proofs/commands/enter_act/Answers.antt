use Rattle.sql_rows.proofs.Common.{state}
use Rattle.shop_types.specs.Seen.{seen_act}
use Rattle.till_cashier.specs.Clock.{local_clock}
use Rattle.till_cashier.specs.Faults.{giver_of}
use Rattle.till_cashier.proofs.GoingOn.{desk_kept}
use Rattle.till_cashier.proofs.Giving.{enters_try}
use Rattle.till_cashier.proofs.Stops.{entering_leaves, tries_stay}
use Rattle.till_cashier.proofs.commands.enter_act.Goals as goal

pub returns-in-Ok-clause-entered : goal.returns-in-Ok-clause-entered
returns-in-Ok-clause-entered g c clean =
    enters_try (local_clock (g.K.WallClock.shows c.args.desk.now.clock.now) c.args.desk.now.settings.now.zone) c.args.desk.now.settings.now.mark
    c.args.desk.now.settings.now.token c.identity.result.mark.now c.identity.result.token.now
    (giver_of c.args.desk.now.settings.now.staff c.args.desk.now.staff)
    (seen_act c.args.act.now) c.in_ok-request.field-0.request.items c.args.book.now.place c.enter.new.place
    (state g.S.Store c.args.conn.now) (state g.S.Store c.enter.new.conn) c.identity.ensures.mark
    c.identity.ensures.token c.in_ok-request.ensures (c.in-Ok.ensures.entered clean)

pub returns-in-Err-clause-stays : goal.returns-in-Err-clause-stays
returns-in-Err-clause-stays g c clean kept = c.in-Err.ensures.stays clean (desk_kept _ c.in-Err.fault c.from.ensures kept)

pub returns-in_err-request-clause-crash : goal.returns-in_err-request-clause-crash
returns-in_err-request-clause-crash g c clean = tries_stay _ _ _ _ _ c.args.desk.now.settings.now.mark c.args.book.now.place (state g.S.Store c.args.conn.now)

pub returns-in-Ok-clause-crash : goal.returns-in-Ok-clause-crash
returns-in-Ok-clause-crash g c clean =
    entering_leaves _ (local_clock (g.K.WallClock.shows c.args.desk.now.clock.now) c.args.desk.now.settings.now.zone) c.args.desk.now.settings.now.token
    (giver_of c.args.desk.now.settings.now.staff c.args.desk.now.staff) (seen_act c.args.act.now) c.args.desk.now.settings.now.mark
    c.identity.result.mark.now c.identity.result.token.now c.in_ok-request.field-0.request.items c.args.book.now.place
    (state g.S.Store c.args.conn.now) (state g.S.Store c.enter.new.conn) c.identity.ensures.mark
    c.identity.ensures.token c.in_ok-request.ensures clean c.enter.ensures.crash

pub returns-in-Err-clause-crash : goal.returns-in-Err-clause-crash
returns-in-Err-clause-crash g c clean =
    entering_leaves _ (local_clock (g.K.WallClock.shows c.args.desk.now.clock.now) c.args.desk.now.settings.now.zone) c.args.desk.now.settings.now.token
    (giver_of c.args.desk.now.settings.now.staff c.args.desk.now.staff) (seen_act c.args.act.now) c.args.desk.now.settings.now.mark
    c.identity.result.mark.now c.identity.result.token.now c.in_ok-request.field-0.request.items c.args.book.now.place
    (state g.S.Store c.args.conn.now) (state g.S.Store c.enter.new.conn) c.identity.ensures.mark
    c.identity.ensures.token c.in_ok-request.ensures clean c.enter.ensures.crash
