use Rattle.sqlite.specs.Held.{state}
use Rattle.till_work.specs.Exchanged.{IsExchanged}
use Rattle.till_cashier.specs.Clock.{local_clock}
use Rattle.till_cashier.specs.Faults.{giver_of}
use Rattle.till_cashier.specs.Today.{IsOnWall}
use Rattle.till_cashier.specs.declared.word.Plan.TheVariants as plan
use Rattle.till_cashier.specs.Asking.{IsAnswered}
use Rattle.std.proofs.Common.{List, sym, subst}
use Rattle.shop_model.specs.Values.{Text}
use Rattle.till_cashier.specs.Office.{AddsInTurn}
use Rattle.till_cashier.proofs.Doing.{on_ok, carried_out}
use Rattle.till_cashier.proofs.Adding.{enters_as}
use Rattle.till_cashier.proofs.GoingOn.{kept_goes, kept_grows}
use Rattle.till_cashier.proofs.Repeating.{repeats_as}
use Rattle.till_cashier.proofs.Printing.{says_as}
use Rattle.till_cashier.proofs.Stops.{leaves_by, look_after}
use Rattle.till_requests.specs.Zones.{offset_of}
use Rattle.till_cashier.proofs.Showing.{both_ok, shows_as}
use Rattle.till_cashier.proofs.word.carry_out.Goals as goal

pub returns-in-Give-clause-keeps : goal.returns-in-Give-clause-keeps
returns-in-Give-clause-keeps g c clean kept branch planned = c.give_and_say.ensures.keeps clean kept

pub returns-in-Office-clause-grows : goal.returns-in-Office-clause-grows
returns-in-Office-clause-grows g c clean kept office planned = c.give_office.ensures.grows clean kept

pub returns-in-Send-clause-grows : goal.returns-in-Send-clause-grows
returns-in-Send-clause-grows g c clean kept office planned = c.send.ensures.grows clean kept

pub returns-in-Give-clause-done : goal.returns-in-Give-clause-done
returns-in-Give-clause-done g c clean =
    carried_out c.give_and_say.result (IsExchanged (g.V.Server.opens c.args.desk.now.server.now) g.V.Reader.Read.remaining g.V.Writer.Write.contents)
    (local_clock (g.K.WallClock.shows c.args.desk.now.clock.now) c.args.desk.now.settings.now.zone)
    c.args.desk.now.settings.now.mark c.args.desk.now.settings.now.token (giver_of c.args.desk.now.settings.now.staff c.args.desk.now.staff) c.args.plan
    (plan.Give c.in-Give.act c.in-Give.customer) _ _ _ _ c.in-Give.is (c.give_and_say.ensures.given clean)

pub returns-in-Send-clause-done : goal.returns-in-Send-clause-done
returns-in-Send-clause-done g c clean =
    carried_out c.send.result (IsExchanged (g.V.Server.opens c.args.desk.now.server.now) g.V.Reader.Read.remaining g.V.Writer.Write.contents)
    (local_clock (g.K.WallClock.shows c.args.desk.now.clock.now) c.args.desk.now.settings.now.zone)
    c.args.desk.now.settings.now.mark c.args.desk.now.settings.now.token (giver_of c.args.desk.now.settings.now.staff c.args.desk.now.staff) c.args.plan
    plan.Send _ _ _ _ c.in-Send.is (c.send.ensures.sent clean)

pub returns-in-Waiting-clause-done : goal.returns-in-Waiting-clause-done
returns-in-Waiting-clause-done g c clean =
    carried_out c.waiting_entries.result (IsExchanged (g.V.Server.opens c.args.desk.now.server.now) g.V.Reader.Read.remaining g.V.Writer.Write.contents)
    (local_clock (g.K.WallClock.shows c.args.desk.now.clock.now) c.args.desk.now.settings.now.zone)
    c.args.desk.now.settings.now.mark c.args.desk.now.settings.now.token (giver_of c.args.desk.now.settings.now.staff c.args.desk.now.staff) c.args.plan
    plan.Waiting _ _ _ _ c.in-Waiting.is (on_ok _ (c.waiting_entries.ensures.stays clean))

pub returns-in-Look-clause-done : goal.returns-in-Look-clause-done
returns-in-Look-clause-done g c clean =
    carried_out c.look.result (IsExchanged (g.V.Server.opens c.args.desk.now.server.now) g.V.Reader.Read.remaining g.V.Writer.Write.contents)
    (local_clock (g.K.WallClock.shows c.args.desk.now.clock.now) c.args.desk.now.settings.now.zone)
    c.args.desk.now.settings.now.mark c.args.desk.now.settings.now.token (giver_of c.args.desk.now.settings.now.staff c.args.desk.now.staff) c.args.plan
    (plan.Look c.in-Look.it) _ _ _ _ c.in-Look.is (on_ok _ (c.look.ensures.stays clean))

pub returns-in-Last-clause-done : goal.returns-in-Last-clause-done
returns-in-Last-clause-done g c clean =
    carried_out c.last_entries.result (IsExchanged (g.V.Server.opens c.args.desk.now.server.now) g.V.Reader.Read.remaining g.V.Writer.Write.contents)
    (local_clock (g.K.WallClock.shows c.args.desk.now.clock.now) c.args.desk.now.settings.now.zone)
    c.args.desk.now.settings.now.mark c.args.desk.now.settings.now.token (giver_of c.args.desk.now.settings.now.staff c.args.desk.now.staff) c.args.plan
    (plan.Last c.in-Last.count) _ _ _ _ c.in-Last.is (on_ok _ (c.last_entries.ensures.stays clean))

pub returns-in-Waiting-clause-keeps : goal.returns-in-Waiting-clause-keeps
returns-in-Waiting-clause-keeps g c clean kept branch planned =
    kept_goes _ c.args.desk.now.settings.now.mark c.args.book.now.place (state g.S.Store c.args.conn.now)
    (state g.S.Store c.waiting_entries.new.conn) (c.waiting_entries.ensures.stays clean)

pub returns-in-Waiting-clause-grows : goal.returns-in-Waiting-clause-grows
returns-in-Waiting-clause-grows g c clean kept office planned =
    kept_grows _ c.args.book.now.place (state g.S.Store c.args.conn.now) (state g.S.Store c.waiting_entries.new.conn) (c.waiting_entries.ensures.stays clean)

pub returns-in-Look-clause-keeps : goal.returns-in-Look-clause-keeps
returns-in-Look-clause-keeps g c clean kept branch planned =
    kept_goes _ c.args.desk.now.settings.now.mark c.args.book.now.place (state g.S.Store c.args.conn.now)
    (state g.S.Store c.look.new.conn) (c.look.ensures.stays clean)

pub returns-in-Last-clause-keeps : goal.returns-in-Last-clause-keeps
returns-in-Last-clause-keeps g c clean kept branch planned =
    kept_goes _ c.args.desk.now.settings.now.mark c.args.book.now.place (state g.S.Store c.args.conn.now)
    (state g.S.Store c.last_entries.new.conn) (c.last_entries.ensures.stays clean)

pub returns-in-Last-clause-grows : goal.returns-in-Last-clause-grows
returns-in-Last-clause-grows g c clean kept office planned =
    kept_grows _ c.args.book.now.place (state g.S.Store c.args.conn.now) (state g.S.Store c.last_entries.new.conn) (c.last_entries.ensures.stays clean)

pub returns-in-Day-clause-done : goal.returns-in-Day-clause-done
returns-in-Day-clause-done g c clean =
    carried_out c.day.result (IsExchanged (g.V.Server.opens c.args.desk.now.server.now) g.V.Reader.Read.remaining g.V.Writer.Write.contents)
    (local_clock (g.K.WallClock.shows c.args.desk.now.clock.now) c.args.desk.now.settings.now.zone)
    c.args.desk.now.settings.now.mark c.args.desk.now.settings.now.token (giver_of c.args.desk.now.settings.now.staff c.args.desk.now.staff) c.args.plan
    (plan.Day c.in-Day.asked) _ _ _ _ c.in-Day.is (on_ok _ (c.day.ensures.stays clean))

pub returns-in-Day-clause-keeps : goal.returns-in-Day-clause-keeps
returns-in-Day-clause-keeps g c clean kept branch planned =
    kept_goes _ c.args.desk.now.settings.now.mark c.args.book.now.place (state g.S.Store c.args.conn.now)
    (state g.S.Store c.day.new.conn) (c.day.ensures.stays clean)

pub returns-in-Day-clause-grows : goal.returns-in-Day-clause-grows
returns-in-Day-clause-grows g c clean kept office planned =
    kept_grows _ c.args.book.now.place (state g.S.Store c.args.conn.now) (state g.S.Store c.day.new.conn) (c.day.ensures.stays clean)

pub returns-in-Give-clause-enters : goal.returns-in-Give-clause-enters
returns-in-Give-clause-enters g c clean kept =
    enters_as (local_clock (g.K.WallClock.shows c.args.desk.now.clock.now) c.args.desk.now.settings.now.zone)
    c.args.desk.now.settings.now.mark c.args.desk.now.settings.now.token (giver_of c.args.desk.now.settings.now.staff c.args.desk.now.staff)
    (plan.Give c.in-Give.act c.in-Give.customer) c.args.plan _ _ _ _ (sym c.in-Give.is) (c.give_and_say.ensures.adds clean kept)

pub returns-in-Office-clause-enters : goal.returns-in-Office-clause-enters
returns-in-Office-clause-enters g c clean kept =
    enters_as (local_clock (g.K.WallClock.shows c.args.desk.now.clock.now) c.args.desk.now.settings.now.zone)
    c.args.desk.now.settings.now.mark c.args.desk.now.settings.now.token (giver_of c.args.desk.now.settings.now.staff c.args.desk.now.staff)
    (plan.Office c.in-Office.words) c.args.plan _ _ _ _ (sym c.in-Office.is)
    (subst (λ (it : List Text). AddsInTurn c.args.desk.now.settings.now.mark c.args.desk.now.settings.now.token it c.args.book.now.place
    (state g.S.Store c.args.conn.now) c.give_office.new.book.place (state g.S.Store c.give_office.new.conn)) c.as_slice.ensures
    (c.give_office.ensures.adds clean kept))

pub returns-in-Send-clause-enters : goal.returns-in-Send-clause-enters
returns-in-Send-clause-enters g c clean kept =
    enters_as (local_clock (g.K.WallClock.shows c.args.desk.now.clock.now) c.args.desk.now.settings.now.zone)
    c.args.desk.now.settings.now.mark c.args.desk.now.settings.now.token (giver_of c.args.desk.now.settings.now.staff c.args.desk.now.staff)
    plan.Send c.args.plan _ _ _ _ (sym c.in-Send.is) (c.send.ensures.adds clean kept c.args.desk.now.settings.now.mark)

pub returns-in-Waiting-clause-enters : goal.returns-in-Waiting-clause-enters
returns-in-Waiting-clause-enters g c clean kept =
    enters_as (local_clock (g.K.WallClock.shows c.args.desk.now.clock.now) c.args.desk.now.settings.now.zone)
    c.args.desk.now.settings.now.mark c.args.desk.now.settings.now.token (giver_of c.args.desk.now.settings.now.staff c.args.desk.now.staff)
    plan.Waiting c.args.plan _ _ _ _ (sym c.in-Waiting.is) (c.waiting_entries.ensures.stays clean)

pub returns-in-Look-clause-enters : goal.returns-in-Look-clause-enters
returns-in-Look-clause-enters g c clean kept =
    enters_as (local_clock (g.K.WallClock.shows c.args.desk.now.clock.now) c.args.desk.now.settings.now.zone)
    c.args.desk.now.settings.now.mark c.args.desk.now.settings.now.token (giver_of c.args.desk.now.settings.now.staff c.args.desk.now.staff)
    (plan.Look c.in-Look.it) c.args.plan _ _ _ _ (sym c.in-Look.is) (c.look.ensures.stays clean)

pub returns-in-Last-clause-enters : goal.returns-in-Last-clause-enters
returns-in-Last-clause-enters g c clean kept =
    enters_as (local_clock (g.K.WallClock.shows c.args.desk.now.clock.now) c.args.desk.now.settings.now.zone)
    c.args.desk.now.settings.now.mark c.args.desk.now.settings.now.token (giver_of c.args.desk.now.settings.now.staff c.args.desk.now.staff)
    (plan.Last c.in-Last.count) c.args.plan _ _ _ _ (sym c.in-Last.is) (c.last_entries.ensures.stays clean)

pub returns-in-Day-clause-enters : goal.returns-in-Day-clause-enters
returns-in-Day-clause-enters g c clean kept =
    enters_as (local_clock (g.K.WallClock.shows c.args.desk.now.clock.now) c.args.desk.now.settings.now.zone)
    c.args.desk.now.settings.now.mark c.args.desk.now.settings.now.token (giver_of c.args.desk.now.settings.now.staff c.args.desk.now.staff)
    (plan.Day c.in-Day.asked) c.args.plan _ _ _ _ (sym c.in-Day.is) (c.day.ensures.stays clean)

pub returns-in-Again-clause-keeps : goal.returns-in-Again-clause-keeps
returns-in-Again-clause-keeps g c clean kept branch planned = c.again.ensures.keeps clean kept

pub returns-in-Again-clause-again : goal.returns-in-Again-clause-again
returns-in-Again-clause-again g c clean =
    repeats_as c.again.result _ (IsExchanged (g.V.Server.opens c.args.desk.now.server.now) g.V.Reader.Read.remaining g.V.Writer.Write.contents)
    (local_clock (g.K.WallClock.shows c.args.desk.now.clock.now) c.args.desk.now.settings.now.zone)
    c.args.desk.now.settings.now.mark c.args.desk.now.settings.now.token c.args.desk.now.settings.now.staff c.args.plan
    (plan.Again c.in-Again.late) _ _ _ _ c.in-Again.is (c.again.ensures.given clean)

pub returns-in-Give-clause-says : goal.returns-in-Give-clause-says
returns-in-Give-clause-says g c clean =
    says_as (IsExchanged (g.V.Server.opens c.args.desk.now.server.now) g.V.Reader.Read.remaining g.V.Writer.Write.contents)
    (IsAnswered (g.V.Server.opens c.args.desk.now.server.now) g.V.Reader.Read.remaining g.V.Writer.Write.contents)
    (local_clock (g.K.WallClock.shows c.args.desk.now.clock.now) c.args.desk.now.settings.now.zone)
    (IsOnWall c.args.desk.now.wall (offset_of c.args.desk.now.settings.now.zone))
    c.args.desk.now.settings.now.mark c.args.desk.now.settings.now.token
    (giver_of c.args.desk.now.settings.now.staff c.args.desk.now.staff) c.args.desk.now.is_json c.args.desk.now.sheet.now
    c.args.book.now.last c.give_and_say.result c.args.plan (plan.Give c.in-Give.act c.in-Give.customer) _ _ _ _ c.in-Give.is
    (c.give_and_say.ensures.says clean)

pub returns-in-Look-clause-says : goal.returns-in-Look-clause-says
returns-in-Look-clause-says g c clean =
    says_as (IsExchanged (g.V.Server.opens c.args.desk.now.server.now) g.V.Reader.Read.remaining g.V.Writer.Write.contents)
    (IsAnswered (g.V.Server.opens c.args.desk.now.server.now) g.V.Reader.Read.remaining g.V.Writer.Write.contents)
    (local_clock (g.K.WallClock.shows c.args.desk.now.clock.now) c.args.desk.now.settings.now.zone)
    (IsOnWall c.args.desk.now.wall (offset_of c.args.desk.now.settings.now.zone))
    c.args.desk.now.settings.now.mark c.args.desk.now.settings.now.token
    (giver_of c.args.desk.now.settings.now.staff c.args.desk.now.staff) c.args.desk.now.is_json c.args.desk.now.sheet.now
    c.args.book.now.last c.look.result c.args.plan (plan.Look c.in-Look.it) _ _ _ _ c.in-Look.is (c.look.ensures.says clean)

pub returns-in-ReadOffice-clause-says : goal.returns-in-ReadOffice-clause-says
returns-in-ReadOffice-clause-says g c clean =
    says_as (IsExchanged (g.V.Server.opens c.args.desk.now.server.now) g.V.Reader.Read.remaining g.V.Writer.Write.contents)
    (IsAnswered (g.V.Server.opens c.args.desk.now.server.now) g.V.Reader.Read.remaining g.V.Writer.Write.contents)
    (local_clock (g.K.WallClock.shows c.args.desk.now.clock.now) c.args.desk.now.settings.now.zone)
    (IsOnWall c.args.desk.now.wall (offset_of c.args.desk.now.settings.now.zone))
    c.args.desk.now.settings.now.mark c.args.desk.now.settings.now.token
    (giver_of c.args.desk.now.settings.now.staff c.args.desk.now.staff) c.args.desk.now.is_json c.args.desk.now.sheet.now
    c.args.book.now.last c.read_office.result c.args.plan (plan.ReadOffice c.in-ReadOffice.words) _ _ _ _ c.in-ReadOffice.is
    (rw c.as_slice-in-ReadOffice.ensures at c.read_office.ensures)

pub returns-in-Day-clause-says : goal.returns-in-Day-clause-says
returns-in-Day-clause-says g c clean =
    says_as (IsExchanged (g.V.Server.opens c.args.desk.now.server.now) g.V.Reader.Read.remaining g.V.Writer.Write.contents)
    (IsAnswered (g.V.Server.opens c.args.desk.now.server.now) g.V.Reader.Read.remaining g.V.Writer.Write.contents)
    (local_clock (g.K.WallClock.shows c.args.desk.now.clock.now) c.args.desk.now.settings.now.zone)
    (IsOnWall c.args.desk.now.wall (offset_of c.args.desk.now.settings.now.zone))
    c.args.desk.now.settings.now.mark c.args.desk.now.settings.now.token
    (giver_of c.args.desk.now.settings.now.staff c.args.desk.now.staff) c.args.desk.now.is_json c.args.desk.now.sheet.now
    c.args.book.now.last c.day.result c.args.plan (plan.Day c.in-Day.asked) _ _ _ _ c.in-Day.is (c.day.ensures.says clean)

pub returns-in-Usage-clause-says : goal.returns-in-Usage-clause-says
returns-in-Usage-clause-says g c clean =
    says_as (IsExchanged (g.V.Server.opens c.args.desk.now.server.now) g.V.Reader.Read.remaining g.V.Writer.Write.contents)
    (IsAnswered (g.V.Server.opens c.args.desk.now.server.now) g.V.Reader.Read.remaining g.V.Writer.Write.contents)
    (local_clock (g.K.WallClock.shows c.args.desk.now.clock.now) c.args.desk.now.settings.now.zone)
    (IsOnWall c.args.desk.now.wall (offset_of c.args.desk.now.settings.now.zone))
    c.args.desk.now.settings.now.mark c.args.desk.now.settings.now.token
    (giver_of c.args.desk.now.settings.now.staff c.args.desk.now.staff) c.args.desk.now.is_json c.args.desk.now.sheet.now
    c.args.book.now.last c.usage.result c.args.plan plan.Usage _ _ _ _ c.in-Usage.is c.usage.ensures

-- ---- a stop

pub returns-in-Give-clause-crash : goal.returns-in-Give-clause-crash
returns-in-Give-clause-crash g c clean =
    leaves_by (IsExchanged (g.V.Server.opens c.args.desk.now.server.now) g.V.Reader.Read.remaining g.V.Writer.Write.contents)
    (local_clock (g.K.WallClock.shows c.args.desk.now.clock.now) c.args.desk.now.settings.now.zone)
    c.args.desk.now.settings.now.mark c.args.desk.now.settings.now.token (giver_of c.args.desk.now.settings.now.staff c.args.desk.now.staff)
    (plan.Give c.in-Give.act c.in-Give.customer) c.args.plan _ _ (sym c.in-Give.is)
    (c.give_and_say.ensures.crash clean)

pub returns-in-Office-clause-crash : goal.returns-in-Office-clause-crash
returns-in-Office-clause-crash g c clean =
    leaves_by (IsExchanged (g.V.Server.opens c.args.desk.now.server.now) g.V.Reader.Read.remaining g.V.Writer.Write.contents)
    (local_clock (g.K.WallClock.shows c.args.desk.now.clock.now) c.args.desk.now.settings.now.zone)
    c.args.desk.now.settings.now.mark c.args.desk.now.settings.now.token (giver_of c.args.desk.now.settings.now.staff c.args.desk.now.staff)
    (plan.Office c.in-Office.words) c.args.plan _ _ (sym c.in-Office.is)
    (c.give_office.ensures.crash clean)

pub returns-in-Send-clause-crash : goal.returns-in-Send-clause-crash
returns-in-Send-clause-crash g c clean =
    leaves_by (IsExchanged (g.V.Server.opens c.args.desk.now.server.now) g.V.Reader.Read.remaining g.V.Writer.Write.contents)
    (local_clock (g.K.WallClock.shows c.args.desk.now.clock.now) c.args.desk.now.settings.now.zone)
    c.args.desk.now.settings.now.mark c.args.desk.now.settings.now.token (giver_of c.args.desk.now.settings.now.staff c.args.desk.now.staff)
    plan.Send c.args.plan _ _ (sym c.in-Send.is)
    (c.send.ensures.crash clean)

pub returns-in-Again-clause-crash : goal.returns-in-Again-clause-crash
returns-in-Again-clause-crash g c clean =
    leaves_by (IsExchanged (g.V.Server.opens c.args.desk.now.server.now) g.V.Reader.Read.remaining g.V.Writer.Write.contents)
    (local_clock (g.K.WallClock.shows c.args.desk.now.clock.now) c.args.desk.now.settings.now.zone)
    c.args.desk.now.settings.now.mark c.args.desk.now.settings.now.token (giver_of c.args.desk.now.settings.now.staff c.args.desk.now.staff)
    (plan.Again c.in-Again.late) c.args.plan _ _ (sym c.in-Again.is)
    (c.again.ensures.crash clean)

pub returns-in-Waiting-clause-crash : goal.returns-in-Waiting-clause-crash
returns-in-Waiting-clause-crash g c clean =
    leaves_by (IsExchanged (g.V.Server.opens c.args.desk.now.server.now) g.V.Reader.Read.remaining g.V.Writer.Write.contents)
    (local_clock (g.K.WallClock.shows c.args.desk.now.clock.now) c.args.desk.now.settings.now.zone)
    c.args.desk.now.settings.now.mark c.args.desk.now.settings.now.token (giver_of c.args.desk.now.settings.now.staff c.args.desk.now.staff)
    plan.Waiting c.args.plan _ _ (sym c.in-Waiting.is)
    (look_after c.args.book.now.place (state g.S.Store c.args.conn.now) (state g.S.Store c.waiting_entries.new.conn) (c.waiting_entries.ensures.stays clean))

pub returns-in-Last-clause-crash : goal.returns-in-Last-clause-crash
returns-in-Last-clause-crash g c clean =
    leaves_by (IsExchanged (g.V.Server.opens c.args.desk.now.server.now) g.V.Reader.Read.remaining g.V.Writer.Write.contents)
    (local_clock (g.K.WallClock.shows c.args.desk.now.clock.now) c.args.desk.now.settings.now.zone)
    c.args.desk.now.settings.now.mark c.args.desk.now.settings.now.token (giver_of c.args.desk.now.settings.now.staff c.args.desk.now.staff)
    (plan.Last c.in-Last.count) c.args.plan _ _ (sym c.in-Last.is)
    (look_after c.args.book.now.place (state g.S.Store c.args.conn.now) (state g.S.Store c.last_entries.new.conn) (c.last_entries.ensures.stays clean))

pub returns-in-Day-clause-crash : goal.returns-in-Day-clause-crash
returns-in-Day-clause-crash g c clean =
    leaves_by (IsExchanged (g.V.Server.opens c.args.desk.now.server.now) g.V.Reader.Read.remaining g.V.Writer.Write.contents)
    (local_clock (g.K.WallClock.shows c.args.desk.now.clock.now) c.args.desk.now.settings.now.zone)
    c.args.desk.now.settings.now.mark c.args.desk.now.settings.now.token (giver_of c.args.desk.now.settings.now.staff c.args.desk.now.staff)
    (plan.Day c.in-Day.asked) c.args.plan _ _ (sym c.in-Day.is)
    (look_after c.args.book.now.place (state g.S.Store c.args.conn.now) (state g.S.Store c.day.new.conn) (c.day.ensures.stays clean))

pub returns-in-Look-clause-crash : goal.returns-in-Look-clause-crash
returns-in-Look-clause-crash g c clean =
    leaves_by (IsExchanged (g.V.Server.opens c.args.desk.now.server.now) g.V.Reader.Read.remaining g.V.Writer.Write.contents)
    (local_clock (g.K.WallClock.shows c.args.desk.now.clock.now) c.args.desk.now.settings.now.zone)
    c.args.desk.now.settings.now.mark c.args.desk.now.settings.now.token (giver_of c.args.desk.now.settings.now.staff c.args.desk.now.staff)
    (plan.Look c.in-Look.it) c.args.plan _ _ (sym c.in-Look.is)
    (look_after c.args.book.now.place (state g.S.Store c.args.conn.now) (state g.S.Store c.look.new.conn) (c.look.ensures.stays clean))

pub returns-in-ReadOffice-clause-crash : goal.returns-in-ReadOffice-clause-crash
returns-in-ReadOffice-clause-crash g c clean =
    leaves_by (IsExchanged (g.V.Server.opens c.args.desk.now.server.now) g.V.Reader.Read.remaining g.V.Writer.Write.contents)
    (local_clock (g.K.WallClock.shows c.args.desk.now.clock.now) c.args.desk.now.settings.now.zone)
    c.args.desk.now.settings.now.mark c.args.desk.now.settings.now.token (giver_of c.args.desk.now.settings.now.staff c.args.desk.now.staff)
    (plan.ReadOffice c.in-ReadOffice.words) c.args.plan _ _ (sym c.in-ReadOffice.is)
    (look_after c.args.book.now.place (state g.S.Store c.args.conn.now) (state g.S.Store c.args.conn.now) (λ journal rests. rests))

pub returns-in-Today-clause-crash : goal.returns-in-Today-clause-crash
returns-in-Today-clause-crash g c clean =
    leaves_by (IsExchanged (g.V.Server.opens c.args.desk.now.server.now) g.V.Reader.Read.remaining g.V.Writer.Write.contents)
    (local_clock (g.K.WallClock.shows c.args.desk.now.clock.now) c.args.desk.now.settings.now.zone)
    c.args.desk.now.settings.now.mark c.args.desk.now.settings.now.token (giver_of c.args.desk.now.settings.now.staff c.args.desk.now.staff)
    (plan.Today c.in-Today.date) c.args.plan _ _ (sym c.in-Today.is)
    (look_after c.args.book.now.place (state g.S.Store c.args.conn.now) (state g.S.Store c.args.conn.now) (λ journal rests. rests))

pub returns-in-Slip-clause-crash : goal.returns-in-Slip-clause-crash
returns-in-Slip-clause-crash g c clean =
    leaves_by (IsExchanged (g.V.Server.opens c.args.desk.now.server.now) g.V.Reader.Read.remaining g.V.Writer.Write.contents)
    (local_clock (g.K.WallClock.shows c.args.desk.now.clock.now) c.args.desk.now.settings.now.zone)
    c.args.desk.now.settings.now.mark c.args.desk.now.settings.now.token (giver_of c.args.desk.now.settings.now.staff c.args.desk.now.staff)
    plan.Slip c.args.plan _ _ (sym c.in-Slip.is)
    (look_after c.args.book.now.place (state g.S.Store c.args.conn.now) (state g.S.Store c.args.conn.now) (λ journal rests. rests))

pub returns-in-Usage-clause-crash : goal.returns-in-Usage-clause-crash
returns-in-Usage-clause-crash g c clean =
    leaves_by (IsExchanged (g.V.Server.opens c.args.desk.now.server.now) g.V.Reader.Read.remaining g.V.Writer.Write.contents)
    (local_clock (g.K.WallClock.shows c.args.desk.now.clock.now) c.args.desk.now.settings.now.zone)
    c.args.desk.now.settings.now.mark c.args.desk.now.settings.now.token (giver_of c.args.desk.now.settings.now.staff c.args.desk.now.staff)
    plan.Usage c.args.plan _ _ (sym c.in-Usage.is)
    (look_after c.args.book.now.place (state g.S.Store c.args.conn.now) (state g.S.Store c.args.conn.now) (λ journal rests. rests))

-- ---- the book is shown

pub returns-in-Office-clause-shows : goal.returns-in-Office-clause-shows
returns-in-Office-clause-shows g c clean =
    shows_as (IsExchanged (g.V.Server.opens c.args.desk.now.server.now) g.V.Reader.Read.remaining g.V.Writer.Write.contents)
    c.args.desk.now.wall (offset_of c.args.desk.now.settings.now.zone) c.args.desk.now.settings.now.staff
    (local_clock (g.K.WallClock.shows c.args.desk.now.clock.now) c.args.desk.now.settings.now.zone)
    c.args.desk.now.settings.now.mark c.args.desk.now.settings.now.token
    c.args.desk.now.is_json
    c.give_office.result c.args.plan (plan.Office c.in-Office.words) _ _ _ _ c.in-Office.is (rw c.as_slice.ensures at (c.give_office.ensures.says clean))

pub returns-in-Send-clause-shows : goal.returns-in-Send-clause-shows
returns-in-Send-clause-shows g c clean =
    shows_as (IsExchanged (g.V.Server.opens c.args.desk.now.server.now) g.V.Reader.Read.remaining g.V.Writer.Write.contents)
    c.args.desk.now.wall (offset_of c.args.desk.now.settings.now.zone) c.args.desk.now.settings.now.staff
    (local_clock (g.K.WallClock.shows c.args.desk.now.clock.now) c.args.desk.now.settings.now.zone)
    c.args.desk.now.settings.now.mark c.args.desk.now.settings.now.token
    c.args.desk.now.is_json
    c.send.result c.args.plan plan.Send _ _ _ _ c.in-Send.is
    (both_ok c.send.result _ _ _ c.send.ensures.status (c.send.ensures.says clean) (λ said done shows. (done, shows)))

pub returns-in-Waiting-clause-shows : goal.returns-in-Waiting-clause-shows
returns-in-Waiting-clause-shows g c clean =
    shows_as (IsExchanged (g.V.Server.opens c.args.desk.now.server.now) g.V.Reader.Read.remaining g.V.Writer.Write.contents)
    c.args.desk.now.wall (offset_of c.args.desk.now.settings.now.zone) c.args.desk.now.settings.now.staff
    (local_clock (g.K.WallClock.shows c.args.desk.now.clock.now) c.args.desk.now.settings.now.zone)
    c.args.desk.now.settings.now.mark c.args.desk.now.settings.now.token
    c.args.desk.now.is_json
    c.waiting_entries.result c.args.plan plan.Waiting _ _ _ _ c.in-Waiting.is
    (both_ok c.waiting_entries.result _ _ _ c.waiting_entries.ensures.status (c.waiting_entries.ensures.says clean) (λ said done shows. (done, shows)))

pub returns-in-Last-clause-shows : goal.returns-in-Last-clause-shows
returns-in-Last-clause-shows g c clean =
    shows_as (IsExchanged (g.V.Server.opens c.args.desk.now.server.now) g.V.Reader.Read.remaining g.V.Writer.Write.contents)
    c.args.desk.now.wall (offset_of c.args.desk.now.settings.now.zone) c.args.desk.now.settings.now.staff
    (local_clock (g.K.WallClock.shows c.args.desk.now.clock.now) c.args.desk.now.settings.now.zone)
    c.args.desk.now.settings.now.mark c.args.desk.now.settings.now.token
    c.args.desk.now.is_json
    c.last_entries.result c.args.plan (plan.Last c.in-Last.count) _ _ _ _ c.in-Last.is
    (both_ok c.last_entries.result _ _ _ c.last_entries.ensures.status (c.last_entries.ensures.says clean) (λ said done shows. (done, shows)))

pub returns-in-Again-clause-shows : goal.returns-in-Again-clause-shows
returns-in-Again-clause-shows g c clean =
    shows_as (IsExchanged (g.V.Server.opens c.args.desk.now.server.now) g.V.Reader.Read.remaining g.V.Writer.Write.contents)
    c.args.desk.now.wall (offset_of c.args.desk.now.settings.now.zone) c.args.desk.now.settings.now.staff
    (local_clock (g.K.WallClock.shows c.args.desk.now.clock.now) c.args.desk.now.settings.now.zone)
    c.args.desk.now.settings.now.mark c.args.desk.now.settings.now.token
    c.args.desk.now.is_json
    c.again.result c.args.plan (plan.Again c.in-Again.late) _ _ _ _ c.in-Again.is (c.again.ensures.says clean)

pub returns-in-Again-clause-enters : goal.returns-in-Again-clause-enters
returns-in-Again-clause-enters g c clean kept =
    enters_as (local_clock (g.K.WallClock.shows c.args.desk.now.clock.now) c.args.desk.now.settings.now.zone)
    c.args.desk.now.settings.now.mark c.args.desk.now.settings.now.token (giver_of c.args.desk.now.settings.now.staff c.args.desk.now.staff)
    (plan.Again c.in-Again.late) c.args.plan _ _ _ _ (sym c.in-Again.is) (c.again.ensures.adds clean kept)

pub returns-in-Today-clause-shows : goal.returns-in-Today-clause-shows
returns-in-Today-clause-shows g c clean =
    shows_as (IsExchanged (g.V.Server.opens c.args.desk.now.server.now) g.V.Reader.Read.remaining g.V.Writer.Write.contents)
    c.args.desk.now.wall (offset_of c.args.desk.now.settings.now.zone) c.args.desk.now.settings.now.staff
    (local_clock (g.K.WallClock.shows c.args.desk.now.clock.now) c.args.desk.now.settings.now.zone)
    c.args.desk.now.settings.now.mark c.args.desk.now.settings.now.token
    c.args.desk.now.is_json
    c.today.result c.args.plan (plan.Today c.in-Today.date) _ _ _ _ c.in-Today.is
    (both_ok c.today.result _ _ _ c.today.ensures.status c.today.ensures.says (λ said done says. (done, says)))

pub returns-in-Slip-clause-shows : goal.returns-in-Slip-clause-shows
returns-in-Slip-clause-shows g c clean =
    shows_as (IsExchanged (g.V.Server.opens c.args.desk.now.server.now) g.V.Reader.Read.remaining g.V.Writer.Write.contents)
    c.args.desk.now.wall (offset_of c.args.desk.now.settings.now.zone) c.args.desk.now.settings.now.staff
    (local_clock (g.K.WallClock.shows c.args.desk.now.clock.now) c.args.desk.now.settings.now.zone)
    c.args.desk.now.settings.now.mark c.args.desk.now.settings.now.token
    c.args.desk.now.is_json
    c.say_slip.result c.args.plan plan.Slip _ _ _ _ c.in-Slip.is c.say_slip.ensures
