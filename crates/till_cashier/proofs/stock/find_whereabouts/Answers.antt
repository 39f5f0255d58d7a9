use Rattle.sqlite.specs.Held.{state}
use Rattle.till_requests.specs.Zones.{offset_of}
use Rattle.till_cashier.specs.Asking.{IsAnswered, IsLookedUp}
use Rattle.till_cashier.specs.Stocked.{HasLeft}
use Rattle.till_cashier.specs.Today.{IsOnWall}
use Rattle.till_cashier.specs.Whereabouts.{HasDeparted}
use Rattle.till_cashier.proofs.Departed.{left_place}
use Rattle.till_cashier.proofs.Looking.{some_is}
use Rattle.till_cashier.proofs.stock.find_whereabouts.Goals as goal

pub returns-in-Some-clause-known : goal.returns-in-Some-clause-known
returns-in-Some-clause-known g c clean =
    let on_wall = IsOnWall c.args.desk.now.wall (offset_of c.args.desk.now.settings.now.zone) in
    let old = state g.S.Store c.args.conn.now in
    left_place on_wall c.args.copy
    (IsLookedUp (IsAnswered (g.V.Server.opens c.args.desk.now.server.now) g.V.Reader.Read.remaining g.V.Writer.Write.contents)
    c.args.desk.now.settings.now.token) old c.args.desk.now.sheet.now c.in-Some.it
    (some_is HasLeft c.in_ok-it.field-0 c.in-Some.it c.in-Some.is c.in_ok-it.ensures.left)
    (some_is (HasDeparted on_wall old c.args.copy) c.in_ok-it.field-0 c.in-Some.it c.in-Some.is (c.in_ok-it.ensures.departed clean))
