use Rattle.shop_types.specs.Seen.{seen_command}
use Rattle.till_requests.specs.Zones.{offset_of}
use Rattle.till_cashier.specs.Today.{IsOnWall}
use Rattle.till_cashier.proofs.Departed.{departs}
use Rattle.till_cashier.proofs.stock.departed_by.Goals as goal

pub returns : goal.returns
returns g c =
    departs (IsOnWall c.args.desk.now.wall (offset_of c.args.desk.now.settings.now.zone)) c.args.copy c.args.entries.now.number c.args.at
    c.args.entries.now.rows.replies c.args.entries.now.rows.settled c.args.entries.now.rows.entries (seen_command c.in_ok-command.command)
    c.on_wall.result c.departure.result c.in_ok-command.ensures.says (c.is_accepted.ensures c.if-not-is_accepted.false) c.on_wall.ensures
    c.departure.ensures
