use Rattle.till_cashier.specs.Asking.{IsAnswered, IsLookedUp}
use Rattle.till_cashier.specs.Late.{IsOutOf}
use Rattle.till_cashier.proofs.Late.{all_added}
use Rattle.till_cashier.proofs.outs.add_title.Goals as goal

pub returns-in-Some : goal.returns-in-Some
returns-in-Some g c listed all =
    let asks = IsLookedUp (IsAnswered (g.V.Server.opens c.args.desk.now.server.now) g.V.Reader.Read.remaining g.V.Writer.Write.contents)
    c.args.desk.now.settings.now.token in
    all_added (IsOutOf asks) c.add_all.result c.args.outs.now.items c.in-Some.more.items c.add_all.new.outs.items c.add_all.ensures.added
    c.add_all.ensures.same all (c.in-Some.ensures listed)
