use Rattle.std.specs.List.{All}
use Rattle.till_cashier.specs.Asking.{IsAnswered, IsLookedUp}
use Rattle.till_cashier.specs.Late.{IsOutOf}
use Rattle.till_cashier.proofs.outs.add_titles.Given as goal

abbrev pub invariant-loop-title : goal.invariant-loop-title
invariant-loop-title g l =
    let asks = IsLookedUp (IsAnswered (g.V.Server.opens l.desk.server.now) g.V.Reader.Read.remaining g.V.Writer.Write.contents) l.desk.settings.now.token in
    All (IsOutOf asks) l.initial.outs.items → All (IsOutOf asks) l.outs.items
