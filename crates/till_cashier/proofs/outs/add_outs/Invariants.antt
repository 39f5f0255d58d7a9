use Rattle.std.specs.List.{All}
use Rattle.serde_json.specs.View.{view}
use Rattle.till_cashier.specs.Asking.{IsAnswered, IsLookedUp}
use Rattle.till_cashier.specs.Late.{IsCustomerList, IsOutOf}
use Rattle.till_cashier.proofs.outs.add_outs.Given as goal

abbrev pub invariant-loop-number : goal.invariant-loop-number
invariant-loop-number g l =
    let asks = IsLookedUp (IsAnswered (g.V.Server.opens l.desk.server.now) g.V.Reader.Read.remaining g.V.Writer.Write.contents) l.desk.settings.now.token in
    IsCustomerList asks (view l.lists.customers) → All (IsOutOf asks) l.initial.outs.items → All (IsOutOf asks) l.outs.items
