use Rattle.std.proofs.Common.{[], arith}
use Rattle.std.proofs.lemmas.List.Elements.{All-same}
use Rattle.till_cashier.specs.Asking.{IsAnswered, IsLookedUp}
use Rattle.till_cashier.specs.Late.{IsOutOf}
use Rattle.till_cashier.proofs.outs.outs_of.Goals as goal

pub returns : goal.returns
returns g c =
    let asks = IsLookedUp (IsAnswered (g.V.Server.opens c.args.desk.now.server.now) g.V.Reader.Read.remaining g.V.Writer.Write.contents)
    c.args.desk.now.settings.now.token in
    c.add_titles.ensures (All-same (IsOutOf asks) c.new-outs.result.items [] c.new-outs.ensures.items (λ k d low. absurd (omega (arith, low))))
