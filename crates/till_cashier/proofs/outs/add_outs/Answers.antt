use Rattle.std.proofs.Common.{◌++◌, ◌∷◌, []}
use Rattle.std.proofs.lemmas.List.Elements.{All-push, All-same}
use Rattle.till_cashier.specs.Asking.{IsAnswered, IsLookedUp}
use Rattle.till_cashier.specs.Late.{IsOutOf}
use Rattle.till_cashier.proofs.outs.add_outs.Goals as goal

pub returns-in_err-add_out : goal.returns-in_err-add_out
returns-in_err-add_out g c listed all =
    let asks = IsLookedUp (IsAnswered (g.V.Server.opens c.args.desk.now.server.now) g.V.Reader.Read.remaining g.V.Writer.Write.contents)
    c.args.desk.now.settings.now.token in
    All-same (IsOutOf asks) c.add_out.new.outs.items c.loop-number.outs.items c.in_err-add_out.ensures.same (c.loop-number.invariant listed all)

pub loop-number-preserved : goal.loop-number-preserved
loop-number-preserved g c listed all =
    let asks = IsLookedUp (IsAnswered (g.V.Server.opens c.args.desk.now.server.now) g.V.Reader.Read.remaining g.V.Writer.Write.contents)
    c.args.desk.now.settings.now.token in
    let old = c.loop-number.outs.items in
    let out = c.in_ok-out.out in
    All-same (IsOutOf asks) c.add_out.new.outs.items (old ++ out ∷ []) c.in_ok-add_out.ensures.added
    (All-push (IsOutOf asks) old out (c.loop-number.invariant listed all) (c.in_ok-out.ensures listed))
