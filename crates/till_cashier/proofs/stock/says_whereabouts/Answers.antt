use Rattle.std.proofs.Common.{string_bytes}
use Rattle.shop_types.specs.Seen.{seen_ask}
use Rattle.till_cashier.specs.Asking.{IsAnswered, IsLookedUp}
use Rattle.till_cashier.proofs.Doing.{ok_then}
use Rattle.till_cashier.proofs.Looking.{nobody_added}
use Rattle.till_cashier.proofs.stock.says_whereabouts.Goals as goal

pub returns-in-None : goal.returns-in-None
returns-in-None g c plain =
    let asks = IsLookedUp (IsAnswered (g.V.Server.opens c.args.desk.now.server.now) g.V.Reader.Read.remaining g.V.Writer.Write.contents)
    c.args.desk.now.settings.now.token in
    ok_then c.says_holder.result c.says_holder.ensures.said
    (λ same. nobody_added asks (seen_ask c.args.ask.now) c.args.copy c.args.it (string_bytes c.args.said.now.text) c.args.said.now.status
    (string_bytes c.says_holder.new.said.text) c.says_holder.new.said.status c.in-None.is same c.says_holder.ensures.status)
