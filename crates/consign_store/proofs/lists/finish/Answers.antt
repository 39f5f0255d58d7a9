use Rattle.std.proofs.Common.{ap, map, option_map, string_bytes}
use Rattle.std.proofs.lemmas.Result.{IfOk-weaker}
use Rattle.shop_views.specs.Consignments.{seen_listed}
use Rattle.consign_store.specs.Listed.{text_of}
use Rattle.consign_store.proofs.ListLines.{ends_some, ends_none}
use Rattle.consign_store.proofs.lists.finish.Goals as goal

pub returns-in_ok-add-in-Some : goal.returns-in_ok-add-in-Some
returns-in_ok-add-in-Some c =
    IfOk-weaker c.finish.result _ _
    (λ s told done on.
    ends_some c.args.taker.kind _ done (option_map seen_listed c.args.taker.consignment)
    (seen_listed c.in-Some.it) (string_bytes s) (ap (option_map seen_listed) c.in-Some.is) told
    (c.in_ok-add-in-Some.ensures (map (text_of c.args.taker.kind) done) on)) c.finish.ensures

pub returns-in-None : goal.returns-in-None
returns-in-None c =
    IfOk-weaker c.finish-in-None.result _ _
    (λ s told done on.
    ends_none c.args.taker.kind _ done (option_map seen_listed c.args.taker.consignment)
    (string_bytes s) (ap (option_map seen_listed) c.in-None.is) told on)
    c.finish-in-None.ensures
