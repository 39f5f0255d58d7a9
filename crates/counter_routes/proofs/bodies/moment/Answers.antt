use Rattle.std.proofs.Common.{rules}
use Rattle.counter_routes.proofs.MomentLemmas.{read_is}
use Rattle.counter_routes.proofs.bodies.moment.Goals as goal

pub returns : goal.returns
returns c =
    let read = read_is c.read.result c.in_ok-string.field-0.now c.read.ensures.some c.read.ensures.none in
    search (rules, read)
