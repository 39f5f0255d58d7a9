use Rattle.std.proofs.Common.{rules}
use Rattle.counter_routes.proofs.MomentLemmas.{read_is}
use Rattle.counter_routes.proofs.PartLemmas.{no_moment}
use Rattle.counter_routes.proofs.imports.moment.Goals as goal

pub returns-in_default : goal.returns-in_default
returns-in_default c =
    let no = no_moment _ c.in_default.ensures.cases.0 in
    search (rules, no)

pub returns : goal.returns
returns c =
    let read = read_is c.read.result c.in-Ok.text.now c.read.ensures.some c.read.ensures.none in
    search (rules, read)
