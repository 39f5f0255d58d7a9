use Rattle.counter_routes.proofs.BodyLemmas.{has_members-view}
use Rattle.counter_routes.proofs.bodies.has_members.Goals as goal

pub returns-in-Some : goal.returns-in-Some
returns-in-Some c = has_members-view c.args.count c.len.result _ c.in-Some.members.now.entries c.in-Some.ensures c.len.ensures.len
