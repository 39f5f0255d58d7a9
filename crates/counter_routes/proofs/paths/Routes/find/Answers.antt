use Rattle.std.proofs.Common.{refl}
use Rattle.counter_routes.proofs.RouteLemmas.{is_utf8-false, found_is}
use Rattle.counter_routes.proofs.paths.Routes.find.Goals as goal

pub returns-in_default : goal.returns-in_default
returns-in_default c = rw (is_utf8-false c.args.target.now c.in_default.ensures.cases.0) refl

pub returns-in-Ok-at : goal.returns-in-Ok-at
returns-in-Ok-at c =
    let path = c.in-Ok.ensures.cases in
    let found = rw path.0 at c.in-Ok-at.ensures.found in
    found_is c.args.posts c.args.target.now c.router.result.now _ path.1 c.if-not-starts_with_slash.ensures c.if-has_query.ensures c.router.ensures found
