use Rattle.shop_types.proofs.Common.{refl, drop_all, drop_more, and_parts}
use Rattle.counter_routes.specs.Routes.{table, is_table}
use Rattle.counter_routes.proofs.RouteLemmas.{only_memory}
use Rattle.counter_routes.proofs.paths.build.Goals as goal

pub loop-pattern-init : goal.loop-pattern-init
unfolding is_table
loop-pattern-init c = record { rest = rw c.new-router.ensures refl; fits = rw c.new-router.ensures c.requires }

pub unreachable-requires : goal.unreachable-requires
unreachable-requires c =
    let e = drop_more c.args.patterns.now c.loop-pattern.pattern-index _ c.loop-pattern-test.true in
    let fits = rw e at c.loop-pattern.invariant.fits in
    c.in_default-e.not-OutOfMemory (only_memory _ _ _ _ _ c.in-Err.e c.in-Err.ensures refl (and_parts _ _ fits).0)

pub returns : goal.returns
unfolding table
returns c = rw (drop_all c.loop-pattern.pattern-index c.args.patterns.now c.loop-pattern-test.false) at c.loop-pattern.invariant.rest
