use Rattle.std.proofs.Common.{◌≡◌, [], ◌-◌, suc, refl, subst, arith}
use Rattle.books_audit.proofs.Ends.{EachLeft, each_step, each_begins, each_fails}
use Rattle.books_audit.proofs.parts.skip_each.Goals as goal

pub loop-init : goal.loop-init
loop-init c left h =
    let same : c.args.count ≡ left = omega (arith, h) in
    subst (EachLeft c.args.bytes.now c.args.count c.args.bytes.now) same (each_begins c.args.bytes.now c.args.count)

pub returns-in_err-rest-clause-none : goal.returns-in_err-rest-clause-none
returns-in_err-rest-clause-none c =
    rw c.from_residual.ensures
    (each_fails c.args.bytes.now c.args.count c.loop.rest.now (c.args.count - c.loop.counter - 1)
    (c.loop.invariant (suc (c.args.count - c.loop.counter - 1)) (omega arith)) c.in_err-rest.ensures.none)

pub loop-preserved : goal.loop-preserved
loop-preserved c left h =
    let found = c.in_ok-rest.ensures.found in
    each_step c.args.bytes.now c.args.count c.loop.rest.now left found.0 c.in_ok-rest.rest.now (c.loop.invariant (suc left) (omega (arith, h))) found.1 found.2

pub returns-clause-found : goal.returns-clause-found
returns-clause-found c = (c.loop.invariant 0 (omega arith)).sound [] c.loop.rest.now refl tt refl
