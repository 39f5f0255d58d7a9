use Rattle.books_audit.proofs.Ends.{form_step}
use Rattle.books_audit.proofs.parts.is_form.Goals as goal

pub loop-part-preserved : goal.loop-part-preserved
loop-part-preserved c =
    let found = c.in-Some.ensures.found in
    let step = form_step c.args.parts.now c.loop-part.part-index _ c.loop-part-test.true c.loop-part.rest.now found.0 c.in-Some.more.now found.1 found.2 in
    (λ f. c.loop-part.invariant.0 (step.1 f), λ f. step.0 (c.loop-part.invariant.1 f))
