use Rattle.till_cashier.proofs.refused.repeats_in.Goals as goal

pub loop-at-preserved : goal.loop-at-preserved
loop-at-preserved g c = (
  c.in_ok-add_refused.ensures.refused c.loop-at.invariant.0,
  λ none. let adds = c.in_ok-add_refused.ensures.left none in adds.1 (c.loop-at.invariant.1 adds.0),
)
