use Rattle.till_cashier.proofs.Repeating.{if_ok_then}
use Rattle.till_cashier.proofs.Showing.{high_then, stopped_more}
use Rattle.till_cashier.proofs.again.again_said.Goals as goal

pub returns-in-Some-clause-given : goal.returns-in-Some-clause-given
returns-in-Some-clause-given c = if_ok_then c.stopped_said.result _ c.stopped_said.ensures.status (λ none. absurd none)

pub returns-in-Some-clause-text : goal.returns-in-Some-clause-text
returns-in-Some-clause-text c = stopped_more c.stopped_said.result _ _ _ c.in_ok-said.ensures.text c.stopped_said.ensures.status c.stopped_said.ensures.text

pub returns-in-Some-clause-left : goal.returns-in-Some-clause-left
returns-in-Some-clause-left c = high_then c.stopped_said.result _ c.stopped_said.ensures.status
