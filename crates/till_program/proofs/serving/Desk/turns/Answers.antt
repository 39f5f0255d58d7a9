use Rattle.till_program.proofs.ServingLaws.{served_same, served_then, served_handled}
use Rattle.till_program.proofs.serving.Desk.turns.Goals as goal
use Rattle.till_program.proofs.serving.Desk.turns.Goals.{then-peer, else-peer}

pub peers-init : goal.peers-init
peers-init c = record { ended = c.requires; served = served_same _ _ _ }

pub peers-preserved : goal.peers-preserved
peers-preserved c = elim c.if-peer.branch [
  | then-peer w ↦ rw w.held-is (record {
    ended = w.turn.ensures.ended;
    served = served_then _ _ _ _ _ c.peers.invariant.served (served_handled _ _ _ _ _ w.turn.ensures.handled);
  })
  | else-peer w ↦ rw w.held-is c.peers.invariant
]
