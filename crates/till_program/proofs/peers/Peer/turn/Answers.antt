use Rattle.std.proofs.Common.{◌≢◌, ◌∙◌, ap, sym, rules}
use Rattle.till_program.specs.declared.peers.Peer.{Peer}
use Rattle.till_program.specs.declared.peers.Phase.TheVariants.{Asks}
use Rattle.till_program.proofs.PeerLaws.{gets_asks_not, leaves_asks_not}
use Rattle.till_program.proofs.peers.Peer.turn.Goals.{in-Asks+then-read, in-Asks+else-read, in-Gets, in-Leaves}
use Rattle.till_program.proofs.peers.Peer.turn.Goals as goal

pub pieces-preserved : goal.pieces-preserved
pieces-preserved c =
    elim c.match-self.branch [
      | in-Asks+then-read w ↦ record {
        ended = search rules;
        handled = search rules;
        asks = search rules;
        asked = λ no. absurd (c.pieces.invariant.asked no w.in-Asks.is);
        once = λ no. absurd (c.pieces.invariant.asked no w.in-Asks.is);
      }
      | in-Asks+else-read w ↦ record {
        ended = search rules;
        handled = search rules;
        asks = search rules;
        asked = λ no. absurd (c.pieces.invariant.asked no w.in-Asks.is);
        once = λ no. absurd (c.pieces.invariant.asked no w.in-Asks.is);
      }
      | in-Gets w ↦
          let before = gets_asks_not c.pieces.self.phase w.in-Gets.field-0 w.in-Gets.is in
          let now : c.match-self.self.phase ≢ Asks = λ is. w.write.ensures.asked before (ap (λ (it : Peer). it.phase) (sym w.self-is) ∙ is) in
          record {
            ended = search rules;
            handled = search rules;
            asks = λ is. absurd (now is);
            asked = λ no is. now is;
            once = λ no. w.held-is ∙ c.pieces.invariant.once no;
          }
      | in-Leaves w ↦
          let before = leaves_asks_not c.pieces.self.phase w.in-Leaves.is in
          let now : c.match-self.self.phase ≢ Asks = λ is. w.leave.ensures.asked before (ap (λ (it : Peer). it.phase) (sym w.self-is) ∙ is) in
          record {
            ended = search rules;
            handled = search rules;
            asks = λ is. absurd (now is);
            asked = λ no is. now is;
            once = λ no. w.held-is ∙ c.pieces.invariant.once no;
          }
    ]
