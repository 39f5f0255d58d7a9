use Rattle.std.proofs.Common.{◌≡◌, ◌≢◌, false}
use Rattle.std.specs.Prelude.{IfSome, string_bytes}
use Rattle.till_program.specs.declared.opening.OpenBook.{OpenBook}
use Rattle.till_program.specs.declared.peers.Phase.TheVariants.{Asks}
use Rattle.till_program.specs.Serving.{Handles}
use Rattle.till_program.proofs.peers.Peer.turn.Given as goal

abbrev pub invariant-pieces : goal.invariant-pieces
invariant-pieces l = record {
  ended : IfSome l.held (λ (book : OpenBook). book.conn.in_transaction ≡ false);
  handled : Handles (string_bytes l.desk.name) l.desk.secret l.self.inbox.items l.initial.held l.held;
  asks : l.self.phase ≡ Asks → l.held ≡ l.initial.held;
  asked : l.initial.self.phase ≢ Asks → l.self.phase ≢ Asks;
  once : l.initial.self.phase ≢ Asks → l.held ≡ l.initial.held;
}
