use Rattle.counter_http.proofs.Following.{some_start, some_follow}
use Rattle.sakila_office.proofs.serving.Server.turns.Goals as goal

pub peers-init : goal.peers-init
peers-init g c = some_start

pub peers-preserved-then-peer : goal.peers-preserved-then-peer
peers-preserved-then-peer g c = some_follow c.peers.invariant c.turn.ensures
