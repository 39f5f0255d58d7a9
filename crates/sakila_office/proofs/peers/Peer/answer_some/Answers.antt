use Rattle.counter_http.proofs.Following.{some_start, some_follow}
use Rattle.sakila_office.proofs.peers.Peer.answer_some.Goals as goal

pub requests-init : goal.requests-init
requests-init g c = some_start

pub requests-preserved : goal.requests-preserved
requests-preserved g c = some_follow c.requests.invariant (c.advance-phase.ensures.turn.exchanges, c.advance-phase.ensures.turn.ran.ran)

pub returns-then-not-matches : goal.returns-then-not-matches
returns-then-not-matches g c = some_follow c.requests.invariant (c.advance-phase.ensures.turn.exchanges, c.advance-phase.ensures.turn.ran.ran)
