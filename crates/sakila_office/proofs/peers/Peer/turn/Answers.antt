use Rattle.counter_http.proofs.Following.{some_start}
use Rattle.sakila_office.proofs.peers.Peer.turn.Goals as goal

pub returns-in-Leaving : goal.returns-in-Leaving
returns-in-Leaving g c = some_start

pub returns-in-Gone : goal.returns-in-Gone
returns-in-Gone g c = some_start
