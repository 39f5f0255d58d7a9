use Rattle.counter_http.proofs.Following.{RunsOverSome}
use Rattle.sakila_office.proofs.peers.Peer.answer_some.Given as goal

abbrev pub invariant-requests : goal.invariant-requests
invariant-requests g l = RunsOverSome g.S.Store (g.O.OfficeWords.meaning l.words) l.fn.chain l.chain
