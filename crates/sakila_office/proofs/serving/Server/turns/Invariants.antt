use Rattle.counter_http.proofs.Following.{RunsOverSome}
use Rattle.sakila_office.proofs.serving.Server.turns.Given as goal

abbrev pub invariant-peers : goal.invariant-peers
invariant-peers g l = RunsOverSome g.S.Store (g.O.OfficeWords.meaning l.words) l.fn.chain l.chain
