use Rattle.counter_http.proofs.Following.{RunsOverSome}
use Rattle.sakila_office.proofs.serving.Server.arrivals.Given as goal

abbrev pub invariant-arrivals : goal.invariant-arrivals
invariant-arrivals g l = RunsOverSome g.S.Store (g.O.OfficeWords.meaning l.words) l.fn.chain l.chain
