use Rattle.counter_http.proofs.Following.{RunsOverSome}
use Rattle.sakila_office.proofs.serving.Server.serve.Given as goal

abbrev pub invariant-rounds : goal.invariant-rounds
invariant-rounds g l = RunsOverSome g.S.Store (g.O.OfficeWords.meaning l.words) l.fn.chain l.chain
