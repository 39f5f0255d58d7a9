use Rattle.counter_http.proofs.Following.{some_start, some_follow}
use Rattle.sakila_office.proofs.serving.Server.serve.Goals as goal

pub rounds-init : goal.rounds-init
rounds-init g c = some_start

pub returns-then-not-arrivals-clause-ran : goal.returns-then-not-arrivals-clause-ran
returns-then-not-arrivals-clause-ran g c = some_follow c.rounds.invariant c.arrivals.ensures

pub rounds-preserved : goal.rounds-preserved
rounds-preserved g c = some_follow (some_follow c.rounds.invariant c.arrivals.ensures) c.turns.ensures
