use Rattle.counter_http.proofs.Following.{some_start, some_follow}
use Rattle.sakila_office.proofs.serving.Server.arrivals.Goals as goal
use Rattle.sakila_office.proofs.serving.Server.arrivals.Goals.{then-self, in-Ok-true-2}

pub arrivals-init : goal.arrivals-init
arrivals-init g c = some_start

pub arrivals-preserved : goal.arrivals-preserved
arrivals-preserved g c =
    elim c.if-self.branch [
      | then-self w ↦ rw w.chain-is c.arrivals.invariant
      | in-Ok-true-2 w ↦ rw w.chain-is (some_follow c.arrivals.invariant w.turns.ensures)
    ]
