-- The exchanges that were served before a stop and after it.
use Rattle.std.proofs.Common.{refl}
use Rattle.std.proofs.Math.Logic.{∥∥₁_map}
use Rattle.sqlite_trees.specs.declared.store.Store.{Ghosts}
use Rattle.chain_engine.proofs.Resuming.{resumes}
use Rattle.counter_http.specs.Exchanges.{events_of, answers_of}
use Rattle.till_and_server.specs.Laws.{ServedOverAStop}

pub served_on : {S : Type 0} (g : Ghosts S) → ServedOverAStop g
served_on {S} g start mid again last meaning later exchanges more fine before same live honest either behind clean books besides at =
    ∥∥₁_map
    (resumes g start.limits start mid again last (events_of meaning exchanges) (events_of later more)
    (answers_of exchanges) (answers_of more) refl fine same live before.takes honest either
    behind.takes clean books besides at)
    (λ it. record { acted = it.acted; new = it.new; besides = it.besides; at = it.at; lives = it.lives })
