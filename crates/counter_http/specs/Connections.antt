-- Connections of one chain, one after another.
use Rattle.std.specs.Prelude.{◌++◌, List}
use Rattle.counter_routes.specs.Words.{Meaning}
use Rattle.chain_requests.specs.Holding.{Holding}
use Rattle.chain_requests.specs.Chains.{Runs}
use Rattle.counter_http.specs.Exchanges.{Exchange, events_of, answers_of}

-- if a chain ran over one connection and then over another, it ran over both as one history
abbrev pub ConnectionsAreOneHistory : Type 0
ConnectionsAreOneHistory =
    (meaning : Meaning) (old mid new : Holding) (first more : List Exchange) → Runs (events_of meaning first) (answers_of first) old mid
    → Runs (events_of meaning more) (answers_of more) mid new → Runs (events_of meaning (first ++ more)) (answers_of (first ++ more)) old new
