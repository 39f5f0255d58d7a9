-- The exchanges that a chain ran over are the connection's.
use Rattle.std.proofs.Common.{◌≡◌, ℕ, List, [], ◌++◌, refl}
use Rattle.sqlite_trees.specs.declared.store.Store.{Ghosts}
use Rattle.counter_http.specs.Exchanges.{Exchange, HasRun, RunsOver}
use Rattle.counter_http.specs.declared.connection.ServeFault.TheVariants.{Read, Write, Memory}
use Rattle.till_and_server.specs.Streams.{Streams, Serving, Ends, Breaks, Turns, Serves, ServesThese}
use Rattle.till_and_server.specs.Laws.{RunsHaveExchanges}

these : (Ran : List Exchange → Type 0) (read : List ℕ) (es : List Exchange) (rest : List ℕ) → HasRun Ran read es rest → HasRun (λ it. it ≡ es) read es rest
these Ran read es rest x = record { splits = x.splits; ran = refl }

pub named : (Ran : List Exchange → Type 0) (serving : Serving) (most : ℕ) (server : Streams) → Serves serving most Ran server
    → (exchanges : List Exchange) × ServesThese serving most exchanges server × Ran exchanges
named Ran (Ends served) most server x = (
  x.exchanges,
  record {
    read = x.read;
    exchanges = x.exchanges;
    rest = x.rest;
    last = x.last;
    consumed = x.consumed;
    ran = these Ran x.read x.exchanges x.rest x.ran;
    writes = x.writes;
    near = x.near;
    count = x.count;
    ends = x.ends;
  },
  x.ran.ran,
)
named Ran (Breaks (Read replies)) most server x = (
  x.exchanges,
  record {
    read = x.read;
    exchanges = x.exchanges;
    rest = x.rest;
    consumed = x.consumed;
    ran = these Ran x.read x.exchanges x.rest x.ran;
    writes = x.writes;
    near = x.near;
    count = x.count;
    few = x.few;
    waits = x.waits;
    goes = x.goes;
  },
  x.ran.ran,
)
named Ran (Breaks (Write replies)) most server x = (
  x.exchanges ++ x.failed,
  record {
    read = x.read;
    exchanges = x.exchanges;
    failed = x.failed;
    rest = x.rest;
    part = x.part;
    more = x.more;
    consumed = x.consumed;
    ran = these Ran x.read (x.exchanges ++ x.failed) x.rest x.ran;
    writes = x.writes;
    near = x.near;
    unfinished = x.unfinished;
    cut = x.cut;
    count = x.count;
    few = x.few;
    goes = x.goes;
  },
  x.ran.ran,
)
named Ran (Breaks Memory) most server x = ([], (refl, x.1, x.2), x.0)
named Ran (Turns line) most server x = (
  x.exchanges,
  record {
    read = x.read;
    exchanges = x.exchanges;
    last = x.last;
    sent = x.sent;
    consumed = x.consumed;
    ran = record { splits = x.ran.splits; ran = refl };
    writes = x.writes;
    splits = x.splits;
    refused = x.refused;
    alone = x.alone;
    stopped = x.stopped;
    goes = x.goes;
    near = x.near;
    count = x.count;
    kept = x.kept;
  },
  x.ran.ran,
)

pub runs_have : {S : Type 0} (g : Ghosts S) → RunsHaveExchanges g
runs_have {S} g meaning old new serving most server x = named (RunsOver g meaning old new) serving most server x
