-- What `replay` does, and the status that it ends with.
use Rattle.std.specs.Prelude.{◌≡◌, ℕ, List, Option}
use Rattle.std.specs.Io.KnownBytes.{Keeps}
use Rattle.shop_model.specs.Opening.{opening_books}
use Rattle.office_words.specs.Line.{line_of}
use Rattle.chain_requests.specs.Holding.{Holding}
use Rattle.chain_requests.specs.Chains.{Runs}
use Rattle.counter_http.specs.Exchanges.{Exchange, events_of, answers_of}
use Rattle.counter_http.specs.Served.{IsServed, IsFault}
use Rattle.counter_http.specs.declared.connection.End.{End}
use Rattle.counter_http.specs.declared.connection.End.TheVariants.{Closed, Cut, Asked, Limit, Refused, StoreFailed}
use Rattle.counter_http.specs.declared.connection.Served.{Served}
use Rattle.counter_http.specs.declared.connection.ServeFault.{ServeFault}
use Rattle.sakila_office.specs.Commands.{opened_holding}

-- 0 if all that came was answered, 1 if the input broke off or was no message, 3 if the store failed
abbrev pub status_of : End → ℕ
status_of Closed = 0
status_of Asked = 0
status_of Limit = 0
status_of Cut = 1
status_of Refused = 1
status_of StoreFailed = 3

-- the chain with the opening rows, before anything is asked
abbrev pub opening_holding : Holding
opening_holding = opened_holding opening_books

-- the chain with the opening rows answers the messages, one after another; the table of words reads head office's words
abbrev pub RunsFromOpening : List Exchange → Type 0
RunsFromOpening exchanges = (after : Holding) × Runs (events_of line_of exchanges) (answers_of exchanges) opening_holding after

-- An input was replayed: a chain with the opening rows answered at most 1,000 requests. Or reading or writing failed, or there was no memory or room. Something
-- is written on standard error only if there is no chain.
pub data Replays (status : ℕ) (input left output written errors told : Option (List ℕ)) : Type 0 where
  replayed : (served : Served) → IsServed served 1000 RunsFromOpening input left output written → status ≡ status_of served.end → Keeps errors told
      → Replays status input left output written errors told
  broke_off : (fault : ServeFault) → IsFault fault 1000 RunsFromOpening input left output written → status ≡ 3 → Keeps errors told
      → Replays status input left output written errors told
  no_chain : Keeps input left → Keeps output written → status ≡ 3 → Replays status input left output written errors told
