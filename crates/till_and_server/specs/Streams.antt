-- A connection between a till and a server: the streams of both sides, and the outcome of the server's side.
use Rattle.std.specs.Prelude.{◌≡◌, ◌++◌, ℕ, List, Option, Some}
use Rattle.std.specs.List.{AllByRecursion}
use Rattle.std.specs.Io.KnownBytes.{Appends, Consumes}
use Rattle.shop_model.specs.Answers.{Answer}
use Rattle.counter_http.specs.Exchanges.{Exchange, answers_of}
use Rattle.counter_http.specs.Served.{IsServed, IsFault}
use Rattle.counter_http.specs.Phases.{ConnectionState, opened, IsTurn}
use Rattle.counter_http.specs.declared.connection.Served.{Served}
use Rattle.counter_http.specs.declared.connection.ServeFault.{ServeFault}
use Rattle.till_client.specs.Replies.{answer_bytes}
use Rattle.till_client.specs.Laws.{IsShort}

-- One side of a connection: the bytes that its reader has to give (`input`, then `left`), and the bytes that its writer holds (`output`, then `written`).
pub record Streams : Type 0 where
  pub input : Option (List ℕ)
  pub left : Option (List ℕ)
  pub output : Option (List ℕ)
  pub written : Option (List ℕ)

-- The other side's reader gets the bytes that this side wrote, or a prefix of them if the connection broke, and nothing else.
pub record Carries (output written input : Option (List ℕ)) : Type 0 where
  pub held : List ℕ
  pub sent : List ℕ
  pub came : List ℕ
  pub lost : List ℕ
  pub begins : output ≡ Some held
  pub ends : written ≡ Some (held ++ sent)
  pub parts : sent ≡ came ++ lost
  pub comes : input ≡ Some came

-- each side reads what the other wrote to it
pub record AreJoined (till server : Streams) : Type 0 where
  pub there : Carries till.output till.written server.input
  pub back : Carries server.output server.written till.input

-- the request was written, or a prefix of it if the writer failed
pub record IsWritten (request : List ℕ) (output written : Option (List ℕ)) : Type 0 where
  pub front : List ℕ
  pub rest : List ℕ
  pub parts : request ≡ front ++ rest
  pub writes : Appends output written front

-- the outcome of the server's side: the connection was served to an end, serving failed, or the connection had some turns
pub data Serving : Type 0 where
  Ends : Served → Serving
  Breaks : ServeFault → Serving
  Turns : ConnectionState → Serving

-- The contract of `serve` for a connection that ended or failed, or of `Connection::advance` for the turns of a new connection. `Ran` holds for the exchanges.
abbrev pub Serves : Serving → ℕ → (List Exchange → Type 0) → Streams → Type 0
Serves (Ends served) most Ran server = IsServed served most Ran server.input server.left server.output server.written
Serves (Breaks fault) most Ran server = IsFault fault most Ran server.input server.left server.output server.written
Serves (Turns line) most Ran server = IsTurn (opened most) line Ran server.input server.left server.output server.written

-- these are the connection's exchanges
abbrev pub ServesThese : Serving → ℕ → List Exchange → Streams → Type 0
ServesThese serving most exchanges server = Serves serving most (λ es. es ≡ exchanges) server

-- Over a connection with these exchanges, a till wrote that request, or a prefix of it, and read the whole answer.
-- The numbers in the answers have at most 64 bits.
pub record WasExchanged (request : List ℕ) (answer : Answer) (exchanges : List Exchange) : Type 0 where
  pub till : Streams
  pub server : Streams
  pub serving : Serving
  pub most : ℕ
  pub writes : IsWritten request till.output till.written
  pub joined : AreJoined till server
  pub serves : ServesThese serving most exchanges server
  pub short : AllByRecursion IsShort (answers_of exchanges)
  pub fits : IsShort answer
  pub reads : Consumes till.input till.left (answer_bytes answer)
