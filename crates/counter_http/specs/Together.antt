-- Several connections together: the turns of each come between the turns of the others.
use Rattle.std.specs.Prelude.{◌≡◌, ℕ, ◌+◌, List, [], ◌∷◌, ◌++◌, map, All, Option, Some}
use Rattle.sqlite_trees.specs.declared.store.Store.{Ghosts}
use Rattle.counter_routes.specs.Words.{Meaning}
use Rattle.chain_requests.specs.Holding.{Chained}
use Rattle.counter_http.specs.Exchanges.{Exchange, RunsOver}
use Rattle.counter_http.specs.Served.{IsServed, fault_replies}
use Rattle.counter_http.specs.Phases.{ConnectionState, opened, IsTurn}
use Rattle.counter_http.specs.declared.connection.End.{End}

-- A connection, as it was at first and as it is now. `exchanges` is what was answered of it so far. The rest is what its reader and its writer held at first,
-- and what they hold now.
pub record Till : Type 0 where
  pub first : ConnectionState
  pub line : ConnectionState
  pub exchanges : List Exchange
  pub input : Option (List ℕ)
  pub left : Option (List ℕ)
  pub output : Option (List ℕ)
  pub written : Option (List ℕ)

-- the connection got the replies to its own messages, in order, whatever the other connections asked in between
abbrev pub IsTill : Till → Type 0
IsTill till = IsTurn till.first till.line (λ es. es ≡ till.exchanges) till.input till.left till.output till.written

-- The whole is an interleaving of the lists: it has their elements, and keeps the order of each list. Without lists the whole is empty. An empty list adds
-- nothing. If one list grows at its end, the whole grows by the same elements at its end.
pub data Mixes : List (List Exchange) → List Exchange → Type 0 where
  nothing : Mixes [] []
  comes : (lists : List (List Exchange)) (whole : List Exchange) → Mixes lists whole → Mixes (lists ++ [] ∷ []) whole
  goes : (front back : List (List Exchange)) (es next whole : List Exchange)
      → Mixes (front ++ es ∷ back) whole → Mixes (front ++ (es ++ next) ∷ back) (whole ++ next)

-- the chain ran over an interleaving of what was answered of each connection
pub record AreServed {S : Type 0} (g : Ghosts S) (meaning : Meaning) (old new : Chained S) (tills : List Till) : Type 0 where
  pub whole : List Exchange
  pub mixed : Mixes (map (λ till. till.exchanges) tills) whole
  pub ran : RunsOver g meaning old new whole
  pub each : All IsTill tills

-- a new connection, which may have at most `most` requests answered
abbrev pub till_opened : ℕ → Option (List ℕ) → Option (List ℕ) → Till
till_opened most input output = record {
  first = opened most;
  line = opened most;
  exchanges = [];
  input = input;
  left = input;
  output = output;
  written = output;
}

-- the connection after one more turn
abbrev pub till_then : Till → List Exchange → ConnectionState → Option (List ℕ) → Option (List ℕ) → Till
till_then till es line left written = record {
  first = till.first;
  line = line;
  exchanges = till.exchanges ++ es;
  input = till.input;
  left = left;
  output = till.output;
  written = written;
}

-- However many connections come, and in whatever order they have their turns, the chain runs over an interleaving of what is answered of each. Each gets the
-- replies to its own messages, in order. This holds before the first connection, when one more comes, and after one more turn of any connection.
pub record AreServedTogether {S : Type 0} (g : Ghosts S) : Type 0 where
  pub none : (meaning : Meaning) (chain : Chained S) → AreServed g meaning chain chain []
  pub comes : (meaning : Meaning) (old new : Chained S) (tills : List Till) (most : ℕ) (input output : Option (List ℕ))
      → AreServed g meaning old new tills → AreServed g meaning old new (tills ++ till_opened most input output ∷ [])
  pub goes : (meaning : Meaning) (old mid new : Chained S) (front : List Till) (till : Till) (back : List Till) (line : ConnectionState) (left written : Option (List ℕ))
      → AreServed g meaning old mid (front ++ till ∷ back)
      → (turn : IsTurn till.line line (RunsOver g meaning mid new) till.left left till.written written)
      → AreServed g meaning old new (front ++ till_then till turn.exchanges line left written ∷ back)

-- A connection that ended by turns, with nothing left to write, was served as `serve` promises for a connection that is served alone.
abbrev pub TurnsServe : {S : Type 0} → Ghosts S → Type 0
TurnsServe {S} g =
    (meaning : Meaning) (old new : Chained S) (most : ℕ) (line : ConnectionState) (end : End) (input left output written : Option (List ℕ))
    → IsTurn (opened most) line (RunsOver g meaning old new) input left output written → line.unsent ≡ [] → line.ending ≡ Some end
    → IsServed (record { replies = line.replies + fault_replies end; end = end }) most (RunsOver g meaning old new) input left output written
