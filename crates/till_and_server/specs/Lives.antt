-- The place of a connection's exchanges in a life of a served chain, and what was recorded of them.
use Rattle.std.specs.Prelude.{◌≡◌, ◌≢◌, ◌++◌, [], ℕ, true, List, length, slice_get, Some}
use Rattle.std.specs.List.{AllByRecursion}
use Rattle.std.specs.Io.KnownBytes.{Appends, Consumes}
use Rattle.http_messages.specs.Input.{HasMessage}
use Rattle.shop_model.specs.Values.{Text, Command, Rules}
use Rattle.shop_model.specs.Machine.{Do}
use Rattle.shop_model.specs.Answers.{Answer}
use Rattle.shop_model.specs.Books.{Books, Counter, caller_of}
use Rattle.shop_model.specs.Resends.{Asks, books_at}
use Rattle.shop_model.specs.Stops.{begun}
use Rattle.counter_http.specs.Events.{known_token}
use Rattle.counter_http.specs.Exchanges.{Exchange, events_of, answers_of}
use Rattle.till_client.specs.Sealing.{SaysCommand}
use Rattle.till_client.specs.Replies.{answer_bytes}
use Rattle.till_client.specs.Laws.{IsShort}
use Rattle.till_book.specs.Journal.{Journal, waiting, with_entry, with_reply, with_settled}
use Rattle.till_work.specs.Settling.{OfEntry}
use Rattle.till_model.specs.Numbered.{has_mark}
use Rattle.till_and_server.specs.ServedLives.{ServedLife, lives_of}
use Rattle.till_and_server.specs.Streams.{Streams, AreJoined, Serving, ServesThese, WasExchanged}

-- the books before the exchange at that place of that life
abbrev pub books_then : Rules → List ServedLife → Books → ℕ → ServedLife → ℕ → Books
books_then rules lives old n life place =
    books_at rules (events_of life.meaning life.exchanges) (answers_of life.exchanges) (begun rules (lives_of lives) old n) place

-- A connection's exchanges are in a life, in a row. Exchanges of other connections are before them (`front`) and after them (`back`).
pub record StandIn (lives : List ServedLife) (exchanges : List Exchange) : Type 0 where
  pub at_life : ℕ
  pub life : ServedLife
  pub lived : slice_get lives at_life ≡ Some life
  pub front : List Exchange
  pub back : List Exchange
  pub parts : life.exchanges ≡ front ++ (exchanges ++ back)

-- a caller with that token is that branch
abbrev pub IsTokenOf : ℕ → Text → Books → Type 0
IsTokenOf b token books = caller_of (known_token (Some token)) books.catalogue ≡ Counter b

-- A till recorded that answer from an exchange with a chain in one of the lives. The token was its branch's then.
-- The answer isn't a 503, with which the chain reports that it lacked memory, room or its store.
pub record WasRecorded (rules : Rules) (b : ℕ) (lives : List ServedLife) (old : Books) (request : List ℕ) (answer : Answer) : Type 0 where
  pub exchanges : List Exchange
  pub exchanged : WasExchanged request answer exchanges
  pub stand : StandIn lives exchanges
  pub own : (token : Text) (command : Command) → SaysCommand request token command
      → IsTokenOf b token (books_then rules lives old stand.at_life stand.life (length stand.front))
  pub decided : answer.status ≢ 503

-- each reply of the book was recorded from an exchange of the entry at the same place
abbrev pub WereRecorded : Rules → ℕ → List ServedLife → Books → Journal → Type 0
WereRecorded rules b lives old journal =
    (i : ℕ) (answer : Answer) → slice_get journal.replies i ≡ Some answer
    → (request : List ℕ) × (slice_get journal.entries i ≡ Some request) × WasRecorded rules b lives old request answer

-- The other end of a till's delivery is a connection of a chain in one of the lives. The request's token was the branch's then.
pub record IsAnsweredBy (rules : Rules) (b : ℕ) (lives : List ServedLife) (old : Books) (request : List ℕ) (answer : Answer) (till : Streams) : Type 0 where
  pub server : Streams
  pub serving : Serving
  pub most : ℕ
  pub exchanges : List Exchange
  pub joined : AreJoined till server
  pub serves : ServesThese serving most exchanges server
  pub short : AllByRecursion IsShort (answers_of exchanges)
  pub fits : IsShort answer
  pub stand : StandIn lives exchanges
  pub own : (token : Text) (command : Command) → SaysCommand request token command
      → IsTokenOf b token (books_then rules lives old stand.at_life stand.life (length stand.front))

-- The replies of a book stay recorded from exchanges. An empty book has no replies (`none`), and a new entry changes none (`enters`).
-- A delivery keeps this (`delivers`): the till wrote the oldest entry without a reply, read a whole reply other than 503, and recorded the reply.
pub record StaysRecorded (rules : Rules) (b : ℕ) (lives : List ServedLife) (old : Books) : Type 0 where
  pub none : WereRecorded rules b lives old (record { entries = []; replies = []; settled = [] })
  pub enters : (journal : Journal) (request : List ℕ) → WereRecorded rules b lives old journal → WereRecorded rules b lives old (with_entry request journal)
  pub delivers : (journal : Journal) (request : List ℕ) (answer : Answer) (till : Streams)
      → WereRecorded rules b lives old journal → waiting journal ≡ Some request
      → Appends till.output till.written request → Consumes till.input till.left (answer_bytes answer) → answer.status ≢ 503
      → IsAnsweredBy rules b lives old request answer till → WereRecorded rules b lives old (with_reply answer journal)

-- each settlement of the book was recorded from an exchange of its entry
abbrev pub WereNoted : Rules → ℕ → List ServedLife → Books → Journal → Type 0
WereNoted rules b lives old journal =
    AllByRecursion (λ (it : ℕ × Answer). OfEntry it.0 journal (λ request. WasRecorded rules b lives old request it.1)) journal.settled

-- The settlements of a book stay recorded from exchanges. An empty book has none (`none`); an entry or a reply more changes none (`enters`, `delivers`).
-- Settling keeps this (`settles`): the till wrote the whole entry once more, read a whole reply other than 503, and recorded the reply as the settlement.
-- Replies stay recorded, whatever is settled (`replies`).
pub record StaysNoted (rules : Rules) (b : ℕ) (lives : List ServedLife) (old : Books) : Type 0 where
  pub none : WereNoted rules b lives old (record { entries = []; replies = []; settled = [] })
  pub enters : (journal : Journal) (request : List ℕ) → WereNoted rules b lives old journal → WereNoted rules b lives old (with_entry request journal)
  pub delivers : (journal : Journal) (answer : Answer) → WereNoted rules b lives old journal → WereNoted rules b lives old (with_reply answer journal)
  pub settles : (journal : Journal) (n : ℕ) (answer : Answer) (till : Streams) → WereNoted rules b lives old journal
      → OfEntry n journal (λ request. Appends till.output till.written request × IsAnsweredBy rules b lives old request answer till)
      → Consumes till.input till.left (answer_bytes answer) → answer.status ≢ 503 → WereNoted rules b lives old (with_settled n answer journal)
  pub replies : (journal : Journal) (n : ℕ) (answer : Answer) → WereRecorded rules b lives old journal
      → WereRecorded rules b lives old (with_settled n answer journal)

-- Nobody else uses the mark. Each message that came with the branch's token, and said a command under the mark,
-- has the bytes of one of the entries.
abbrev pub ComeFromEntries : Text → Rules → ℕ → List (List ℕ) → List ServedLife → Books → Type 0
ComeFromEntries mark rules b entries lives old =
    (n i : ℕ) (life : ServedLife) (exchange : Exchange) (command : Command) → slice_get lives n ≡ Some life → slice_get life.exchanges i ≡ Some exchange
    → Asks rules (events_of life.meaning life.exchanges) (answers_of life.exchanges) (begun rules (lives_of lives) old n) i (Counter b) (Do command)
    → has_mark mark command.key ≡ true
    → (k : ℕ) × (request : List ℕ) × (slice_get entries k ≡ Some request) × HasMessage request exchange.message []
