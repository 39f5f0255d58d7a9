-- Laws of a till and a server at the two ends of a connection.
use Rattle.std.specs.Prelude.{◌≡◌, ◌⊎◌, ⊤, ℕ, Bool, false, List, [], ◌∷◌, ◌++◌, length, map, slice_get, Option, Some}
use Rattle.sqlite_trees.specs.declared.store.Store.{Ghosts}
use Rattle.sqlite.specs.Held.{Held, state}
use Rattle.sqlite.specs.State.{State, HasCleanDisk}
use Rattle.http_messages.specs.Message.{Message}
use Rattle.shop_model.specs.Values.{Text, Command, OfficeAsk, Rules}
use Rattle.shop_model.specs.Machine.{Reply}
use Rattle.shop_model.specs.Answers.{Answer}
use Rattle.shop_model.specs.Books.{Books, shop_of, last_books}
use Rattle.shop_model.specs.Sound.{HasNumbers}
use Rattle.shop_model.specs.Office.{office_look}
use Rattle.shop_model.specs.Stops.{Lives, in_flight}
use Rattle.counter_routes.specs.Words.{Meaning}
use Rattle.branch_work.specs.Rules.{rules_of}
use Rattle.chain_requests.specs.Holding.{Chained, Holding}
use Rattle.chain_requests.specs.Chains.{IsAt, Takes, Runs}
use Rattle.counter_http.specs.Events.{event_of}
use Rattle.counter_http.specs.Exchanges.{Exchange, events_of, answers_of, RunsOver}
use Rattle.counter_http.specs.Together.{Till, Mixes}
use Rattle.till_client.specs.Sealing.{SaysCommand}
use Rattle.till_model.specs.Numbered.{has_mark}
use Rattle.till_model.specs.Outcomes.{IsUnused, Became}
use Rattle.till_model.specs.Laws.{entries_of, served_over, WasAnswered, IsWitnessed}
use Rattle.till_model.specs.Settled.{BecameSettled}
use Rattle.till_book.specs.Journal.{Journal}
use Rattle.till_book.specs.Read.{in_order}
use Rattle.till_book.specs.Steps.{Rests}
use Rattle.till_work.specs.Entering.{IsTillsBook}
use Rattle.till_work.specs.Exchanged.{IsExchanged}
use Rattle.till_work.specs.Desk.{Extends}
use Rattle.till_work.specs.Stops.{IsLater}
use Rattle.till_and_server.specs.Streams.{Streams, Carries, IsWritten, Serving, Serves, ServesThese, WasExchanged}
use Rattle.till_and_server.specs.ServedLives.{ServedLife, life_of, lives_of}
use Rattle.till_and_server.specs.Lives.{books_then, StandIn, IsTokenOf, IsAnsweredBy, WereRecorded, StaysRecorded, WereNoted, StaysNoted, ComeFromEntries}

-- ---- one connection

-- If a connection's contract says that the chain ran over exchanges, the chain ran over exchanges that the connection served.
abbrev pub RunsHaveExchanges : {S : Type 0} → Ghosts S → Type 0
RunsHaveExchanges {S} g =
    (meaning : Meaning) (old new : Chained S) (serving : Serving) (most : ℕ) (server : Streams) → Serves serving most (RunsOver g meaning old new) server
    → (exchanges : List Exchange) × ServesThese serving most exchanges server × RunsOver g meaning old new exchanges

-- the one exchange of that message and that answer
abbrev pub one_exchange : Message → Answer → List Exchange
one_exchange message answer = record { message = message; answer = answer } ∷ []

-- The till wrote the bytes of one message, or a prefix of them. The server's reader got what the till wrote, or a prefix of it.
-- Then the server served no message, or that one message. If it served the message, all bytes of the message came.
abbrev pub OneMessageIsRead : Type 0
OneMessageIsRead =
    (request : List ℕ) (token : Text) (command : Command) (says : SaysCommand request token command)
    (till server : Streams) (serving : Serving) (most : ℕ) (exchanges : List Exchange)
    → IsWritten request till.output till.written → Carries till.output till.written server.input → ServesThese serving most exchanges server
    → (exchanges ≡ []) ⊎ ((answer : Answer) × (exchanges ≡ one_exchange says.message answer) × (server.input ≡ Some request))

-- If the till read a whole reply, the server served that message and no other, and all bytes of the message came.
-- The server's answer is the one that the till read, and no bytes follow it.
abbrev pub OneAnswerIsRead : Type 0
OneAnswerIsRead =
    (request : List ℕ) (token : Text) (command : Command) (says : SaysCommand request token command)
    (answer : Answer) (exchanges : List Exchange) (it : WasExchanged request answer exchanges)
    → (exchanges ≡ one_exchange says.message answer) × (it.server.input ≡ Some request) × (it.till.left ≡ Some [])

-- the chain ran over that message's event alone, with that answer
abbrev pub RunsOne : {S : Type 0} → Ghosts S → Meaning → Chained S → Chained S → Message → Answer → Type 0
RunsOne g meaning old new message answer = Takes g old new (Runs (event_of meaning message ∷ []) (answer ∷ []))

-- After the exchanges of such a connection, the chain is as it was, or it ran over that one event (`wherever`).
-- If the till read a whole reply, the chain ran over that event with that answer (`answered`).
pub record OneEventIsRun {S : Type 0} (g : Ghosts S) : Type 0 where
  pub wherever :
      (meaning : Meaning) (old new : Chained S) (request : List ℕ) (token : Text)
      (command : Command) (says : SaysCommand request token command) (till server : Streams)
      (serving : Serving) (most : ℕ) (exchanges : List Exchange) → IsWritten request till.output till.written → Carries till.output till.written server.input
      → ServesThese serving most exchanges server → RunsOver g meaning old new exchanges
      → (new ≡ old) ⊎ ((answer : Answer) × RunsOne g meaning old new says.message answer × (server.input ≡ Some request))
  pub answered :
      (meaning : Meaning) (old new : Chained S) (request : List ℕ) (token : Text)
      (command : Command) (says : SaysCommand request token command) (answer : Answer)
      (exchanges : List Exchange) → WasExchanged request answer exchanges → RunsOver g meaning old new exchanges → RunsOne g meaning old new says.message answer

-- ---- a chain's lives

-- The exchanges that a chain ran over from its opening on are a life. The request at which the store failed may have acted or not.
abbrev pub RunsAreLives : Type 0
RunsAreLives =
    (life : ServedLife) (old new : Holding) → Runs (events_of life.meaning life.exchanges) (answers_of life.exchanges) old new
    → Lives (rules_of old.limits) office_look (lives_of (life ∷ [])) old.books (last_books (rules_of old.limits) (in_flight (life_of life)) new.books)

-- A chain ran over `exchanges`, was stopped, and ran over `more`. Its books after that are the books of two lives.
-- `acted` says whether the request at which the store failed before the stop had acted.
pub record IsServedOn {S : Type 0} (g : Ghosts S) (rules : Rules) (meaning later : Meaning) (exchanges more : List Exchange) (old : Books) (chain : Chained S) :
    Type 0 where
  pub acted : Bool
  pub new : Books
  pub besides : Books
  pub at : IsAt g chain new besides
  pub lives :
      Lives rules office_look
      (lives_of (record { meaning = meaning; exchanges = exchanges; acted = acted } ∷ record { meaning = later; exchanges = more; acted = false } ∷ [])) old new

-- The law `over_a_stop`, for exchanges instead of requests.
-- A chain ran over some exchanges, was stopped and opened again as `restart` says, and ran over more.
abbrev pub ServedOverAStop : {S : Type 0} → Ghosts S → Type 0
ServedOverAStop {S} g =
    (start mid again last : Chained S) (meaning later : Meaning) (exchanges more : List Exchange)
    → start.is_failed ≡ false → RunsOver g meaning start mid exchanges
    → again.limits ≡ start.limits → again.is_failed ≡ false → (HasCleanDisk (state g again.conn) → HasCleanDisk (state g mid.conn))
    → (HasCleanDisk (state g again.conn) → (books besides : Books) → IsAt g mid books besides → ∥ IsAt g again books books ⊎ IsAt g again besides besides ∥₁)
    → RunsOver g later again last more → HasCleanDisk (state g last.conn) → (books besides : Books) → IsAt g start books besides
    → ∥ IsServedOn g (rules_of start.limits) meaning later exchanges more books last ∥₁

-- Connections are served together. If a connection has one exchange, that exchange is among all exchanges, with others before and after.
abbrev pub OneAmongMany : Type 0
OneAmongMany =
    (tills : List Till) (whole : List Exchange) → Mixes (map (λ till. till.exchanges) tills) whole
    → (j : ℕ) (till : Till) (exchange : Exchange) → slice_get tills j ≡ Some till
    → till.exchanges ≡ exchange ∷ [] → (front : List Exchange) × (back : List Exchange) × (whole ≡ front ++ exchange ∷ back)

-- Suppose that a message and its answer are in a life of a chain, and that the message's token was the branch's then.
-- Then the chain gave that answer to the branch's command.
abbrev pub ExchangesAreAnswered : Type 0
ExchangesAreAnswered =
    (rules : Rules) (b : ℕ) (lives : List ServedLife) (old : Books) (request : List ℕ)
    (token : Text) (command : Command) (says : SaysCommand request token command) (answer : Answer)
    (stand : StandIn lives (one_exchange says.message answer)) → IsTokenOf b token (books_then rules lives old stand.at_life stand.life (length stand.front))
    → WasAnswered rules b (lives_of lives) old command answer

-- The replies of a book stay recorded from exchanges with the chain, as the till enters and delivers.
abbrev pub DeliveriesAreRecorded : Type 0
DeliveriesAreRecorded = (rules : Rules) (b : ℕ) (lives : List ServedLife) (old : Books) → StaysRecorded rules b lives old

-- If a till's replies were recorded from exchanges with the chain, and nobody else uses the mark, the book has its witnesses.
abbrev pub ExchangesAreWitnesses : Type 0
ExchangesAreWitnesses =
    (mark : Text) (rules : Rules) (b : ℕ) (journal : Journal) (commands : List Command) (lives : List ServedLife) (old : Books)
    → IsTillsBook mark journal commands
    → ComeFromEntries mark rules b journal.entries lives old → WereRecorded rules b lives old journal
    → IsWitnessed (has_mark mark) rules b commands journal.replies (lives_of lives) old

-- Connections may break anywhere, any others are served beside them, and the chain may stop any number of times.
-- From the key press to the disk, each entry of a till acts at most once, in the order of entering.
-- An entry that the book shows as accepted acted once, with that reply.
abbrev pub TillAndServer : Type 0
TillAndServer =
    (mark : Text) (rules : Rules) (look : OfficeAsk → Books → Reply) (b : ℕ)
    (journal : Journal) (commands : List Command) (lives : List ServedLife) (old new : Books)
    → Lives rules look (lives_of lives) old new → HasNumbers old → IsUnused (has_mark mark) (shop_of b old) → IsTillsBook mark journal commands
    → ComeFromEntries mark rules b journal.entries lives old → WereRecorded rules b lives old journal
    → Became (has_mark mark) (entries_of commands journal.replies) (served_over (has_mark mark) rules b (lives_of lives) old) (shop_of b new)

-- The settlements of a book stay recorded from exchanges with the chain, as the till enters, delivers and settles.
abbrev pub SettlementsAreNoted : Type 0
SettlementsAreNoted = (rules : Rules) (b : ℕ) (lives : List ServedLife) (old : Books) → StaysNoted rules b lives old

-- The same law for a till's book with its settlements, in the order in which they are read.
-- An entry that is settled with 200 has acted once, with exactly that reply.
-- An entry that is settled with `moment_back` has not acted, whatever the branch got after that.
abbrev pub SettledTillAndServer : Type 0
SettledTillAndServer =
    (mark : Text) (rules : Rules) (look : OfficeAsk → Books → Reply) (b : ℕ)
    (journal : Journal) (commands : List Command) (lives : List ServedLife) (old new : Books)
    → Lives rules look (lives_of lives) old new → HasNumbers old → IsUnused (has_mark mark) (shop_of b old) → IsTillsBook mark journal commands
    → ComeFromEntries mark rules b journal.entries lives old → WereRecorded rules b lives old journal → WereNoted rules b lives old journal
    → BecameSettled (has_mark mark) commands journal.replies (in_order journal.settled)
    (served_over (has_mark mark) rules b (lives_of lives) old) (shop_of b new)

-- ---- what the till keeps

-- the chain, in some life, answers each exchange over streams that a till's server opened
abbrev pub AreAnswered : {R W : Type 0} → (R → W → Type 0) → (R → Option (List ℕ)) → (W → Option (List ℕ)) → Rules → ℕ → List ServedLife → Books → Type 0
AreAnswered opens remaining contents rules b lives old =
    (request : List ℕ) (answer : Answer) (it : IsExchanged opens remaining contents request answer)
    → IsAnsweredBy rules b lives old request answer
    (record { input = remaining it.reader; left = remaining it.read; output = contents it.writer; written = contents it.written })

-- A book that was extended by such exchanges stays recorded and noted. `Extends` is what each word of the till keeps.
abbrev pub ExtendedBooksStayRecorded : {R W : Type 0} → (R → W → Type 0) → (R → Option (List ℕ)) → (W → Option (List ℕ)) → Type 0
ExtendedBooksStayRecorded opens remaining contents =
    (rules : Rules) (b : ℕ) (lives : List ServedLife) (old : Books) (before after : Journal) → AreAnswered opens remaining contents rules b lives old
    → Extends (IsExchanged opens remaining contents) before after
    → (WereRecorded rules b lives old before → WereRecorded rules b lives old after) × (WereNoted rules b lives old before → WereNoted rules b lives old after)

-- So it is from an empty book on, over any words: what the book says of its entries is what they did in the chain's books.
abbrev pub WordsReachTheDisk : {R W : Type 0} → (R → W → Type 0) → (R → Option (List ℕ)) → (W → Option (List ℕ)) → Type 0
WordsReachTheDisk opens remaining contents =
    (mark : Text) (rules : Rules) (look : OfficeAsk → Books → Reply) (b : ℕ)
    (journal : Journal) (commands : List Command) (lives : List ServedLife) (old new : Books)
    → Lives rules look (lives_of lives) old new → HasNumbers old → IsUnused (has_mark mark) (shop_of b old) → IsTillsBook mark journal commands
    → ComeFromEntries mark rules b journal.entries lives old → AreAnswered opens remaining contents rules b lives old
    → Extends (IsExchanged opens remaining contents) (record { entries = []; replies = []; settled = [] }) journal
    → BecameSettled (has_mark mark) commands journal.replies (in_order journal.settled)
    (served_over (has_mark mark) rules b (lives_of lives) old) (shop_of b new)

-- ---- a till's life

-- From each till's book under the mark with which the one state rests, the other rests with a later one. What was in the book is a front part of that. So it is
-- over each word, each stop in a word, and each opening of a book that was closed.
abbrev pub LeadsOn : (List ℕ → Answer → Type 0) → Text → State → State → Type 0
LeadsOn Exchanged mark old new =
    (journal : Journal) (commands : List Command) → Rests old journal → IsTillsBook mark journal commands
    → ∥ ((next : Journal) × (known : List Command) × Rests new next × IsTillsBook mark next known × IsLater Exchanged journal commands next known) ∥₁

-- the states of a till's book, each after the one before
abbrev pub LivesOn : {S : Type 0} → Ghosts S → (List ℕ → Answer → Type 0) → Text → Held S → List (Held S) → Type 0
LivesOn g Exchanged mark old [] = ⊤
LivesOn g Exchanged mark old (new ∷ books) = LeadsOn Exchanged mark (state g old) (state g new) × LivesOn g Exchanged mark new books

-- A book was made, and over words, stops and openings in any order it came to a last state. With some till's book that rests. What that says of its entries is
-- what they did in the chain's books.
abbrev pub TillOverAStop : {S R W : Type 0} → Ghosts S → (R → W → Type 0) → (R → Option (List ℕ)) → (W → Option (List ℕ)) → Type 0
TillOverAStop {S} g opens remaining contents =
    (mark : Text) (made : Held S) (books : List (Held S)) (last : Held S) → Rests (state g made) (record { entries = []; replies = []; settled = [] })
    → LivesOn g (IsExchanged opens remaining contents) mark made (books ++ last ∷ [])
    → ∥ ((journal : Journal) × (commands : List Command) × Rests (state g last) journal × IsTillsBook mark journal commands
    × ((rules : Rules) (look : OfficeAsk → Books → Reply) (b : ℕ) (lives : List ServedLife) (old new : Books)
    → Lives rules look (lives_of lives) old new → HasNumbers old → IsUnused (has_mark mark) (shop_of b old)
    → ComeFromEntries mark rules b journal.entries lives old → AreAnswered opens remaining contents rules b lives old
    → WereRecorded rules b lives old journal × WereNoted rules b lives old journal
    × BecameSettled (has_mark mark) commands journal.replies (in_order journal.settled)
    (served_over (has_mark mark) rules b (lives_of lives) old) (shop_of b new))) ∥₁
