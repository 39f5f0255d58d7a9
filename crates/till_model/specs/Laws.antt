-- The laws of a till: over one history of its branch, over a chain's stops, and about the book that the till keeps.
use Rattle.std.specs.Prelude.{◌≡◌, ℕ, ◌<◌, Bool, true, List, [], ◌∷◌, slice_get, Some, None}
use Rattle.shop_model.specs.Values.{Text, Command, OfficeAsk, Rules}
use Rattle.shop_model.specs.Calendar.{is_earlier}
use Rattle.shop_model.specs.Machine.{Do, Reply, Input, State, state_after}
use Rattle.shop_model.specs.Answers.{Answer, answer_of}
use Rattle.shop_model.specs.Books.{Books, Counter, shop_of, state_of, view}
use Rattle.shop_model.specs.Sound.{HasNumbers}
use Rattle.shop_model.specs.Histories.{is_decided}
use Rattle.shop_model.specs.Resends.{Asks}
use Rattle.shop_model.specs.Stops.{Life, Lives, history_of, begun}
use Rattle.till_model.specs.Tills.{Entry, Served, served_in, IsBookOf, are_marked, have_own_keys, ComeFrom, ComeInOrder}
use Rattle.till_model.specs.Outcomes.{IsUnused, Became}
use Rattle.till_model.specs.Numbered.{AreNumbered, has_mark}

-- holds in any history of the branch, whatever else the branch gets, if the branch keeps nothing under the till's mark at first
abbrev pub ActsOnceInOrder : Type 0
ActsOnceInOrder =
    (has_mark : Text → Bool) (rules : Rules) (b : ℕ) (entries : List Entry) (inputs : List Input) (s : State)
    → IsUnused has_mark s.shop → IsBookOf has_mark entries (served_in has_mark rules b inputs s)
    → Became has_mark entries (served_in has_mark rules b inputs s) (state_after rules b inputs s).shop

-- ---- over a chain's stops

-- the commands under the mark that the branch served, in the history of all requests that acted, over any number of stops
abbrev pub served_over : (Text → Bool) → Rules → ℕ → List Life → Books → List Served
served_over has_mark rules b lives old = served_in has_mark rules b (view rules b (history_of lives) old) (state_of b old)

abbrev pub ActsOnceOverStops : Type 0
ActsOnceOverStops =
    (has_mark : Text → Bool) (rules : Rules) (look : OfficeAsk → Books → Reply) (b : ℕ) (entries : List Entry) (lives : List Life) (old new : Books)
    → Lives rules look lives old new → HasNumbers old
    → IsUnused has_mark (shop_of b old) → IsBookOf has_mark entries (served_over has_mark rules b lives old)
    → Became has_mark entries (served_over has_mark rules b lives old) (shop_of b new)

-- An answer to a command under the mark, in some life, is the reply in that history.
-- Answers with status 503 don't count: the chain lacked memory, room or its store.
abbrev pub AnswersWereServed : Type 0
AnswersWereServed =
    (has_mark : Text → Bool) (rules : Rules) (look : OfficeAsk → Books → Reply) (b : ℕ) (lives : List Life) (old new : Books)
    → Lives rules look lives old new → HasNumbers old
    → (n i : ℕ) (life : Life) (command : Command) (answer : Answer) → slice_get lives n ≡ Some life
    → Asks rules life.events life.answers (begun rules lives old n) i (Counter b) (Do command)
    → slice_get life.answers i ≡ Some answer → is_decided answer ≡ true → has_mark command.key ≡ true
    → (m : ℕ) × (it : Served) × (slice_get (served_over has_mark rules b lives old) m ≡ Some it) × (it.command ≡ command) × (answer ≡ answer_of it.reply)

-- ---- moments that rise

abbrev pub RisingMoments : List Entry → Type 0
RisingMoments entries =
    (i j : ℕ) (earlier later : Entry) → i < j → slice_get entries i ≡ Some earlier → slice_get entries j ≡ Some later
    → is_earlier earlier.command.moment later.command.moment ≡ true

-- entries whose moments rise come in order, also when commands arrive late or are sent side by side
abbrev pub RisingComeInOrder : Type 0
RisingComeInOrder = (entries : List Entry) (served : List Served) → RisingMoments entries → ComeInOrder entries served

-- ---- the till's book

-- the entries of a book: its commands, the first of them with the replies in order
abbrev pub entries_of : List Command → List Answer → List Entry
entries_of [] replies = []
entries_of (command ∷ commands) [] = record { command = command; reply = None } ∷ entries_of commands []
entries_of (command ∷ commands) (answer ∷ replies) = record { command = command; reply = Some answer } ∷ entries_of commands replies

-- in some life the chain gave that answer to that command of the branch
pub record WasAnswered (rules : Rules) (b : ℕ) (lives : List Life) (old : Books) (command : Command) (answer : Answer) : Type 0 where
  pub at_life : ℕ
  pub at_place : ℕ
  pub life : Life
  pub lived : slice_get lives at_life ≡ Some life
  pub asked : Asks rules life.events life.answers (begun rules lives old at_life) at_place (Counter b) (Do command)
  pub told : slice_get life.answers at_place ≡ Some answer

-- A till ensures this when it enters: keys have its mark, no two entries share a key, and moments rise.
pub record AreOwn (has_mark : Text → Bool) (entries : List Entry) : Type 0 where
  pub marked : are_marked has_mark entries ≡ true
  pub keys : have_own_keys entries ≡ true
  pub moments : RisingMoments entries

-- The entries of numbered commands are own, whatever their replies are.
abbrev pub NumberedAreOwn : Type 0
NumberedAreOwn =
    (mark : Text) (commands : List Command) (replies : List Answer) → AreNumbered mark commands → AreOwn (has_mark mark) (entries_of commands replies)

-- Each command that came under the mark is one of the book's, so nobody else uses the mark.
-- Each recorded reply is a decision that the chain gave to that very command.
pub record IsWitnessed (has_mark : Text → Bool) (rules : Rules) (b : ℕ) (commands : List Command) (replies : List Answer) (lives : List Life) (old : Books) :
    Type 0 where
  pub come : ComeFrom (entries_of commands replies) (served_over has_mark rules b lives old)
  pub answered : (i : ℕ) (command : Command) (answer : Answer) → slice_get commands i ≡ Some command → slice_get replies i ≡ Some answer
      → WasAnswered rules b lives old command answer
  pub decided : (i : ℕ) (answer : Answer) → slice_get replies i ≡ Some answer → is_decided answer ≡ true

-- the till keeps entries of its own, and replies that the chain gave
pub record KeepsBook (has_mark : Text → Bool) (rules : Rules) (b : ℕ) (commands : List Command) (replies : List Answer) (lives : List Life) (old : Books) :
    Type 0 where
  pub own : AreOwn has_mark (entries_of commands replies)
  pub witnessed : IsWitnessed has_mark rules b commands replies lives old

-- Over any number of stops, each entry acts at most once, in the order of entering. An entry that the book shows as accepted acted once, with that reply.
abbrev pub FromThePressToTheDisk : Type 0
FromThePressToTheDisk =
    (has_mark : Text → Bool) (rules : Rules) (look : OfficeAsk → Books → Reply) (b : ℕ)
    (commands : List Command) (replies : List Answer) (lives : List Life) (old new : Books)
    → Lives rules look lives old new → HasNumbers old → IsUnused has_mark (shop_of b old) → KeepsBook has_mark rules b commands replies lives old
    → Became has_mark (entries_of commands replies) (served_over has_mark rules b lives old) (shop_of b new)
