-- A chain that is stopped and opened again, as often as may be: which requests acted, and what holds of their history.
use Rattle.std.specs.Prelude.{◌≡◌, ℕ, Bool, true, false, if◌then◌else◌, List, [], ◌∷◌, ◌++◌, map, filter, take, slice_get, Option, Some, None}
use Rattle.std.specs.Option.{option_to_list}
use Rattle.std.specs.Str.{bytes_eq}
use Rattle.shop_model.specs.Values.{Text, OfficeAsk, Rules}
use Rattle.shop_model.specs.Shop.{Kept, OfficeKept}
use Rattle.shop_model.specs.OfficeActs.{same_office}
use Rattle.shop_model.specs.Acts.{same_command}
use Rattle.shop_model.specs.Machine.{Request, Do, Office, Reply, Done}
use Rattle.shop_model.specs.Answers.{Answer, answer_of}
use Rattle.shop_model.specs.Books.{Books, Event, Caller, Counter, HeadOffice, shop_of, reply_in, after, run, last_books}
use Rattle.shop_model.specs.Sound.{HasNumbers, IsSound}
use Rattle.shop_model.specs.Histories.{IsRun, is_decided, is_store_failure, counted_in}
use Rattle.shop_model.specs.Repeats.{marked_ones}
use Rattle.shop_model.specs.Resends.{Asks, is_command}
use Rattle.shop_model.specs.Laws.{IsAlone, InOnePlace, IsWithoutRepeats}

-- ---- one life of a chain

-- the event at which the store failed first
abbrev pub failing : List Event → List Answer → Option Event
failing (event ∷ events) (answer ∷ answers) = if is_store_failure answer then Some event else failing events answers
failing events answers = None

-- The life of a chain, from its opening until it was closed or stopped: what was asked and how it was answered. `acted` says whether the request at which the
-- store failed had acted all the same.
pub record Life : Type 0 where
  pub events : List Event
  pub answers : List Answer
  pub acted : Bool

-- that request, where it acted
abbrev pub in_flight : Life → List Event
in_flight life = if life.acted then option_to_list (failing life.events life.answers) else []

-- the requests that acted: all of the counted history, and at most one more
abbrev pub acted_in : Life → List Event
acted_in life = counted_in life.events life.answers ++ in_flight life

-- of each, whether it was answered
abbrev pub answered_in : Life → List Bool
answered_in life = map (λ _. true) (counted_in life.events life.answers) ++ map (λ _. false) (in_flight life)

-- ---- one life after another

-- Each life is a run that begins with the books that the life before it left. If a request in flight acted, these are the books after that request, and else
-- the books after the counted history.
abbrev pub Lives : Rules → (OfficeAsk → Books → Reply) → List Life → Books → Books → Type 0
Lives rules look [] old new = new ≡ old
Lives rules look (life ∷ lives) old new =
    (mid : Books) × IsRun rules look life.events life.answers old mid × Lives rules look lives (last_books rules (in_flight life) mid) new

-- the history of those that acted
abbrev pub history_of : List Life → List Event
history_of [] = []
history_of (life ∷ lives) = acted_in life ++ history_of lives

-- of each, whether it was answered
abbrev pub answered_of : List Life → List Bool
answered_of [] = []
answered_of (life ∷ lives) = answered_in life ++ answered_of lives

-- all decisions that were sent
abbrev pub decisions_of : List Life → List Answer
decisions_of [] = []
decisions_of (life ∷ lives) = filter is_decided life.answers ++ decisions_of lives

-- the books with which a life begins; lives count from 0
abbrev pub begun : Rules → List Life → Books → ℕ → Books
begun rules lives old n = last_books rules (history_of (take n lives)) old

-- its caller's one kept row under the command's key has the same command, with that reply
abbrev pub IsKeptWith : Caller → Request → Text → Books → Type 0
IsKeptWith (Counter b) (Do command) reply books =
    (it : Kept) × (filter (λ (k : Kept). bytes_eq k.command.key command.key) (shop_of b books).kept ≡ it ∷ [])
    × (same_command it.command command ≡ true) × (it.reply ≡ reply)
IsKeptWith HeadOffice (Office command) reply books =
    (it : OfficeKept) × (filter (λ (k : OfficeKept). bytes_eq k.command.key command.key) books.catalogue.kept ≡ it ∷ [])
    × (same_office it.command command ≡ true) × (it.reply ≡ reply)
IsKeptWith caller request reply books = ⊥

-- a command that was answered with 200 in some life is kept at the end, with its reply
abbrev pub KeepsAcknowledged : Rules → List Life → Books → Books → Type 0
KeepsAcknowledged rules lives old new =
    (n i : ℕ) (life : Life) (caller : Caller) (request : Request) (answer : Answer) → is_command caller request ≡ true → slice_get lives n ≡ Some life
    → Asks rules life.events life.answers (begun rules lives old n) i caller request → slice_get life.answers i ≡ Some answer → answer.status ≡ 200
    → (text : Text) × (answer ≡ answer_of (Done text)) × IsKeptWith caller request text new

-- All lives together are one history: the requests that acted. Its books are the last books. Its replies are what was sent, except the replies to the requests
-- in flight. What holds of any history holds of it: each branch is alone in it, each copy is in one place after it, and commands that come again change
-- nothing.
pub record IsOneHistory (rules : Rules) (look : OfficeAsk → Books → Reply) (lives : List Life) (old new : Books) : Type 0 where
  pub books : new ≡ last_books rules (history_of lives) old
  pub told : decisions_of lives ≡ marked_ones (answered_of lives) (map (λ (it : Caller × Reply). answer_of it.1) (run rules look (history_of lives) old))
  pub kept : (sizes : Rules) → IsSound sizes new → KeepsAcknowledged rules lives old new
  pub alone : HasNumbers old → (b : ℕ) → IsAlone rules look (history_of lives) old b
  pub place : (sizes : Rules) → IsSound sizes new → InOnePlace new
  pub repeats : IsWithoutRepeats rules look (history_of lives) old

abbrev pub LivesAreOneHistory : Type 0
LivesAreOneHistory =
    (rules : Rules) (look : OfficeAsk → Books → Reply) (lives : List Life) (old new : Books)
    → Lives rules look lives old new → IsOneHistory rules look lives old new

-- ---- the request in flight, sent again

-- whether it had acted or not, it is answered alike when it comes again first, and leaves the same books
pub record ActsOnce (rules : Rules) (look : OfficeAsk → Books → Reply) (event : Event) (old : Books) : Type 0 where
  pub reply : reply_in rules look event (after rules event old) ≡ reply_in rules look event old
  pub books : after rules event (after rules event old) ≡ after rules event old

abbrev pub EachActsOnce : Type 0
EachActsOnce = (rules : Rules) (look : OfficeAsk → Books → Reply) (event : Event) (old : Books) → ActsOnce rules look event old

-- The answer is the one that the step gives in the books before the stop. All later books come from the history that contains the request once.
pub record IsResentFirst (rules : Rules) (look : OfficeAsk → Books → Reply) (first next : Life) (event : Event) (answer : Answer) (old new : Books) :
    Type 0 where
  pub reply : answer ≡ answer_of (reply_in rules look event (last_books rules (counted_in first.events first.answers) old))
  pub books : new ≡ last_books rules (counted_in first.events first.answers ++ acted_in next) old

abbrev pub ResentFirst : Type 0
ResentFirst =
    (rules : Rules) (look : OfficeAsk → Books → Reply) (first next : Life) (event : Event)
    (more : List Event) (answer : Answer) (others : List Answer) (old new : Books)
    → Lives rules look (first ∷ next ∷ []) old new → failing first.events first.answers ≡ Some event
    → next.events ≡ event ∷ more → next.answers ≡ answer ∷ others
    → is_decided answer ≡ true → IsResentFirst rules look first next event answer old new

-- ---- one after another

-- lives that go on from the books that others left are all one list of lives
abbrev pub LivesFollow : Type 0
LivesFollow =
    (rules : Rules) (look : OfficeAsk → Books → Reply) (lives more : List Life) (old mid new : Books)
    → Lives rules look lives old mid → Lives rules look more mid new
    → Lives rules look (lives ++ more) old new
