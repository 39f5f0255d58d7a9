-- What a branch is sent over a chain's lives, and that it depends on nothing but what concerns the branch.
use Rattle.std.specs.Prelude.{◌≡◌, ◌++◌, ℕ, Bool, true, false, List, [], ◌∷◌, map}
use Rattle.shop_model.specs.Values.{OfficeAsk, Rules}
use Rattle.shop_model.specs.Machine.{Request, Input, Own, Reply}
use Rattle.shop_model.specs.Books.{Books, Event, after, last_books, state_of, view}
use Rattle.shop_model.specs.Sound.{HasNumbers}
use Rattle.shop_model.specs.SameStates.{SameState}
use Rattle.shop_model.specs.Stops.{Lives, acted_in, history_of, answered_of}
use Rattle.counter_http.specs.Branches.{sent_to, seen_of}
use Rattle.till_and_server.specs.ServedLives.{ServedLife, life_of, lives_of}

-- The bytes sent to the branch, one life after another. Each life begins with the books that the life before it left.
-- As in `sent_to`, the replies that say that the store couldn't do its part are left out.
abbrev pub sent_over : Rules → ℕ → List ServedLife → Books → List ℕ
sent_over rules b [] books = []
sent_over rules b (life ∷ lives) books =
    sent_to life.meaning rules b life.exchanges books ++ sent_over rules b lives (last_books rules (acted_in (life_of life)) books)

-- ---- what a branch saw

-- A branch sees its own requests, head office's accepted commands, and the consignments sent to it. It sees no reply to another caller, and its view doesn't
-- have its own replies.
pub data Sight : Type 0 where
  Sees : Input → Sight  -- if it is a request of the branch's own, its reply was sent
  Unanswered : Request → Sight  -- a request of the branch's own that was in flight at a stop, and acted

-- Of an input, by whether the request that it came of was answered. Nobody but its caller knows whether a request was answered.
abbrev pub sight_of : Bool → Input → Sight
sight_of true input = Sees input
sight_of false (Own request) = Unanswered request
sight_of false input = Sees input

-- of a history, and of whether each of its requests was answered
abbrev pub sights : Rules → ℕ → List Event → List Bool → Books → List Sight
sights rules b (event ∷ events) (answered ∷ more) books =
    map (sight_of answered) (view rules b (event ∷ []) books) ++ sights rules b events more (after rules event books)
sights rules b events more books = []

-- What the branch saw over all lives, in order: of each request that was answered, or was in flight and acted, its part.
abbrev pub seen_over : Rules → ℕ → List ServedLife → Books → List Sight
seen_over rules b lives books = sights rules b (history_of (lives_of lives)) (answered_of (lives_of lives)) books

-- ---- two lists of lives

-- Two chains' books agree on what concerns the branch: the catalogue and the branch's shop. Each may have kept commands, received lots and cast actors in an
-- order of its own. The rows of both are numbered, as the rows of sound books are.
pub record BooksAgreeOn (b : ℕ) (one other : Books) : Type 0 where
  pub state : SameState (state_of b one) (state_of b other)
  pub numbers : HasNumbers one
  pub numbers_too : HasNumbers other

-- the branch was sent the same bytes, and the books that are left agree again on what concerns the branch
pub record IsSentTheSame (rules : Rules) (b : ℕ) (lives others : List ServedLife) (old new other another : Books) : Type 0 where
  pub sent : sent_over rules b lives old ≡ sent_over rules b others other
  pub left : BooksAgreeOn b new another

-- Two chains with the same limits lived any lives, each with its own stops. If their books agreed on what concerns a branch, and the branch saw the same over
-- all lives, that branch was sent the same bytes.
abbrev pub LivesSendTheSame : Type 0
LivesSendTheSame =
    (rules : Rules) (look second : OfficeAsk → Books → Reply) (b : ℕ) (lives others : List ServedLife) (old new other another : Books)
    → Lives rules look (lives_of lives) old new → Lives rules second (lives_of others) other another
    → BooksAgreeOn b old other → seen_over rules b lives old ≡ seen_over rules b others other
    → IsSentTheSame rules b lives others old new other another

-- ---- requests that a branch sent again

-- The second view is the first without requests in flight that the branch sent again before it saw anything else. A request may be in flight several times.
pub data IsWithoutResent : List Sight → List Sight → Type 0 where
  nothing : IsWithoutResent [] []
  stays : (sight : Sight) (xs ys : List Sight) → IsWithoutResent xs ys → IsWithoutResent (sight ∷ xs) (sight ∷ ys)
  goes : (request : Request) (answered : Bool) (xs ys : List Sight) → IsWithoutResent (sight_of answered (Own request) ∷ xs) ys
      → IsWithoutResent (Unanswered request ∷ sight_of answered (Own request) ∷ xs) ys

-- A branch may send a request in flight again before it sees anything else. Then it is sent the same bytes whether that request had acted or not.
abbrev pub ResentRequestsSendTheSame : Type 0
ResentRequestsSendTheSame =
    (rules : Rules) (look second : OfficeAsk → Books → Reply) (b : ℕ) (lives others : List ServedLife) (old new other another : Books)
    → Lives rules look (lives_of lives) old new → Lives rules second (lives_of others) other another
    → BooksAgreeOn b old other
    → (seen : List Sight) → IsWithoutResent (seen_over rules b lives old) seen → IsWithoutResent (seen_over rules b others other) seen
    → IsSentTheSame rules b lives others old new other another

-- ---- one life

-- the bytes are what the exchanges send as one history, and the branch sees its view of that history
pub record IsAsOneHistory (rules : Rules) (b : ℕ) (life : ServedLife) (old : Books) : Type 0 where
  pub sent : sent_over rules b (life ∷ []) old ≡ sent_to life.meaning rules b life.exchanges old
  pub seen : seen_over rules b (life ∷ []) old ≡ map (λ input. Sees input) (seen_of life.meaning rules b life.exchanges old)

-- Suppose that no request in flight acted. Then a branch was sent and saw in one life what it would be sent and see in a history without stops.
abbrev pub OneLifeIsOneHistory : Type 0
OneLifeIsOneHistory = (rules : Rules) (b : ℕ) (life : ServedLife) (old : Books) → life.acted ≡ false → IsAsOneHistory rules b life old
