-- What each branch received from a chain that answered a list of events.
use Rattle.std.specs.Prelude.{◌≡◌, ℕ, if◌then◌else◌, List, [], ◌∷◌, map}
use Rattle.shop_model.specs.Values.{OfficeAsk, Rules}
use Rattle.shop_model.specs.Machine.{Reply, Input, replies, state_after}
use Rattle.shop_model.specs.Answers.{Answer, answer_of}
use Rattle.shop_model.specs.Books.{Books, Event, is_counter, replies_to, caller_in, after, run, state_of, view}
use Rattle.shop_model.specs.Sound.{HasNumbers}
use Rattle.shop_model.specs.Histories.{is_decided, counted_in}

-- The answers to the branch's events, in order. The catalogue at the time of each event decides whether the event is the branch's. Answers that are no
-- decision are left out: the store was out of memory or room, or failed.
abbrev pub answered_to : Rules → ℕ → List Event → List Answer → Books → List Answer
answered_to rules b [] answers books = []
answered_to rules b (event ∷ events) [] books = []
answered_to rules b (event ∷ events) (answer ∷ answers) books =
    if is_decided answer
    then (if is_counter b (caller_in event books) then answer ∷ answered_to rules b events answers (after rules event books)
    else answered_to rules b events answers (after rules event books))
    else answered_to rules b events answers books

-- the part of the counted history that the branch sees
abbrev pub seen_by : Rules → ℕ → List Event → List Answer → Books → List Input
seen_by rules b events answers books = view rules b (counted_in events answers) books

-- The branch received the replies of its own machine, started at the branch's state in the old books. The branch's state in the new books is the machine's
-- last state.
pub record IsKept (rules : Rules) (look : OfficeAsk → Books → Reply) (events : List Event) (answers : List Answer) (old new : Books) (b : ℕ) : Type 0 where
  pub told : answered_to rules b events answers old ≡ map answer_of (replies rules b (seen_by rules b events answers old) (state_of b old))
  pub state : state_of b new ≡ state_after rules b (seen_by rules b events answers old) (state_of b old)
  pub replies : replies_to b (run rules look (counted_in events answers) old) ≡ replies rules b (seen_by rules b events answers old) (state_of b old)

-- every branch is kept so, if the rows of the old books are numbered, as in sound books
abbrev pub KeepsBranches : Rules → (OfficeAsk → Books → Reply) → List Event → List Answer → Books → Books → Type 0
KeepsBranches rules look events answers old new = HasNumbers old → (b : ℕ) → IsKept rules look events answers old new b
