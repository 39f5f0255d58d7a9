-- What holds of a chain that was stopped and opened again.
use Rattle.std.specs.Prelude.{◌≡◌, ◌∷◌, [], Bool, true, false, List, Some}
use Rattle.sqlite_trees.specs.declared.store.Store.{Ghosts}
use Rattle.shop_model.specs.Values.{Rules}
use Rattle.shop_model.specs.Answers.{Answer}
use Rattle.shop_model.specs.Books.{Books, Event, after}
use Rattle.shop_model.specs.Office.{office_look}
use Rattle.shop_model.specs.Histories.{is_decided, has_failed}
use Rattle.shop_model.specs.Stops.{failing, Life, Lives, IsOneHistory, IsResentFirst}
use Rattle.chain_requests.specs.Holding.{Chained}
use Rattle.chain_requests.specs.Chains.{IsAt}

-- The life before the stop, and the life after the stop. `acted` says whether the request at which the store failed acted.
abbrev pub before_stop : List Event → List Answer → Bool → Life
before_stop events answers acted = record { events = events; answers = answers; acted = acted }

abbrev pub behind_stop : List Event → List Answer → Life
behind_stop events answers = record { events = events; answers = answers; acted = false }

-- A chain that had the books `old` answered the events `first` with `told`. It was stopped and opened again, and answered the events `rest` with `later`.
-- The request at which the store failed acted or didn't. The chain's books now are the result of one history: of the requests that acted.
pub record Resumes {S : Type 0} (g : Ghosts S) (rules : Rules) (first rest : List Event) (told later : List Answer) (old : Books) (chain : Chained S) :
    Type 0 where
  pub acted : Bool
  pub new : Books
  pub besides : Books
  -- the chain has the books `new`; if the store failed, a crash may leave the books `besides`
  pub at : IsAt g chain new besides
  -- The answers before the stop are the replies of a run. The answers after the stop are the replies of a run from the books that the stop left.
  pub lives : Lives rules office_look (before_stop first told acted ∷ behind_stop rest later ∷ []) old new
  -- it is one history, whose every acknowledged command is kept
  pub history : IsOneHistory rules office_look (before_stop first told acted ∷ behind_stop rest later ∷ []) old new
  -- if the request in flight is sent again first, it gets the same answer and acts once
  pub resent : (event : Event) (more : List Event) (answer : Answer) (others : List Answer)
      → failing first told ≡ Some event → rest ≡ event ∷ more → later ≡ answer ∷ others
      → is_decided answer ≡ true → IsResentFirst rules office_look (before_stop first told acted) (behind_stop rest later) event answer old new
  -- at the next failure of the store the same holds again
  pub failed : chain.is_failed ≡ has_failed later
  pub at_failure : (event : Event) → failing rest later ≡ Some event → besides ≡ after rules event new
