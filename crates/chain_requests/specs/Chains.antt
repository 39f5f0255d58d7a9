-- The contract of one request to a chain, and of a list of requests.
use Rattle.std.specs.Prelude.{◌≡◌, ◌⊎◌, ◌||◌, ℕ, true, false, if◌then◌else◌, IsTrue, List, Some}
use Rattle.std.specs.List.{list_all}
use Rattle.sqlite_trees.specs.declared.store.Store.{Ghosts}
use Rattle.sqlite_trees.specs.Tree.{Trees}
use Rattle.sqlite.specs.Held.{state}
use Rattle.sqlite.specs.State.{State, HasCleanDisk}
use Rattle.shop_model.specs.Values.{Rules}
use Rattle.shop_model.specs.Machine.{Request}
use Rattle.shop_model.specs.Answers.{Answer}
use Rattle.shop_model.specs.Books.{Books, Event, Caller, known_caller, caller_in, after_for, after}
use Rattle.shop_model.specs.Sound.{IsSound}
use Rattle.shop_model.specs.Office.{office_look}
use Rattle.shop_model.specs.Histories.{IsStep, IsRun, is_store_failure, has_failed}
use Rattle.shop_model.specs.Resends.{Resends}
use Rattle.shop_model.specs.Stops.{failing}
use Rattle.chain_requests.specs.Branches.{KeepsBranches}
use Rattle.chain_caches.specs.Films.{AreRows}
use Rattle.chain_caches.specs.Callers.{AreCallers}
use Rattle.shop_types.specs.declared.request.Request.{Request as Asked}
use Rattle.shop_types.specs.Seen.{seen_request}
use Rattle.shop_schema.specs.Held.{AreValues}
use Rattle.shop_schema.specs.Shop.{StandsFor, Holds}
use Rattle.stock_csv.specs.Stock.{stock_of}
use Rattle.branch_work.specs.Rules.{rules_of}
use Rattle.chain_requests.specs.Holding.{Chained, Holding, holding}

-- the rules with the greatest limits; by these rules the books of any chain are sound, whatever limits it was opened with
abbrev pub widest_rules : Rules
widest_rules = record { commands = 1000000; copies = 1000000; stock_of = stock_of }

-- ---- the state of a chain between two requests

-- The tables stand for the books, all changes are committed, and a crash leaves the books. If the store has shut the connection, only what a crash leaves is
-- known.
pub record Rests (s : State) (books : Books) : Type 0 where
  pub now : IsTrue s.is_open → Holds s books
  pub committed : IsTrue s.is_open → s.committed ≡ s.now
  pub left : (db : Trees) → s.may_leave db → StandsFor db books

-- a database that stands for the books; or one that stands for `besides`, which are sound and have values in their ranges
abbrev pub StandsForEither : Books → Books → Trees → Type 0
StandsForEither books besides db = StandsFor db books ⊎ (IsSound widest_rules besides × AreValues besides × StandsFor db besides)

-- once the store has failed: a crash leaves the books, or `besides`
abbrev pub LeavesEither : State → Books → Books → Type 0
LeavesEither s books besides = (db : Trees) → s.may_leave db → StandsForEither books besides db

-- after a call that changes nothing, the connection shows what it showed before, if it is open
abbrev pub StaysAsFound : State → State → Type 0
StaysAsFound old new = old.now ≡ old.committed → IsTrue new.is_open → IsTrue old.is_open × (new.now ≡ old.now) × (new.committed ≡ old.committed)

-- the tables stand for sound books, with values in their ranges
abbrev pub StandsSoundly : Trees → Type 0
StandsSoundly db = (books : Books) × StandsFor db books × AreValues books × IsSound widest_rules books

-- The chain has the books. They are sound; the films that the chain knows are their rows; the callers that it knows have their tokens in them. The tables
-- stand for the books until the store fails. After the store failed, a crash may leave `besides`.
pub record IsAt {S : Type 0} (g : Ghosts S) (chain : Chained S) (books besides : Books) : Type 0 where
  pub sound : IsSound widest_rules books
  pub values : AreValues books
  pub films : AreRows chain.films books.catalogue.films
  pub callers : AreCallers chain.callers books.catalogue
  pub rests : chain.is_failed ≡ false → Rests (state g chain.conn) books
  pub alone : chain.is_failed ≡ false → besides ≡ books
  pub left : chain.is_failed ≡ true → LeavesEither (state g chain.conn) books besides

-- If the disk gives back what was written, a chain that had books before a call has books after it, and P holds of both.
pub record Takes {S : Type 0} (g : Ghosts S) (old new : Chained S) (P : Holding → Holding → Type 0) : Type 0 where
  pub clean : HasCleanDisk (state g new.conn) → HasCleanDisk (state g old.conn)
  pub goes : HasCleanDisk (state g new.conn) → (books besides : Books) → IsAt g old books besides
      → (after : Books) × (beside : Books) × P (holding old books besides) (holding new after beside) × IsAt g new after beside

-- ---- requests

-- The store fails at this request: a crash may leave the books after the request, too. A chain that had failed doesn't change.
abbrev pub failed_at : Caller → Request → Holding → Holding
failed_at caller request old =
    if old.is_failed then old
    else record old { is_failed = true; besides = after_for (rules_of old.limits) (known_caller old.books.catalogue caller) request old.books }

-- One request of a caller. The books make their step and the caller gets its reply, or memory or room ran out and the books stay, or the store fails.
-- Once the store has failed, it fails at all later requests.
pub record Answers (caller : Caller) (request : Request) (answer : Answer) (old new : Holding) : Type 0 where
  pub limits : new.limits ≡ old.limits
  pub failed : new.is_failed ≡ is_store_failure answer
  pub stays : old.is_failed ≡ true → is_store_failure answer ≡ true
  pub step : IsStep (rules_of old.limits) office_look (known_caller old.books.catalogue caller) request answer old.books new.books
  pub at_failure : is_store_failure answer ≡ true → new ≡ failed_at caller request old

-- an event, whoever the caller is
abbrev pub AnswersEvent : Event → Answer → Holding → Holding → Type 0
AnswersEvent event answer old new = Answers (caller_in event old.books) (event.request (caller_in event old.books)) answer old new

-- A list of events, answered one after another. The replies and the books are the run's, over the counted history. If a command is repeated, it gets its first
-- reply and changes nothing.
pub record Runs (events : List Event) (answers : List Answer) (old new : Holding) : Type 0 where
  pub limits : new.limits ≡ old.limits
  pub failed : new.is_failed ≡ (old.is_failed || has_failed answers)
  pub stays : old.is_failed ≡ true → list_all is_store_failure answers ≡ true
  pub same : old.is_failed ≡ true → new ≡ old
  pub at_failure : old.is_failed ≡ false → (event : Event) → failing events answers ≡ Some event → new.besides ≡ after (rules_of old.limits) event new.books
  pub run : IsRun (rules_of old.limits) office_look events answers old.books new.books
  pub resent : Resends (rules_of old.limits) office_look events answers old.books new.books
  pub branches : KeepsBranches (rules_of old.limits) office_look events answers old.books new.books

-- an event with a token and a request
abbrev pub event_of : List ℕ × Asked → Event
event_of it = record { token = Some it.0; request = λ _. seen_request it.1 }
