-- The messages of a connection and the answers to them.
use Rattle.std.specs.Prelude.{◌≡◌, ◌||◌, ℕ, true, false, List, [], map, All}
use Rattle.std.specs.List.{flat_map, list_all}
use Rattle.http_messages.specs.Message.{Message}
use Rattle.http_messages.specs.Input.{HasMessages}
use Rattle.http_messages.specs.Text.{reply_text}
use Rattle.shop_model.specs.Answers.{Answer}
use Rattle.shop_model.specs.Books.{Event}
use Rattle.shop_model.specs.Histories.{has_failed, is_store_failure}
use Rattle.sqlite_trees.specs.declared.store.Store.{Ghosts}
use Rattle.counter_routes.specs.Words.{Meaning}
use Rattle.chain_requests.specs.Holding.{Chained}
use Rattle.chain_requests.specs.Chains.{Takes, Runs}
use Rattle.branch_reports.specs.Told.{IsTold}
use Rattle.counter_http.specs.Events.{event_of}

-- a message and the answer to it
pub record Exchange : Type 0 where
  pub message : Message
  pub answer : Answer

-- the bytes of an answer
abbrev pub text_of : Answer → List ℕ
text_of answer = reply_text answer.status answer.body

abbrev pub messages_of : List Exchange → List Message
messages_of exchanges = map (λ exchange. exchange.message) exchanges

-- what the messages asked, if head office's words have this meaning
abbrev pub events_of : Meaning → List Exchange → List Event
events_of meaning exchanges = map (λ exchange. event_of meaning exchange.message) exchanges

abbrev pub answers_of : List Exchange → List Answer
answers_of exchanges = map (λ exchange. exchange.answer) exchanges

-- the bytes of the answers, one after another
abbrev pub texts : List Exchange → List ℕ
texts exchanges = flat_map (λ exchange. text_of exchange.answer) exchanges

-- the connection goes on after the exchange: nobody asked for its end, and the store didn't fail
pub record GoesOn (exchange : Exchange) : Type 0 where
  pub stays : exchange.message.closes ≡ false
  pub sound : is_store_failure exchange.answer ≡ false

-- The chain answers the messages, one after another. If no message came, the chain is as it was, whatever its store is. Whatever the disk does, each answer is
-- one of the table. The chain has failed exactly if it had failed before, or one of the answers is the store's failure. A chain that had failed before is as it
-- was, with its connection to the store, and each answer is the store's failure.
pub record RunsOver {S : Type 0} (g : Ghosts S) (meaning : Meaning) (old new : Chained S) (exchanges : List Exchange) : Type 0 where
  pub takes : Takes g old new (Runs (events_of meaning exchanges) (answers_of exchanges))
  pub same : exchanges ≡ [] → new ≡ old
  pub told : All IsTold (answers_of exchanges)
  pub fails : new.is_failed ≡ (old.is_failed || has_failed (answers_of exchanges))
  pub failed : old.is_failed ≡ true → (new ≡ old) × (list_all is_store_failure (answers_of exchanges) ≡ true)

-- What was read is the messages of the exchanges, and then a rest that isn't answered. `Ran` holds of the exchanges. The statement on the bytes holds whatever
-- the disk does.
pub record HasRun (Ran : List Exchange → Type 0) (read : List ℕ) (exchanges : List Exchange) (rest : List ℕ) : Type 0 where
  pub splits : HasMessages read (messages_of exchanges) rest
  pub ran : Ran exchanges
