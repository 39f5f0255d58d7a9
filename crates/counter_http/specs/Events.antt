-- A message as an event of the chain, and what the chain may do at it.
use Rattle.std.specs.Prelude.{ℕ, List, Option, Some, None, option_and_then, if◌then◌else◌}
use Rattle.http_messages.specs.Message.{Message}
use Rattle.shop_types.specs.Texts.{is_token}
use Rattle.shop_model.specs.Machine.{Request}
use Rattle.shop_model.specs.Answers.{Answer}
use Rattle.shop_model.specs.Books.{Event, Caller, Nobody, caller_of}
use Rattle.counter_routes.specs.Words.{Meaning}
use Rattle.counter_routes.specs.Readings.{reading_of}
use Rattle.chain_requests.specs.Holding.{Holding}
use Rattle.chain_requests.specs.Chains.{Answers, AnswersEvent}

-- a text that is no token counts as no token
abbrev pub known_token : Option (List ℕ) → Option (List ℕ)
known_token token = option_and_then (λ digits. if is_token digits then Some digits else None) token

-- The token says who asks. What is asked depends on who asks, and for head office on what its words mean.
abbrev pub event_of : Meaning → Message → Event
event_of meaning message = record { token = known_token message.token; request = reading_of meaning message }

-- who sent the message, by the catalogue as it is now
abbrev pub sender_of : Message → Holding → Caller
sender_of message holding = caller_of (known_token message.token) holding.books.catalogue

-- The chain makes the books' step for the message and gives its answer, or lacks memory or room, or the store fails. If the store had failed before, the answer
-- is its failure.
abbrev pub AnswersMessage : Meaning → Message → Answer → Holding → Holding → Type 0
AnswersMessage meaning message answer old new = AnswersEvent (event_of meaning message) answer old new

-- the answer to nobody, whatever nobody asks
abbrev pub AnswersNobody : Answer → Holding → Holding → Type 0
AnswersNobody answer old new = (request : Request) → Answers Nobody request answer old new
