-- Compares what a chain really answered with the run. In place of an answer it may report that memory or room ran out, or that the store failed.
use Rattle.std.specs.Prelude.{◌≡◌, ◌⊎◌, ◌==◌, ◌&&◌, ◌||◌, Bool, true, not, if◌then◌else◌, List, [], ◌∷◌, length, map, filter}
use Rattle.std.specs.List.{list_all, list_any}
use Rattle.std.specs.Str.{bytes_eq}
use Rattle.shop_model.specs.Values.{OfficeAsk, Rules}
use Rattle.shop_model.specs.Refusals.{Memory, Size, StoreFailed}
use Rattle.shop_model.specs.Machine.{Request, Reply}
use Rattle.shop_model.specs.Answers.{Answer, answer_of, problem_text, problem_answer}
use Rattle.shop_model.specs.Books.{Books, Event, Caller, Outcome, Decided, NoRoom, Failed, counted, reply_for, after_for, run, last_books}

abbrev pub is_decided : Answer → Bool
is_decided answer = not (answer.status == 503)

abbrev pub is_store_failure : Answer → Bool
is_store_failure answer = answer.status == 503 && bytes_eq answer.body (problem_text StoreFailed)

-- a decision, or one of the three refusals of the store
abbrev pub is_answer : Answer → Bool
is_answer answer =
    is_decided answer || bytes_eq answer.body (problem_text Memory)
    || bytes_eq answer.body (problem_text Size) || bytes_eq answer.body (problem_text StoreFailed)

abbrev pub outcome_of : Answer → Outcome
outcome_of answer = if is_decided answer then Decided else (if is_store_failure answer then Failed else NoRoom)

-- each event with how it was answered
abbrev pub with_outcomes : List Event → List Answer → List (Event × Outcome)
with_outcomes (event ∷ events) (answer ∷ answers) = (event, outcome_of answer) ∷ with_outcomes events answers
with_outcomes events answers = []

-- the counted history that these events and answers give
abbrev pub counted_in : List Event → List Answer → List Event
counted_in events answers = counted (with_outcomes events answers)

-- once the store has failed, it goes on to fail
abbrev pub fails_for_good : List Answer → Bool
fails_for_good [] = true
fails_for_good (answer ∷ answers) = if is_store_failure answer then list_all is_store_failure answers else fails_for_good answers

abbrev pub has_failed : List Answer → Bool
has_failed answers = list_any is_store_failure answers

-- one answer an event; the decisions among them are the replies of the run over the counted history, in order, and the books are those it leaves
pub record IsRun (rules : Rules) (look : OfficeAsk → Books → Reply) (events : List Event) (answers : List Answer) (old new : Books) : Type 0 where
  pub each : length answers ≡ length events
  pub answers_are : list_all is_answer answers ≡ true
  pub stays : fails_for_good answers ≡ true
  pub decisions : filter is_decided answers ≡ map (λ (it : Caller × Reply). answer_of it.1) (run rules look (counted_in events answers) old)
  pub books : new ≡ last_books rules (counted_in events answers) old

-- a decision: the step's reply is sent, and its books are left
pub record Decides (rules : Rules) (look : OfficeAsk → Books → Reply) (caller : Caller) (request : Request) (answer : Answer) (old new : Books) : Type 0 where
  pub reply : answer ≡ answer_of (reply_for rules look caller request old)
  pub books : new ≡ after_for rules caller request old

-- out of memory or of room in the store: the books stay as they were
pub record LacksRoom (answer : Answer) (old new : Books) : Type 0 where
  pub reply : (answer ≡ problem_answer Memory) ⊎ (answer ≡ problem_answer Size)
  pub books : new ≡ old

-- The store failed. The books that the contract names stay as they were. The contract of the chain says what a crash leaves of them.
pub record Fails (answer : Answer) (old new : Books) : Type 0 where
  pub reply : answer ≡ problem_answer StoreFailed
  pub books : new ≡ old

-- what a chain may do at a request of that caller
abbrev pub IsStep : Rules → (OfficeAsk → Books → Reply) → Caller → Request → Answer → Books → Books → Type 0
IsStep rules look caller request answer old new = Decides rules look caller request answer old new ⊎ (LacksRoom answer old new ⊎ Fails answer old new)
