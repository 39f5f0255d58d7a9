-- What was asked of a server, and its replies, for questions that change nothing.
use Rattle.std.specs.Prelude.{◌≢◌, ℕ, List, Option}
use Rattle.std.specs.Io.KnownBytes.{Appends, Consumes}
use Rattle.shop_model.specs.Answers.{Answer}
use Rattle.shop_model.specs.Calendar.{Moment}
use Rattle.shop_model.specs.Values.{Text, Ask, OfficeAsk, Balance}
use Rattle.till_client.specs.Replies.{answer_bytes}
use Rattle.till_requests.specs.Requests.{SaysLook, SaysOfficeLook}

-- Over streams that were opened, the request was written whole and the answer was read whole. The answer isn't a 503. The streams are values: `reader` and
-- `writer` as they were opened, `read` and `written` after that.
pub record IsAnswered {R W : Type 0} (opens : R → W → Type 0) (remaining : R → Option (List ℕ))
    (contents : W → Option (List ℕ)) (request : List ℕ) (answer : Answer) :
    Type 0 where
  pub reader : R
  pub writer : W
  pub read : R
  pub written : W
  pub opened : opens reader writer
  pub writes : Appends (contents writer) (contents written) request
  pub reads : Consumes (remaining reader) (remaining read) (answer_bytes answer)
  pub decided : answer.status ≢ 503

-- that is an answer to the look, asked with that token
abbrev pub IsLookedUp : (List ℕ → Answer → Type 0) → Text → Ask → Answer → Type 0
IsLookedUp Answers token ask answer = (request : List ℕ) × SaysLook request token ask × Answers request answer

-- that is an answer to the question what the customer owes at some moment
abbrev pub IsOwing : (List ℕ → Answer → Type 0) → Text → ℕ → Answer → Type 0
IsOwing Answers token customer answer = (at : Moment) × IsLookedUp Answers token (Balance customer at) answer

-- that is an answer to the words of head office, asked with that token: they are a reading
abbrev pub IsReadOut : (List ℕ → Answer → Type 0) → Text → List Text → Answer → Type 0
IsReadOut Answers token words answer = (ask : OfficeAsk) × (request : List ℕ) × SaysOfficeLook request token words ask × Answers request answer
