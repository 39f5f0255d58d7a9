-- Replies that came over connections which a server opened.
use Rattle.std.specs.Prelude.{◌≡◌, ◌≢◌, ◌⊎◌, ⊤, ℕ, ◌+◌, List, [], ◌∷◌, slice_get, Option, Some}
use Rattle.std.specs.Io.KnownBytes.{Appends, Consumes}
use Rattle.std.specs.List.{AllByRecursion}
use Rattle.shop_model.specs.Refusals.{MomentBack, NoCounter}
use Rattle.shop_model.specs.Machine.{Sorry}
use Rattle.shop_model.specs.Answers.{Answer, answer_of}
use Rattle.till_client.specs.Replies.{answer_bytes}
use Rattle.till_client.specs.Exchanges.{FailsToAsk}
use Rattle.till_client.specs.declared.exchange.AskFault.{AskFault}

-- Over streams that were opened, the request was written whole and the answer was read whole. The answer is neither a 503 nor `no_counter`. The streams are
-- values:
-- `reader` and `writer` as they were opened, `read` and `written` after that.
pub record IsExchanged {R W : Type 0} (opens : R → W → Type 0) (remaining : R → Option (List ℕ))
    (contents : W → Option (List ℕ)) (request : List ℕ) (answer : Answer) :
    Type 0 where
  pub reader : R
  pub writer : W
  pub read : R
  pub written : W
  pub opened : opens reader writer
  pub writes : Appends (contents writer) (contents written) request
  pub reads : Consumes (remaining reader) (remaining read) (answer_bytes answer)
  pub decided : answer.status ≢ 503
  pub known : answer ≢ answer_of (Sorry NoCounter)

-- that is a reply to the entry at that place; the first place is 0
abbrev pub IsExchangedAt : (List ℕ → Answer → Type 0) → List (List ℕ) → ℕ → Answer → Type 0
IsExchangedAt Exchanged entries i answer = (request : List ℕ) × (slice_get entries i ≡ Some request) × Exchanged request answer

-- these are replies to the entries from that place on, one after another
abbrev pub AreExchanged : (List ℕ → Answer → Type 0) → List (List ℕ) → ℕ → List Answer → Type 0
AreExchanged Exchanged entries i [] = ⊤
AreExchanged Exchanged entries i (answer ∷ answers) = IsExchangedAt Exchanged entries i answer × AreExchanged Exchanged entries (i + 1) answers

-- accepted, or refused for the moment
abbrev pub IsDecided : Answer → Type 0
IsDecided answer = (answer.status ≡ 200) ⊎ (answer ≡ answer_of (Sorry MomentBack))

-- that is a reply to the entry of that number, and decides it; the first number is 1
abbrev pub IsSettledAt : (List ℕ → Answer → Type 0) → List (List ℕ) → ℕ × Answer → Type 0
IsSettledAt Exchanged entries it = (i : ℕ) × (it.0 ≡ i + 1) × IsExchangedAt Exchanged entries i it.1 × IsDecided it.1

-- each of them is settled so
abbrev pub AreSettled : (List ℕ → Answer → Type 0) → List (List ℕ) → List (ℕ × Answer) → Type 0
AreSettled Exchanged entries settled = AllByRecursion (IsSettledAt Exchanged entries) settled

-- Over streams that were opened no answer came to the request. The fault says how much of the request was written.
pub record IsUnanswered {R W : Type 0} (why : AskFault) (opens : R → W → Type 0) (contents : W → Option (List ℕ)) (request : List ℕ) : Type 0 where
  pub reader : R
  pub writer : W
  pub written : W
  pub opened : opens reader writer
  pub writes : FailsToAsk why request (contents writer) (contents written)

-- Over streams that were opened the request was written whole, and the server did nothing.
pub record IsPutOff {R W : Type 0} (opens : R → W → Type 0) (contents : W → Option (List ℕ)) (request : List ℕ) : Type 0 where
  pub reader : R
  pub writer : W
  pub written : W
  pub opened : opens reader writer
  pub writes : Appends (contents writer) (contents written) request
