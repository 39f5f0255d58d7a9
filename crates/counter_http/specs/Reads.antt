-- What the chain answers to a caller, from what was read of the message.
use Rattle.std.specs.Prelude.{◌≡◌, true, Result, Ok, Err, ⊤}
use Rattle.shop_model.specs.Refusals as named
use Rattle.shop_model.specs.Answers.{Answer, problem_answer}
use Rattle.shop_model.specs.Books.{Caller}
use Rattle.shop_types.specs.Seen.{seen_request, seen_refusal}
use Rattle.shop_types.specs.Replies.{has_fixed_body}
use Rattle.counter_routes.specs.declared.asked.Reading.{Reading}
use Rattle.counter_routes.specs.declared.asked.Reading.TheVariants.{Asked, Refused}
use Rattle.chain_requests.specs.Holding.{Holding}
use Rattle.chain_requests.specs.Chains.{Answers}

-- no stock file is at fault yet
abbrev pub HasFixedBody : {E : Type 0} → Result Reading E → Type 0
HasFixedBody (Ok (Asked request)) = ⊤
HasFixedBody (Ok (Refused refusal)) = has_fixed_body refusal ≡ true
HasFixedBody (Err e) = ⊤

-- a refusal is a decision, not the store's
abbrev pub IsDecided : {E : Type 0} → Result Reading E → Type 0
IsDecided (Ok (Asked request)) = ⊤
IsDecided (Ok (Refused refusal)) = (decision : named.Refusal) × (seen_refusal refusal ≡ named.Decision decision)
IsDecided (Err e) = ⊤

-- A request is answered as the caller's. A text that is no request is refused. If reading runs out of memory, the answer is `memory`. In the last two cases
-- the chain is as it was.
abbrev pub AnswersRead : {E : Type 0} → Caller → Result Reading E → Answer → Holding → Holding → Type 0
AnswersRead caller (Ok (Asked request)) answer old new = Answers caller (seen_request request) answer old new
AnswersRead caller (Ok (Refused refusal)) answer old new = (answer ≡ problem_answer (seen_refusal refusal)) × (new ≡ old)
AnswersRead caller (Err e) answer old new = (answer ≡ problem_answer named.Memory) × (new ≡ old)
