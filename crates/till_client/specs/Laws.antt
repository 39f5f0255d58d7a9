-- Laws of messages and their answers over one connection.
use Rattle.std.specs.Prelude.{◌≡◌, ◌<◌, ◌^◌, ◌⊎◌, ◌++◌, List, [], ◌∷◌, ℕ, length}
use Rattle.std.specs.List.{AllByRecursion, flat_map}
use Rattle.http_messages.specs.Message.{Message}
use Rattle.http_messages.specs.Input.{HasMessage, HasMessages}
use Rattle.shop_model.specs.Values.{Text, Command}
use Rattle.shop_model.specs.Answers.{Answer}
use Rattle.till_client.specs.Replies.{answer_bytes}
use Rattle.till_client.specs.Sealing.{SaysCommand}

-- the same bytes say only one command, whatever token is expected
abbrev pub OneCommand : Type 0
OneCommand = (bytes : List ℕ) (token other : Text) (one two : Command) → SaysCommand bytes token one → SaysCommand bytes other two → one ≡ two

-- If the bytes of two answers begin the same input, the answers are the same, and so is what follows. So what a till reads first is what the server wrote
-- first.
abbrev pub OneAnswer : Type 0
OneAnswer =
    (a b : Answer) (x y : List ℕ) → a.status < 2 ^ 64 → b.status < 2 ^ 64 → length a.body < 2 ^ 64 → length b.body < 2 ^ 64
    → answer_bytes a ++ x ≡ answer_bytes b ++ y → (a ≡ b) × (x ≡ y)

-- A connection was to carry one message. Wherever it breaks, the server reads no message of it, or this message, whole.
abbrev pub OneMessage : Type 0
OneMessage =
    (request front more rest : List ℕ) (m : Message) (ms : List Message) → 0 < length request
    → HasMessage request m [] → request ≡ front ++ more → HasMessages front ms rest
    → (ms ≡ []) ⊎ ((ms ≡ m ∷ []) × (front ≡ request))

-- an answer whose numbers fit
abbrev pub IsShort : Answer → Type 0
IsShort answer = (answer.status < 2 ^ 64) × (length answer.body < 2 ^ 64)

-- A connection carried one message's bytes to the server, or a front of them. The server read messages from them, and wrote an answer's bytes for each, in
-- order. The till read a whole answer from the server's bytes. Then the server read this message and no other, the till read its answer, and nothing follows.
abbrev pub OneExchange : Type 0
OneExchange =
    (request front more rest x : List ℕ) (m : Message) (ms : List Message) (answers : List Answer) (answer : Answer)
    → 0 < length request → HasMessage request m [] → request ≡ front ++ more
    → HasMessages front ms rest → length answers ≡ length ms → AllByRecursion IsShort answers
    → IsShort answer → flat_map answer_bytes answers ≡ answer_bytes answer ++ x
    → (ms ≡ m ∷ []) × (answers ≡ answer ∷ []) × (front ≡ request) × (x ≡ [])
