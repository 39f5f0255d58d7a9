-- Whether the bytes so far are a whole reply of the server with nothing after it, the start of a reply, or something else.
use Rattle.std.specs.Prelude.{◌≡◌, ⊤, List, ℕ}
use Rattle.shop_model.specs.Answers.{Answer}
use Rattle.http_messages.specs.Text.{reply_text}
use Rattle.till_client.specs.declared.replies.Answer.{Answer as Read}
use Rattle.till_client.specs.declared.replies.ReplyReading.{ReplyReading}
use Rattle.till_client.specs.declared.replies.ReplyReading.TheVariants.{Whole, More, Foreign}

-- the answer as a value of the definitions
abbrev pub seen_answer : Read → Answer
seen_answer answer = record { status = answer.status; body = answer.body.items }

-- the bytes that a server sends for the answer
abbrev pub answer_bytes : Answer → List ℕ
answer_bytes answer = reply_text answer.status answer.body

abbrev pub IsReplyReading : List ℕ → ReplyReading → Type 0
IsReplyReading bytes (Whole reply) = bytes ≡ reply_text reply.status reply.body.now
IsReplyReading bytes More = ⊤
IsReplyReading bytes Foreign = ⊤
