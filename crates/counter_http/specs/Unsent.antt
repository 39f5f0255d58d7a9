-- What is left to write of a reply.
use Rattle.std.specs.Prelude.{ℕ, List, [], ◌++◌, length, drop, Option, Some, None}
use Rattle.http_messages.specs.Text.{head_text}
use Rattle.shop_types.specs.declared.reply.Reply.{Reply}
use Rattle.shop_types.specs.Replies.{body_bytes}

-- the rest of the head, and then the rest of the body
abbrev pub unsent_of : Option Reply → ℕ → ℕ → List ℕ
unsent_of None head_at body_at = []
unsent_of (Some reply) head_at body_at =
    drop head_at (head_text reply.status (length (body_bytes reply.body))) ++ drop body_at (body_bytes reply.body)
