-- What replies of the program mean: a status and the bytes of a body.
use Rattle.std.specs.Prelude.{ℕ, Bool, true, false, List, string_bytes}
use Rattle.shop_model.specs.Answers.{Answer}
use Rattle.shop_types.specs.declared.refusal.Refusal.{Refusal}
use Rattle.shop_types.specs.declared.refusal.Refusal.TheVariants.{BadCsv}
use Rattle.shop_types.specs.declared.reply.Body.{Body}
use Rattle.shop_types.specs.declared.reply.Body.TheVariants.{Text, Fixed}
use Rattle.shop_types.specs.declared.reply.Reply.{Reply}

abbrev pub body_bytes : Body → List ℕ
body_bytes (Text text) = string_bytes text
body_bytes (Fixed text) = text.now

abbrev pub seen_reply : Reply → Answer
seen_reply reply = record { status = reply.status; body = body_bytes reply.body }

-- the body says no more than the refusal's name: all but a stock file's fault, which names a line
abbrev pub has_fixed_body : Refusal → Bool
has_fixed_body (BadCsv fault) = false
has_fixed_body refusal = true
