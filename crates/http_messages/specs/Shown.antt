-- What the reader's answers say of the bytes so far.
use Rattle.std.specs.Prelude.{◌≡◌, ℕ, ◌≤◌, ◌<◌, List, [], ◌∷◌, length, drop, map, option_map}
use Rattle.httparse.specs.Grammar.{RequestHead}
use Rattle.httparse.specs.Spans.{span_bytes, header_bytes}
use Rattle.httparse.specs.declared.spans.HeaderSpan.{HeaderSpan}
use Rattle.httparse.specs.declared.spans.RequestSpans.{RequestSpans}
use Rattle.http_messages.specs.Message.{Message, pairs_of}
use Rattle.http_messages.specs.Input.{HasHead, HasMessage, IsBadHead, IsTooLong, IsCut}
use Rattle.http_messages.specs.declared.fields.FieldValues.{FieldValues}
use Rattle.http_messages.specs.declared.fields.FieldValues.TheVariants.{Absent, One, Many}
use Rattle.http_messages.specs.declared.messages.Request.{Request}
use Rattle.http_messages.specs.declared.messages.MessageFault.TheVariants.{BadHead, TooLong}
use Rattle.http_messages.specs.declared.messages.MessageReading.{MessageReading}
use Rattle.http_messages.specs.declared.messages.MessageReading.TheVariants.{Whole, More, Refused}

-- the message that a request's slices show
abbrev pub message_of : Request → Message
message_of r = record {
  posts = r.posts;
  target = r.target.now;
  token = option_map (λ t. t.now) r.token;
  closes = r.closes;
  body = r.body.now;
}

-- how many values there are, and which if there is one
abbrev pub IsFound : FieldValues → List (List ℕ) → Type 0
IsFound Absent values = values ≡ []
IsFound (One v) values = values ≡ v.now ∷ []
IsFound Many values = 1 < length values

-- What the bytes so far are. More is answered for fewer bytes than the longest request has, 8,192 and 65,536,
-- so a buffer of that size never has to grow.
abbrev pub IsReading : List ℕ → MessageReading → Type 0
IsReading input (Whole request len) =
    (len ≤ length input) × HasMessage input (message_of request) (drop len input)
IsReading input More = (length input < 73728) × IsCut input
IsReading input (Refused BadHead) = IsBadHead input
IsReading input (Refused TooLong) = IsTooLong input

-- the head that the parser found in the window, the first bytes of the input
pub record IsParsed
    (input window : List ℕ) (r : RequestSpans) (headers : List HeaderSpan) (h : RequestHead) : Type 0 where
  pub head : HasHead input h (drop r.len input)
  pub len : r.len ≤ length input
  pub short : r.len ≤ 8192
  pub method : span_bytes window r.method ≡ h.method
  pub target : span_bytes window r.path ≡ h.target
  pub minor : r.version ≡ h.minor
  pub pairs : map (header_bytes window) headers ≡ pairs_of h
