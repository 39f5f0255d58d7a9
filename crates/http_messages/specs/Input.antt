-- What the rest of an input begins with: a message, or the reason why there is none.
-- The limits, 8,192 bytes and 32 fields of a head and 65,536 bytes of a body, are of our own profile.
use Rattle.std.specs.Prelude.{◌≡◌, ℕ, ◌≤◌, ◌<◌, ◌⊎◌, List, [], ◌∷◌, ◌++◌, length, take, drop, Some, None}
use Rattle.httparse.specs.Grammar.{RequestHead, print_request, ReadsRequest, EndsInTarget}
use Rattle.httparse.specs.Spans.{RequestOverflows}
use Rattle.http_messages.specs.Message.{Message, message, body_size}

-- the input is that head, of at most 8,192 bytes and 32 fields, and then rest
pub record HasHead (input : List ℕ) (h : RequestHead) (rest : List ℕ) : Type 0 where
  pub reads : ReadsRequest input h rest
  pub short : length (print_request h) ≤ 8192
  pub few : length h.fields ≤ 32

-- the input begins with no such head
abbrev pub HasNoHead : List ℕ → Type 0
HasNoHead input = (h : RequestHead) (rest : List ℕ) → ¬ (HasHead input h rest)

-- some prefix of at most 8,192 bytes can't be continued to a head, of any length, of at most 32 fields
pub record CannotBegin (input : List ℕ) : Type 0 where
  pub front : List ℕ
  pub rest : List ℕ
  pub parts : input ≡ front ++ rest
  pub short : length front ≤ 8192
  pub never : RequestOverflows 32 front

-- the bytes end before the end of a head with more than 32 fields
abbrev pub MayHaveMoreFields : List ℕ → Type 0
MayHaveMoreFields front =
    (more : List ℕ) × (h : RequestHead) × (0 < length more) × ReadsRequest (front ++ more) h []
    × (32 < length h.fields)

-- Bytes that can't begin a head may end inside a target, whose UTF-8 is tested at its end. Or they end inside or
-- after a 33rd field and before the head's empty line. Then it is left open whether they are refused already.
abbrev pub IsOpen : List ℕ → Type 0
IsOpen front = EndsInTarget front ⊎ MayHaveMoreFields front

-- there is no head, and the bytes can be continued to one, except where that is left open
pub record IsHeadless (input : List ℕ) : Type 0 where
  pub none : HasNoHead input
  pub begins : CannotBegin input → IsOpen (take 8192 input)

-- a head that is not refused, whose body has this size
pub record HasBody (input : List ℕ) (h : RequestHead) (rest : List ℕ) (size : ℕ) : Type 0 where
  pub head : HasHead input h rest
  pub size_is : body_size h ≡ Some size

-- the input begins with that message, and then rest
abbrev pub HasMessage : List ℕ → Message → List ℕ → Type 0
HasMessage input m rest =
    (h : RequestHead) × (after : List ℕ) × (size : ℕ) × HasBody input h after size
    × (size ≤ 65536) × (size ≤ length after) × (m ≡ message h (take size after)) × (rest ≡ drop size after)

-- `bad_head`: no head can begin so, or the head's method, `transfer-encoding` or `content-length` is refused
abbrev pub IsBadHead : List ℕ → Type 0
IsBadHead input =
    CannotBegin input
    ⊎ ((h : RequestHead) × (rest : List ℕ) × HasHead input h rest × (body_size h ≡ None))

-- `too_long`: no head ends within 8,192 bytes, or the body has more than 65,536 bytes
abbrev pub IsTooLong : List ℕ → Type 0
IsTooLong input =
    ((8192 ≤ length input) × IsHeadless input)
    ⊎ ((h : RequestHead) × (rest : List ℕ) × (size : ℕ) × HasBody input h rest size × (65536 < size))

-- the input ends inside a head or a body, or before the first byte
abbrev pub IsCut : List ℕ → Type 0
IsCut input =
    ((length input < 8192) × IsHeadless input)
    ⊎ ((h : RequestHead) × (rest : List ℕ) × (size : ℕ) × HasBody input h rest size
    × (size ≤ 65536) × (length rest < size))

-- the input begins with these messages, and then rest
abbrev pub HasMessages : List ℕ → List Message → List ℕ → Type 0
HasMessages input [] rest = rest ≡ input
HasMessages input (m ∷ ms) rest = (after : List ℕ) × HasMessage input m after × HasMessages after ms rest
