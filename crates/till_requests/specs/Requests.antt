-- What the bytes of requests say to the server.
use Rattle.std.specs.Prelude.{◌≡◌, ⊤, ℕ, Bool, false, List, [], ◌∷◌, ◌++◌, codes, string_bytes, None, Some}
use Rattle.http_messages.specs.Text.{crlf}
use Rattle.http_messages.specs.Message.{Message}
use Rattle.shop_model.specs.Values.{Text, Act, Command, Ask, OfficeAsk, OfficeCommand}
use Rattle.shop_model.specs.Machine.{Request, Look, Office, OfficeLook}
use Rattle.shop_model.specs.Books.{Counter, HeadOffice}
use Rattle.counter_routes.specs.Readings.{reading_of}
use Rattle.counter_routes.specs.Words.{Meaning, texts_of}
use Rattle.till_client.specs.Sealing.{IsSole}
use Rattle.till_client.specs.Requests.{before_token}
use Rattle.office_words.specs.CommandLine as line
use Rattle.office_words.specs.Line.{line_of}
use Rattle.till_requests.specs.declared.bodies.Giver.{Giver}
use Rattle.till_requests.specs.declared.office.NotSaid.{NotSaid}
use Rattle.till_requests.specs.declared.office.NotSaid.TheVariants as fault

-- the giver's command that does that act
abbrev pub command_with : Giver → Act → Command
command_with giver act = record { key = string_bytes giver.key; staff = giver.staff; moment = giver.at; act = act }

abbrev pub behind_token : List ℕ
behind_token = crlf ++ codes "connection: close" ++ crlf ++ crlf

-- a GET with that token and target; the connection ends after the reply
abbrev pub get_text : List ℕ → List ℕ → List ℕ
get_text token target = codes "GET " ++ target ++ before_token ++ token ++ behind_token

-- The bytes are one message with that token. Whatever branch sends that message, it asks for exactly that request.
-- What a message asks for is by the server's own definition, `reading_of`.
pub record AsksBranch (bytes : List ℕ) (token : Text) (request : Request) : Type 0 where
  pub message : Message
  pub sole : IsSole bytes token message
  pub asks : (meaning : Meaning) (b : ℕ) → reading_of meaning message (Counter b) ≡ request

-- the bytes say that look
abbrev pub SaysLook : List ℕ → Text → Ask → Type 0
SaysLook bytes token ask = AsksBranch bytes token (Look ask)

-- The bytes are one message with that token, and its body lists these words.
-- From head office, that message asks for exactly that request: the meaning of the words.
pub record AsksOffice (bytes : List ℕ) (token : Text) (words : List Text) (request : Request) : Type 0 where
  pub message : Message
  pub sole : IsSole bytes token message
  pub listed : texts_of message.body ≡ Some words
  pub asks : reading_of line_of message HeadOffice ≡ request

-- the bytes say those words, and the words are that command of head office
abbrev pub SaysOffice : List ℕ → Text → List Text → OfficeCommand → Type 0
SaysOffice bytes token words command = AsksOffice bytes token words (Office command)

-- the bytes say those words, and the words are that reading of head office
abbrev pub SaysOfficeLook : List ℕ → Text → List Text → OfficeAsk → Type 0
SaysOfficeLook bytes token words ask = AsksOffice bytes token words (OfficeLook ask)

-- the words, followed by `--key` and the key
abbrev pub with_key : Text → List Text → List Text
with_key key words = words ++ codes "--key" ∷ key ∷ []

-- the first word asks for a reading
abbrev pub is_reading : List Text → Bool
is_reading [] = false
is_reading (word ∷ words) = line.is_reading word

-- the words are no command and no reading of head office, by the definition that the server's reader of words is proved against
abbrev pub IsNoLine : List Text → Type 0
IsNoLine words = line_of words ≡ None

-- Only words that are none have a fault about how words are given. Of other faults nothing is said.
abbrev pub IsFaultOf : List Text → NotSaid → Type 0
IsFaultOf words (fault.Usage text) = IsNoLine words
IsFaultOf words fault.Other = ⊤
IsFaultOf words fault.Memory = ⊤
