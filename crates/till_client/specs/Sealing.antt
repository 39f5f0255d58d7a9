-- What a request's bytes say to the server.
use Rattle.std.specs.Prelude.{◌≡◌, ⊤, ℕ, List, [], Some, true}
use Rattle.http_messages.specs.Message.{Message}
use Rattle.http_messages.specs.Input.{HasMessage}
use Rattle.shop_model.specs.Values.{Text, Command}
use Rattle.shop_model.specs.Machine.{Do}
use Rattle.shop_model.specs.Books.{Counter}
use Rattle.counter_routes.specs.Readings.{reading_of}
use Rattle.counter_routes.specs.Words.{Meaning}
use Rattle.till_client.specs.declared.sealed.NotSealed.{NotSealed}
use Rattle.till_client.specs.declared.sealed.NotSealed.TheVariants.{Other, Memory}

-- the bytes are this message, whole, and nothing else; the message has this token, and the connection ends after its reply
pub record IsSole (bytes : List ℕ) (token : Text) (message : Message) : Type 0 where
  pub whole : HasMessage bytes message []
  pub token_is : message.token ≡ Some token
  pub closes : message.closes ≡ true

-- The bytes are one such message. By the definitions of the server's own readers, a message with these bytes is this command, whatever branch sends it.
pub record SaysCommand (bytes : List ℕ) (token : Text) (command : Command) : Type 0 where
  pub message : Message
  pub sole : IsSole bytes token message
  pub asks : (meaning : Meaning) (b : ℕ) → reading_of meaning message (Counter b) ≡ Do command

-- the bytes say no command, or there was no memory for one
abbrev pub IsUnsealed : NotSealed → List ℕ → Text → Type 0
IsUnsealed Other bytes token = (command : Command) → ¬ (SaysCommand bytes token command)
IsUnsealed Memory bytes token = ⊤
