-- Bytes that are one message, and the command that they say.
use Rattle.shop_types.proofs.Common.{◌≡◌, ◌∙◌, ◌≤◌, ℕ, List, [], length, drop, refl, sym, ap, arith, Some, None, Option, Bool, true, false, not, subst}
use Rattle.shop_types.proofs.Common.{length-drop, bytes_eq, bytes_eq-Decides, false≢true, Text, Command, Do, Result, IfErr}
use Rattle.http_messages.specs.Message.{Message}
use Rattle.http_messages.specs.Input.{HasMessage}
use Rattle.http_messages.specs.Shown.{IsReading}
use Rattle.http_messages.specs.declared.messages.Request.{Request as Slices}
use Rattle.http_messages.specs.declared.messages.MessageReading.{MessageReading}
use Rattle.http_messages.specs.declared.messages.MessageReading.TheVariants.{Whole, More, Refused}
use Rattle.http_messages.specs.declared.messages.MessageFault.TheVariants.{BadHead, TooLong}
use Rattle.http_messages.proofs.StreamLemmas.{HasMessage-unique, HasMessage-not-bad, HasMessage-not-long, HasMessage-not-cut}
use Rattle.counter_routes.specs.Readings.{counter_request}
use Rattle.counter_routes.specs.Words.{Meaning}
use Rattle.std.specs.Prelude.{Ok, Err}
use Rattle.till_client.specs.declared.sealed.NotSealed.{NotSealed}
use Rattle.till_client.specs.declared.sealed.NotSealed.TheVariants.{Other, Memory}
use Rattle.till_client.specs.Sealing.{IsSole, SaysCommand, IsUnsealed}
use Rattle.till_client.specs.Laws.{OneCommand}

no_meaning : Meaning
no_meaning = λ _. None

same_command : (one two : Command) → Do one ≡ Do two → one ≡ two
same_command one two e = cc

pub one_command : OneCommand
one_command bytes token other one two says said =
    let same = HasMessage-unique bytes says.message said.message [] [] says.sole.whole said.sole.whole in
    same_command one two (sym (says.asks no_meaning 0) ∙ ap counter_request same.0 ∙ said.asks no_meaning 0)

-- what is read from the bytes is this message, and it takes all bytes
pub is_read : (bytes : List ℕ) (token : Text) (len : ℕ) (m message : Message)
    → len ≤ length bytes → HasMessage bytes m (drop len bytes) → IsSole bytes token message
    → (m ≡ message) × (len ≡ length bytes)
is_read bytes token len m message fits has sole =
    let same = HasMessage-unique bytes m message (drop len bytes) [] has sole.whole in
    let none : length (drop len bytes) ≡ 0 = ap length same.1 in
    (same.0, omega (arith, none, length-drop len bytes))

-- if the bytes say a command, their message reads as this command
pub asks_other : (bytes : List ℕ) (token : Text) (m : Message) (command : Command)
    → IsSole bytes token m → SaysCommand bytes token command → counter_request m ≡ Do command
asks_other bytes token m command sole says =
    let same = HasMessage-unique bytes m says.message [] [] sole.whole says.sole.whole in
    ap counter_request same.0 ∙ says.asks no_meaning 0

-- ---- bytes that are no such message

pub not_read : (bytes : List ℕ) (r : MessageReading) → IsReading bytes r
    → ((m : Slices) (len : ℕ) → r ≡ Whole m len → ⊥) → (message : Message) → HasMessage bytes message [] → ⊥
not_read bytes (Whole m len) is other message has = other m len refl
not_read bytes More is other message has = HasMessage-not-cut bytes message [] has is.1
not_read bytes (Refused BadHead) is other message has = HasMessage-not-bad bytes message [] has is
not_read bytes (Refused TooLong) is other message has = HasMessage-not-long bytes message [] has is

none_some : (token : Text) → ◌≡◌ {A = Option Text} None (Some token) → ⊥
none_some token e = cc

some_same : (one two : Text) → ◌≡◌ {A = Option Text} (Some one) (Some two) → one ≡ two
some_same one two e = cc

pub no_token : (token : Text) (m message : Message) → m ≡ message → m.token ≡ None → message.token ≡ Some token → ⊥
no_token token m message same none some = none_some token (sym none ∙ ap (λ (it : Message). it.token) same ∙ some)

pub other_token : (token digits : Text) (m message : Message) → m ≡ message
    → m.token ≡ Some digits → message.token ≡ Some token → true ≡ not (bytes_eq digits token) → ⊥
other_token token digits m message same here there differ =
    let is : digits ≡ token = some_same digits token (sym here ∙ ap (λ (it : Message). it.token) same ∙ there) in
    let yes' : bytes_eq digits token ≡ true = (bytes_eq-Decides digits token).1 is in
    clash (bytes_eq digits token) yes' differ
  where
    clash : (b : Bool) → b ≡ true → true ≡ not b → ⊥
    clash true e n = false≢true (sym n)
    clash false e n = false≢true e

pub stays_open : (m message : Message) → m ≡ message → m.closes ≡ false → message.closes ≡ true → ⊥
stays_open m message same isnt is = false≢true (sym isnt ∙ ap (λ (it : Message). it.closes) same ∙ is)

-- ---- bytes that are read with their own token

pub same_message : (bytes : List ℕ) (token : Text) (m : Message) {rest : List ℕ} (command : Command)
    → HasMessage bytes m rest → (says : SaysCommand bytes token command) → m ≡ says.message
same_message bytes token m {rest = rest} command has says = (HasMessage-unique bytes m says.message rest [] has says.sole.whole).0

-- bytes that say no command with their own token say no command with any token
pub unsealed_of : {A : Type 0} (bytes : List ℕ) (digits : Text) (m : Message) {rest : List ℕ} (r : Result A NotSealed)
    → HasMessage bytes m rest → m.token ≡ Some digits
    → IfErr r (λ fault. IsUnsealed fault bytes digits) → IfErr r (λ fault. (token : Text) → IsUnsealed fault bytes token)
unsealed_of bytes digits m {rest = rest} (Ok x) has token_is is = tt
unsealed_of bytes digits m {rest = rest} (Err Other) has token_is is = λ token command says.
    let same = same_message bytes token m {rest = rest} command has says in
    let own : digits ≡ token = some_same digits token (sym token_is ∙ ap (λ (it : Message). it.token) same ∙ says.sole.token_is) in
    is command (subst (λ (t : Text). SaysCommand bytes t command) (sym own) says)
unsealed_of bytes digits m {rest = rest} (Err Memory) has token_is is = λ token. tt
