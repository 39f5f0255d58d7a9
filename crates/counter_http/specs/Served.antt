-- How a connection ends, and what was read, answered and written by then.
use Rattle.std.specs.Prelude.{◌≡◌, ◌≢◌, ℕ, ◌+◌, ◌<◌, ◌≤◌, ◌⊎◌, true, false, List, [], ◌∷◌, ◌++◌, length, All, Option}
use Rattle.std.specs.Io.KnownBytes.{Consumes, Appends, Keeps, IsAtEnd}
use Rattle.http_messages.specs.Input.{IsBadHead, IsTooLong, IsCut}
use Rattle.http_messages.specs.declared.messages.MessageFault.{MessageFault}
use Rattle.http_messages.specs.declared.messages.MessageFault.TheVariants.{BadHead, TooLong}
use Rattle.shop_model.specs.Refusals as named
use Rattle.shop_model.specs.Answers.{problem_answer}
use Rattle.shop_model.specs.Histories.{is_store_failure}
use Rattle.counter_http.specs.Exchanges.{Exchange, text_of, texts, GoesOn, HasRun}
use Rattle.counter_http.specs.declared.inbox.TheConstants.{ROOM}
use Rattle.counter_http.specs.declared.connection.End.{End}
use Rattle.counter_http.specs.declared.connection.End.TheVariants.{Closed, Cut, Asked, Limit, Refused, StoreFailed}
use Rattle.counter_http.specs.declared.connection.Served.{Served}
use Rattle.counter_http.specs.declared.connection.ServeFault.{ServeFault}
use Rattle.counter_http.specs.declared.connection.ServeFault.TheVariants.{Read, Write, Memory}
use Rattle.counter_http.specs.declared.machine.After.{After}
use Rattle.counter_http.specs.declared.machine.After.TheVariants.{Goes, Asks, Fails}

-- what an exchange means for the connection; if the store failed, its failure ends the connection
abbrev pub IsAfter : After → Exchange → Type 0
IsAfter Goes exchange = GoesOn exchange
IsAfter Asks exchange = (is_store_failure exchange.answer ≡ false) × (exchange.message.closes ≡ true)
IsAfter Fails exchange = is_store_failure exchange.answer ≡ true

-- the connection goes on after each exchange but the last, which is of this kind
abbrev pub EndsWith : After → List Exchange → Type 0
EndsWith after exchanges =
    (front : List Exchange) × (last : Exchange) × (exchanges ≡ front ++ last ∷ []) × All GoesOn front × IsAfter after last

-- the bytes sent for a text that is no message
abbrev pub fault_text : MessageFault → List ℕ
fault_text BadHead = text_of (problem_answer named.BadHead)
fault_text TooLong = text_of (problem_answer (named.Decision named.TooLong))

-- the rest of what was read is at fault
abbrev pub IsRefused : MessageFault → List ℕ → Type 0
IsRefused BadHead rest = IsBadHead rest
IsRefused TooLong rest = IsTooLong rest

-- why the connection ended, after these exchanges and at this rest of what was read; `last` is written after the texts of the exchanges
abbrev pub IsEnd : End → ℕ → List Exchange → Option (List ℕ) → List ℕ → List ℕ → Type 0
IsEnd Closed most exchanges left rest last = All GoesOn exchanges × (length exchanges < most) × IsAtEnd left × (rest ≡ []) × (last ≡ [])
IsEnd Cut most exchanges left rest last = All GoesOn exchanges × (length exchanges < most) × IsAtEnd left × (rest ≢ []) × IsCut rest × (last ≡ [])
IsEnd Refused most exchanges left rest last =
    All GoesOn exchanges × (length exchanges < most) × (fault : MessageFault) × IsRefused fault rest × (last ≡ fault_text fault)
IsEnd Limit most exchanges left rest last = All GoesOn exchanges × (length exchanges ≡ most) × (last ≡ [])
IsEnd Asked most exchanges left rest last = EndsWith Asks exchanges × (length exchanges ≤ most) × (last ≡ [])
IsEnd StoreFailed most exchanges left rest last = EndsWith Fails exchanges × (length exchanges ≤ most) × (last ≡ [])

-- a text that is no message has its reply too
abbrev pub fault_replies : End → ℕ
fault_replies Refused = 1
fault_replies Closed = 0
fault_replies Cut = 0
fault_replies Limit = 0
fault_replies Asked = 0
fault_replies StoreFailed = 0

-- What was read is some messages and a rest, which has no more bytes than a connection has room for. `Ran` says how the chain ran over the messages. The bytes
-- of its answers were written in order. If a text that is no message followed, the bytes of the reply to it were written last.
pub record IsServed (served : Served) (most : ℕ) (Ran : List Exchange → Type 0) (input left output written : Option (List ℕ)) : Type 0 where
  pub read : List ℕ
  pub exchanges : List Exchange
  pub rest : List ℕ
  pub last : List ℕ
  pub consumed : Consumes input left read
  pub ran : HasRun Ran read exchanges rest
  pub writes : Appends output written (texts exchanges ++ last)
  pub near : length rest ≤ ROOM
  pub count : served.replies ≡ length exchanges + fault_replies served.end
  pub ends : IsEnd served.end most exchanges left rest last

-- a read failed after these exchanges, fewer than were allowed; the rest is the start of a message, and no whole message is left unanswered
pub record IsReadFault (replies most : ℕ) (Ran : List Exchange → Type 0) (input left output written : Option (List ℕ)) : Type 0 where
  pub read : List ℕ
  pub exchanges : List Exchange
  pub rest : List ℕ
  pub consumed : Consumes input left read
  pub ran : HasRun Ran read exchanges rest
  pub writes : Appends output written (texts exchanges)
  pub near : length rest ≤ ROOM
  pub count : replies ≡ length exchanges
  pub few : replies < most
  pub waits : IsCut rest
  pub goes : All GoesOn exchanges

-- A write failed, in the answer to one more message or in the reply to a text that is no message. The chain has acted on that message.
-- What was written is a front of the replies, and `replies` counts the whole ones.
pub record IsWriteFault (replies most : ℕ) (Ran : List Exchange → Type 0) (input left output written : Option (List ℕ)) : Type 0 where
  pub read : List ℕ
  pub exchanges : List Exchange
  pub failed : List Exchange
  pub rest : List ℕ
  pub part : List ℕ
  pub more : List ℕ
  pub consumed : Consumes input left read
  pub ran : HasRun Ran read (exchanges ++ failed) rest
  pub writes : Appends output written (texts exchanges ++ part)
  pub near : length rest ≤ ROOM
  pub unfinished : 0 < length more
  pub cut : ((exchange : Exchange) × (failed ≡ exchange ∷ []) × (text_of exchange.answer ≡ part ++ more))
      ⊎ ((failed ≡ []) × ((fault : MessageFault) × IsRefused fault rest × (fault_text fault ≡ part ++ more)))
  pub count : replies ≡ length exchanges
  pub few : replies < most
  pub goes : All GoesOn exchanges

-- a read or a write fails only after fewer replies than are allowed
abbrev pub IsFault : ServeFault → ℕ → (List Exchange → Type 0) → Option (List ℕ) → Option (List ℕ) → Option (List ℕ) → Option (List ℕ) → Type 0
IsFault Memory most Ran input left output written = Ran [] × Keeps input left × Keeps output written
IsFault (Read replies) most Ran input left output written = IsReadFault replies most Ran input left output written
IsFault (Write replies) most Ran input left output written = IsWriteFault replies most Ran input left output written
