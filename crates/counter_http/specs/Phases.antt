-- What turns of a connection read, answer and write.
use Rattle.std.specs.Prelude.{◌≡◌, ◌⊎◌, ℕ, ◌+◌, ◌-◌, ◌<◌, ◌≤◌, ◌==◌, if◌then◌else◌, List, [], ◌∷◌, ◌++◌, length, All, Option, Some, None}
use Rattle.std.specs.Io.KnownBytes.{Consumes, Appends}
use Rattle.http_messages.specs.Input.{IsCut}
use Rattle.counter_http.specs.Exchanges.{Exchange, text_of, texts, GoesOn, HasRun}
use Rattle.counter_http.specs.Served.{IsEnd}
use Rattle.counter_http.specs.declared.connection.End.{End}
use Rattle.counter_http.specs.declared.connection.End.TheVariants.{Refused, Limit}
use Rattle.counter_http.specs.declared.inbox.TheConstants.{ROOM}
use Rattle.counter_http.specs.declared.machine.Phase.{Phase}
use Rattle.counter_http.specs.declared.machine.Phase.TheVariants.{Reads, Writes, Ready, Ended}
use Rattle.counter_http.specs.declared.machine.TurnFault.{TurnFault}
use Rattle.counter_http.specs.declared.machine.TurnFault.TheVariants.{Read, Write}

-- What a connection has of its own: the bytes that were read and not answered, and the bytes still to be written. It has also how many requests were answered,
-- and how many may be. If the connection ends after the bytes still to be written, `ending` says why.
pub record ConnectionState : Type 0 where
  pub inbox : List ℕ
  pub unsent : List ℕ
  pub replies : ℕ
  pub most : ℕ
  pub ending : Option End

-- a connection before its first read; if no request may be answered, the connection ends before the first
abbrev pub opened : ℕ → ConnectionState
opened most = record { inbox = []; unsent = []; replies = 0; most = most; ending = if most == 0 then Some Limit else None }

-- after these exchanges, at most `most`, the connection goes on, or ends for the given reason
abbrev pub GoesOrEnds : Option End → ℕ → List Exchange → Option (List ℕ) → List ℕ → List ℕ → Type 0
GoesOrEnds None most exchanges left rest last = All GoesOn exchanges × (length exchanges < most) × (last ≡ [])
GoesOrEnds (Some end) most exchanges left rest last = IsEnd end most exchanges left rest last

-- If something is left to write, how many requests have their whole reply. What is left belongs to the reply to a text that is no message, or to the last
-- request.
abbrev pub told_of : Option End → ℕ → ℕ
told_of (Some Refused) replies = replies
told_of ending replies = replies - 1

-- what is left to write is part of the last reply: the bytes of the earlier replies are written
abbrev pub IsOfLast : List Exchange → List ℕ → List ℕ → Type 0
IsOfLast exchanges last unsent =
    ((exchanges ≡ []) × (last ≡ []))
    ⊎ (((front : List Exchange) × (e : Exchange) × (part : List ℕ) × (exchanges ≡ front ++ e ∷ []) × (last ≡ []) × (text_of e.answer ≡ part ++ unsent))
    ⊎ ((part : List ℕ) × (last ≡ part ++ unsent)))

-- Some turns of a connection. They read some bytes. The unanswered bytes of before and the new bytes are the messages of the exchanges and a rest. `Ran` holds
-- of the exchanges. `last` is the reply to a text that is no message. What was left to write, the texts of the answers and `last` are together what the turns
-- wrote and what is left now. What is left is part of the last reply. If the connection was to end, nothing more is read or answered. The rest has no more
-- bytes than a connection has room for.
pub record IsTurn (old new : ConnectionState) (Ran : List Exchange → Type 0) (input left output written : Option (List ℕ)) : Type 0 where
  pub read : List ℕ
  pub exchanges : List Exchange
  pub last : List ℕ
  pub sent : List ℕ
  pub consumed : Consumes input left read
  pub ran : HasRun Ran (old.inbox ++ read) exchanges new.inbox
  pub writes : Appends output written sent
  pub splits : old.unsent ++ (texts exchanges ++ last) ≡ sent ++ new.unsent
  pub refused : (last ≡ []) ⊎ (new.ending ≡ Some Refused)
  pub alone : IsOfLast exchanges last new.unsent
  pub stopped : (end : End) → old.ending ≡ Some end → (read ≡ []) × (left ≡ input) × (exchanges ≡ []) × (last ≡ []) × (new.ending ≡ Some end)
  pub goes : old.ending ≡ None → GoesOrEnds new.ending (old.most - old.replies) exchanges left new.inbox last
  pub near : length new.inbox ≤ ROOM
  pub count : new.replies ≡ old.replies + length exchanges
  pub kept : new.most ≡ old.most

-- What the connection waits for after a turn of at most `most` requests. It waits for bytes only if no whole message is left, and for its peer only if
-- something is to be written. It waits for its next turn only after `most` requests.
abbrev pub IsPhase : Phase → ℕ → ConnectionState → ConnectionState → Type 0
IsPhase Reads most old new = (new.unsent ≡ []) × (new.ending ≡ None) × IsCut new.inbox
IsPhase Writes most old new = 0 < length new.unsent
IsPhase Ready most old new = (new.unsent ≡ []) × (new.ending ≡ None) × (new.replies ≡ old.replies + most)
IsPhase (Ended end) most old new = (new.unsent ≡ []) × (new.ending ≡ Some end)

-- At what point a turn fails. A write fails only with something left to write. A read fails only if each reply is written and no whole message is left.
abbrev pub IsTurnFault : TurnFault → ConnectionState → Type 0
IsTurnFault Write new = 0 < length new.unsent
IsTurnFault Read new = (new.unsent ≡ []) × (new.ending ≡ None) × IsCut new.inbox
