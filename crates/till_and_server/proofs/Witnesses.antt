-- The witnesses of a till's book, and the outcome of its entries.
use Rattle.shop_model.proofs.Common.{◌≡◌, ◌≢◌, ◌∙◌, inl, inr, ℕ, zero, suc, List, [], ◌∷◌, ◌++◌, true, Some, None, refl, sym, subst, ap, slice_get, Text}
use Rattle.shop_model.proofs.Common.{Command, Rules, Do, Answer, Books, Event, Counter, state_of, is_decided, Asks, Life, history_of, begun}
use Rattle.sqlite_trees.specs.declared.store.Store.{Ghosts}
use Rattle.http_messages.specs.Message.{Message}
use Rattle.http_messages.specs.Input.{HasMessage}
use Rattle.http_messages.proofs.StreamLemmas.{HasMessage-unique}
use Rattle.shop_model.proofs.RowLemmas.{differ_test}
use Rattle.shop_model.proofs.Resends.{same_some, same_none}
use Rattle.counter_routes.specs.Readings.{reading_of}
use Rattle.counter_routes.specs.Words.{Meaning}
use Rattle.chain_requests.specs.Holding.{Chained}
use Rattle.counter_http.specs.Events.{event_of}
use Rattle.counter_http.specs.Exchanges.{Exchange, RunsOver}
use Rattle.till_model.specs.Tills.{Entry}
use Rattle.till_model.specs.Numbered.{has_mark}
use Rattle.till_model.specs.Laws.{entries_of, WasAnswered}
use Rattle.till_model.proofs.Numbered.{numbered_own}
use Rattle.till_model.proofs.Press.{press_to_disk}
use Rattle.till_client.specs.Sealing.{SaysCommand}
use Rattle.till_book.specs.Saying.{Says, Say}
use Rattle.till_and_server.specs.ServedLives.{ServedLife, life_of, lives_of}
use Rattle.till_and_server.specs.Lives.{StandIn, WasRecorded, ComeFromEntries}
use Rattle.till_and_server.specs.Laws.{one_exchange, RunsOne, OneEventIsRun, ExchangesAreWitnesses, TillAndServer}
use Rattle.till_and_server.proofs.OneConnection.{message_read, answer_read}
use Rattle.till_and_server.proofs.InLives.{unmapped_at, are_answered}
use Rattle.till_and_server.proofs.Came.{AllAsked, all_served, lives_came}

over_one : {S : Type 0} (g : Ghosts S) (meaning : Meaning) (old new : Chained S) (m : Message) (answer : Answer) (exchanges : List Exchange)
    → exchanges ≡ one_exchange m answer
    → RunsOver g meaning old new exchanges → RunsOne g meaning old new m answer
over_one {S} g meaning old new m answer exchanges is ran =
    let over : RunsOver g meaning old new (one_exchange m answer) = subst (λ (es : List Exchange). RunsOver g meaning old new es) is ran in
    over.takes

pub event_run : {S : Type 0} (g : Ghosts S) → OneEventIsRun g
event_run {S} g = record {
  wherever = λ meaning old new request token command says till server serving most exchanges writes carries serves ran.
      elim (message_read request token command says till server serving most exchanges writes carries serves) [
        | inl none ↦ inl (ran.same none)
        | inr (answer, one, came) ↦ inr (answer, over_one g meaning old new says.message answer exchanges one ran, came)
      ];
  answered = λ meaning old new request token command says answer exchanges it ran.
      over_one g meaning old new says.message answer exchanges (answer_read request token command says answer exchanges it).0 ran;
}

-- ---- the book's entries

pub record Said (commands : List Command) (k : ℕ) (request : List ℕ) : Type 0 where
  pub command : Command
  pub there : slice_get commands k ≡ Some command
  pub says : Says request command

pub said_at : (entries : List (List ℕ)) (commands : List Command) (k : ℕ) (request : List ℕ)
    → Say entries commands → slice_get entries k ≡ Some request → Said commands k request
said_at [] [] k request say e = absurd (same_none request e)
said_at [] (c ∷ cs) k request say e = absurd say
said_at (x ∷ xs) [] k request say e = absurd say
said_at (x ∷ xs) (c ∷ cs) zero request say e = record { command = c; there = refl; says = subst (λ (it : List ℕ). Says it c) (same_some x request e) say.0 }
said_at (x ∷ xs) (c ∷ cs) (suc k) request say e = let it = said_at xs cs k request say.1 e in record { command = it.command; there = it.there; says = it.says }

-- the command is an entry's
abbrev IsEntrys : List Command → List Answer → Command → Type 0
IsEntrys commands replies command = (i : ℕ) × (entry : Entry) × (slice_get (entries_of commands replies) i ≡ Some entry) × (entry.command ≡ command)

entry_at : (commands : List Command) (replies : List Answer) (k : ℕ) (c command : Command)
    → slice_get commands k ≡ Some c → c ≡ command → IsEntrys commands replies command
entry_at commands replies k c command there is = found commands replies k there
  where
    found : (commands : List Command) (replies : List Answer) (k : ℕ) → slice_get commands k ≡ Some c → IsEntrys commands replies command
    found [] replies k e = absurd (same_none c e)
    found (x ∷ cs) [] zero e = (0, record { command = x; reply = None }, refl, same_some x c e ∙ is)
    found (x ∷ cs) [] (suc k) e = let it = found cs [] k e in (suc it.0, it.1, it.2, it.3)
    found (x ∷ cs) (a ∷ answers) zero e = (0, record { command = x; reply = Some a }, refl, same_some x c e ∙ is)
    found (x ∷ cs) (a ∷ answers) (suc k) e = let it = found cs answers k e in (suc it.0, it.1, it.2, it.3)

same_command : (one two : Command) → Do one ≡ Do two → one ≡ two
same_command one two e = cc

-- a message with an entry's bytes asks for the command that the bytes say
said_same : (meaning : Meaning) (b : ℕ) (request : List ℕ) (token : Text) (m : Message) (event : Event) (command other : Command)
    → HasMessage request m [] → SaysCommand request token other
    → event_of meaning m ≡ event → event.request (Counter b) ≡ Do command → other ≡ command
said_same meaning b request token m event command other has says is what =
    let same : m ≡ says.message = (HasMessage-unique request m says.message [] [] has says.sole.whole).0 in
    let asked : reading_of meaning m (Counter b) ≡ Do command = ap (λ (it : Event). it.request (Counter b)) is ∙ what in
    let said : reading_of meaning m (Counter b) ≡ Do other = ap (λ (it : Message). reading_of meaning it (Counter b)) same ∙ says.asks meaning b in
    same_command other command (sym said ∙ asked)

asked_of_entries :
    (mark : Text) (rules : Rules) (b : ℕ) (entries : List (List ℕ)) (commands : List Command) (replies : List Answer) (lives : List ServedLife) (old : Books)
    → Say entries commands → ComeFromEntries mark rules b entries lives old → (n : ℕ) (life : Life) → slice_get (lives_of lives) n ≡ Some life
    → AllAsked (has_mark mark) rules b (IsEntrys commands replies) life.events life.answers (begun rules (lives_of lives) old n)
asked_of_entries mark rules b entries commands replies lives old say come n life there i command asks marked =
    let l = unmapped_at life_of lives n life there in
    let served = l.0 in
    let here : Asks rules (life_of served).events (life_of served).answers (begun rules (lives_of lives) old n) i (Counter b) (Do command) =
    subst (λ (it : Life). Asks rules it.events it.answers (begun rules (lives_of lives) old n) i (Counter b) (Do command)) (sym l.2) asks in
    let e = unmapped_at (λ (it : Exchange). event_of served.meaning it.message) served.exchanges i here.event here.stands in
    let k = come n i served e.0 command l.1 e.1 here marked in
    let s = said_at entries commands k.0 k.1 say k.2 in
    let same = said_same served.meaning b k.1 s.says.0 e.0.message here.event command s.command k.3 s.says.1 e.2 here.what in
    entry_at commands replies k.0 s.command command s.there same

-- ---- the book's replies

pub decision : (answer : Answer) → answer.status ≢ 503 → is_decided answer ≡ true
decision answer isnt = rw (differ_test answer.status 503 isnt) refl

pub was_answered : (rules : Rules) (b : ℕ) (lives : List ServedLife) (old : Books) (request : List ℕ) (command : Command) (answer : Answer)
    → Says request command
    → WasRecorded rules b lives old request answer → WasAnswered rules b (lives_of lives) old command answer
was_answered rules b lives old request command answer (token, says) it =
    let one = answer_read request token command says answer it.exchanges it.exchanged in
    let stand : StandIn lives (one_exchange says.message answer) = record {
      at_life = it.stand.at_life;
      life = it.stand.life;
      lived = it.stand.lived;
      front = it.stand.front;
      back = it.stand.back;
      parts = it.stand.parts ∙ ap (λ (es : List Exchange). it.stand.front ++ (es ++ it.stand.back)) one.0;
    } in
    are_answered rules b lives old request token command says answer stand (it.own token command says)

pub are_witnesses : ExchangesAreWitnesses
are_witnesses mark rules b journal commands lives old book come recorded = record {
  come = λ n it there.
      all_served (has_mark mark) rules b (IsEntrys commands journal.replies) (history_of (lives_of lives)) old (state_of b old) n it
      (lives_came (has_mark mark) rules b (IsEntrys commands journal.replies) (lives_of lives) old
      (asked_of_entries mark rules b journal.entries commands journal.replies lives old book.says come)) there;
  answered = λ i command answer at_command at_reply.
      let it = recorded i answer at_reply in
      let s = said_at journal.entries commands i it.0 book.says it.1 in
      let same : s.command ≡ command = same_some s.command command (sym s.there ∙ at_command) in
      was_answered rules b lives old it.0 command answer (subst (λ (c : Command). Says it.0 c) same s.says) it.2;
  decided = λ i answer at_reply. let it = recorded i answer at_reply in decision answer it.2.decided;
}

pub till_and_server : TillAndServer
till_and_server mark rules look b journal commands lives old new lived numbers unused book come recorded =
    press_to_disk (has_mark mark) rules look b commands journal.replies (lives_of lives) old new lived numbers unused
    (record {
      own = numbered_own mark commands journal.replies book.numbered;
      witnessed = are_witnesses mark rules b journal commands lives old book come recorded;
    })
