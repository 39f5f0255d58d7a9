-- A connection that is served alone.
use Rattle.shop_types.proofs.Common.{◌≡◌, ◌⊎◌, ℕ, ◌+◌, ◌-◌, ◌==◌, ◌<◌, Bool, true, false, inl, inr, List, [], ◌∷◌, ◌++◌, length, refl, sym, ap, ◌∙◌, arith}
use Rattle.shop_types.proofs.Common.{append-nil, append_assoc, length-append, eqb-true, Option, Some, None, All, if◌then◌else◌, same_from_push}
use Rattle.shop_types.proofs.Common.{append_cancel_right, All-nil, All-pop, flat_map-append, Answer, problem_answer}
use Rattle.sqlite_trees.specs.declared.store.Store.{Ghosts}
use Rattle.http_messages.specs.Text.{head_text}
use Rattle.http_messages.specs.declared.messages.MessageFault.{MessageFault}
use Rattle.http_messages.specs.declared.messages.MessageFault.TheVariants.{BadHead, TooLong}
use Rattle.shop_model.specs.Refusals as named
use Rattle.counter_http.specs.Exchanges.{Exchange, text_of, texts, GoesOn}
use Rattle.counter_http.specs.Served.{IsEnd, IsServed, IsReadFault, IsWriteFault, IsFault, fault_text, fault_replies}
use Rattle.counter_http.specs.Phases.{ConnectionState, opened, told_of, IsOfLast, GoesOrEnds, IsTurn, IsTurnFault}
use Rattle.counter_http.specs.Together.{TurnsServe}
use Rattle.counter_http.specs.declared.connection.Served.{Served}
use Rattle.counter_http.specs.declared.connection.ServeFault.{ServeFault}
use Rattle.counter_http.specs.declared.connection.ServeFault.TheVariants as kind
use Rattle.counter_http.specs.declared.connection.End.{End}
use Rattle.counter_http.specs.declared.connection.End.TheVariants.{Closed, Cut, Asked, Limit, Refused, StoreFailed}
use Rattle.counter_http.specs.declared.machine.TurnFault.TheVariants as turn
use Rattle.counter_http.proofs.Runs.{ran_as}
use Rattle.counter_http.proofs.Turns.{opened_may_answer, turn_none}

-- ---- when the turns end the connection

-- a new connection ends only if no request is allowed
opened_ends : (most : ℕ) (end : End) → (opened most).ending ≡ Some end → (end ≡ Limit) × (most ≡ 0)
opened_ends most end is = by_test (most == 0) refl is
  where
    by_test : (none : Bool) → (most == 0) ≡ none → (if none then Some Limit else None) ≡ Some end → (end ≡ Limit) × (most ≡ 0)
    by_test true e is = (cc, eqb-true most 0 e)
    by_test false e is = absurd cc

ended : (most : ℕ) (line : ConnectionState) (end first : End) (Ran : List Exchange → Type 0) (input left output written : Option (List ℕ))
    → (x : IsTurn (opened most) line Ran input left output written) → line.ending ≡ Some end → (opened most).ending ≡ Some first
    → IsEnd end most x.exchanges left line.inbox x.last
ended most line end first Ran input left output written x ends is =
    let stop = x.stopped first is in
    let limit = opened_ends most first is in
    let same : end ≡ Limit = let e : Some end ≡ Some first = sym ends ∙ stop.4 in cc in
    rw (same, stop.2, stop.3, limit.1) (All-nil GoesOn, refl, refl)

pub served_by : (most : ℕ) (line : ConnectionState) (end : End) (Ran : List Exchange → Type 0) (input left output written : Option (List ℕ))
    → IsTurn (opened most) line Ran input left output written → (line.unsent ≡ []) × (line.ending ≡ Some end)
    → IsServed (record { replies = line.replies + fault_replies end; end = end }) most Ran input left output written
served_by most line end Ran input left output written x (empty, ends) = record {
  read = x.read;
  exchanges = x.exchanges;
  rest = line.inbox;
  last = x.last;
  consumed = x.consumed;
  ran = x.ran;
  near = x.near;
  writes = let all : texts x.exchanges ++ x.last ≡ x.sent = x.splits ∙ ap (λ (l : List ℕ). x.sent ++ l) empty ∙ append-nil x.sent in rw all x.writes;
  count = let e = x.count in omega arith;
  ends = ends_by (opened most).ending refl;
}
  where
    ends_by : (first : Option End) → (opened most).ending ≡ first → IsEnd end most x.exchanges left line.inbox x.last
    ends_by None is =
        let all : most - 0 ≡ most = omega arith in
        rw (ends, all) at (x.goes is)
    ends_by (Some first) is = ended most line end first Ran input left output written x ends is

pub turns_serve : {S : Type 0} (g : Ghosts S) → TurnsServe g
turns_serve {S} g meaning old new most line end input left output written x empty ends = served_by most line end _ input left output written x (empty, ends)

-- if no request is allowed
pub served_none : (Ran : List Exchange → Type 0) (input output : Option (List ℕ)) → Ran []
    → IsServed (record { replies = 0; end = Limit }) 0 Ran input input output output
served_none Ran input output start =
    served_by 0 (opened 0) Limit Ran input input output output (turn_none (opened 0) Ran input output (opened_may_answer 0) start) (refl, refl)

-- ---- when a read or a write fails

opened_lives : (most : ℕ) → 0 < most → (opened most).ending ≡ None
opened_lives most some = by_test (most == 0) refl
  where
    by_test : (none : Bool) → (most == 0) ≡ none → (if none then Some Limit else None) ≡ None
    by_test true e = let none : most ≡ 0 = eqb-true most 0 e in absurd (omega arith)
    by_test false e = refl

goes_by : (most : ℕ) (line : ConnectionState) (Ran : List Exchange → Type 0) (input left output written : Option (List ℕ)) → 0 < most
    → (x : IsTurn (opened most) line Ran input left output written) → GoesOrEnds line.ending most x.exchanges left line.inbox x.last
goes_by most line Ran input left output written some x =
    let all : most - 0 ≡ most = omega arith in
    rw all at (x.goes (opened_lives most some))

pub read_fails : (most : ℕ) (line : ConnectionState) (Ran : List Exchange → Type 0) (input left output written : Option (List ℕ)) → 0 < most
    → IsTurn (opened most) line Ran input left output written → IsTurnFault turn.Read line
    → IsReadFault line.replies most Ran input left output written
read_fails most line Ran input left output written some x (empty, live, cut) =
    let goes = rw live at (goes_by most line Ran input left output written some x) in
    let all : texts x.exchanges ≡ x.sent =
    sym (append-nil (texts x.exchanges)) ∙ ap (λ (l : List ℕ). texts x.exchanges ++ l) (sym goes.2)
    ∙ x.splits ∙ ap (λ (l : List ℕ). x.sent ++ l) empty ∙ append-nil x.sent in
    record {
      read = x.read;
      exchanges = x.exchanges;
      rest = line.inbox;
      consumed = x.consumed;
      ran = x.ran;
      writes = rw all x.writes;
      near = x.near;
      count = let e = x.count in omega arith;
      few = let e = x.count in omega (arith, goes.1);
      waits = cut;
      goes = goes.0;
    }

texts-snoc : (es : List Exchange) (e : Exchange) → texts (es ++ e ∷ []) ≡ texts es ++ text_of e.answer
texts-snoc es e =
    flat_map-append (λ (x : Exchange). text_of x.answer) es (e ∷ []) ∙ ap (λ (l : List ℕ). texts es ++ l) (append-nil (text_of e.answer))

-- after the exchanges before the last one, the connection goes on
goes_before : (ending : Option End) (most : ℕ) (front : List Exchange) (e : Exchange) (left : Option (List ℕ)) (rest last : List ℕ)
    → GoesOrEnds ending most (front ++ e ∷ []) left rest last → All GoesOn front × (length front < most)
goes_before ending most front e left rest last is = by ending is
  where
    long : length (front ++ e ∷ []) ≡ length front + 1
    long = length-append front (e ∷ [])

    before : All GoesOn (front ++ e ∷ []) → All GoesOn front
    before all = (All-pop GoesOn (front ++ e ∷ []) front (Some e) refl all).0

    same : (front' : List Exchange) (e' : Exchange) → front ++ e ∷ [] ≡ front' ++ e' ∷ [] → All GoesOn front' → All GoesOn front
    same front' e' is all = let it = same_from_push front front' e e' is in rw it.0 all

    by : (ending : Option End) → GoesOrEnds ending most (front ++ e ∷ []) left rest last → All GoesOn front × (length front < most)
    by None is = (before is.0, omega (arith, long, is.1))
    by (Some Closed) is = (before is.0, omega (arith, long, is.1))
    by (Some Cut) is = (before is.0, omega (arith, long, is.1))
    by (Some Refused) is = (before is.0, omega (arith, long, is.1))
    by (Some Limit) is = (before is.0, omega (arith, long, is.1))
    by (Some Asked) is = (same is.0.0 is.0.1 is.0.2 is.0.3, omega (arith, long, is.1))
    by (Some StoreFailed) is = (same is.0.0 is.0.1 is.0.2 is.0.3, omega (arith, long, is.1))

some_text : (answer : Answer) → text_of answer ≡ [] → ⊥
unfolding head_text
some_text answer e = cc

some_refusal : (fault : MessageFault) → fault_text fault ≡ [] → ⊥
some_refusal BadHead e = some_text (problem_answer named.BadHead) e
some_refusal TooLong e = some_text (problem_answer (named.Decision named.TooLong)) e

-- if the connection wrote no reply to a text that is no message, `told_of` leaves out the last request
told_before : (ending : Option End) (most : ℕ) (es : List Exchange) (left : Option (List ℕ)) (rest last : List ℕ) → GoesOrEnds ending most es left rest last
    → last ≡ [] → (replies : ℕ) → told_of ending replies ≡ replies - 1
told_before None most es left rest last is none replies = refl
told_before (Some Closed) most es left rest last is none replies = refl
told_before (Some Cut) most es left rest last is none replies = refl
told_before (Some Refused) most es left rest last (all, few, fault, refused, told) none replies = absurd (some_refusal fault (sym told ∙ none))
told_before (Some Limit) most es left rest last is none replies = refl
told_before (Some Asked) most es left rest last is none replies = refl
told_before (Some StoreFailed) most es left rest last is none replies = refl

pub write_fails : (most : ℕ) (line : ConnectionState) (Ran : List Exchange → Type 0) (input left output written : Option (List ℕ)) → 0 < most
    → IsTurn (opened most) line Ran input left output written → IsTurnFault turn.Write line
    → IsWriteFault (told_of line.ending line.replies) most Ran input left output written
write_fails most line Ran input left output written some x unfinished = by x.alone
  where
    goes : GoesOrEnds line.ending most x.exchanges left line.inbox x.last
    goes = goes_by most line Ran input left output written some x

    -- what was sent is all texts without what is left to write
    sent_is : (front : List ℕ) → texts x.exchanges ++ x.last ≡ front ++ line.unsent → x.sent ≡ front
    sent_is front is = append_cancel_right x.sent front line.unsent (sym x.splits ∙ is)

    refused : (part : List ℕ) → x.last ≡ part ++ line.unsent → (x.last ≡ []) ⊎ (line.ending ≡ Some Refused)
        → IsWriteFault (told_of line.ending line.replies) most Ran input left output written
    refused part is (inl nothing) = absurd (omega (arith, ap length (sym nothing ∙ is), length-append part line.unsent))
    refused part is (inr ends) =
        let ended = rw ends at goes in
        let sent =
        sent_is (texts x.exchanges ++ part) (ap (λ (l : List ℕ). texts x.exchanges ++ l) is ∙ sym (append_assoc (texts x.exchanges) part line.unsent)) in
        record {
          read = x.read;
          exchanges = x.exchanges;
          failed = [];
          rest = line.inbox;
          part = part;
          more = line.unsent;
          consumed = x.consumed;
          ran = rw (append-nil x.exchanges) x.ran;
          writes = rw (← sent) x.writes;
          near = x.near;
          unfinished = unfinished;
          cut = inr (refl, (ended.2, ended.3, sym ended.4 ∙ is));
          count = rw ends (let e = x.count in omega arith);
          few = rw ends (let e = x.count in omega (arith, ended.1));
          goes = ended.0;
        }

    by : IsOfLast x.exchanges x.last line.unsent → IsWriteFault (told_of line.ending line.replies) most Ran input left output written
    by (inl (nobody, nothing)) =
        let none : [] ≡ x.sent ++ line.unsent = rw (nobody, nothing) at x.splits in
        absurd (omega (arith, ap length none, length-append x.sent line.unsent))
    by (inr (inl (front, e, part, is, nothing, told))) =
        let goes' = goes_before line.ending most front e left line.inbox x.last (rw is at goes) in
        let all : texts x.exchanges ++ x.last ≡ (texts front ++ part) ++ line.unsent =
        ap (λ (l : List ℕ). texts x.exchanges ++ l) nothing ∙ append-nil (texts x.exchanges) ∙ ap (λ (es : List Exchange). texts es) is ∙ texts-snoc front e
        ∙ ap (λ (l : List ℕ). texts front ++ l) told ∙ sym (append_assoc (texts front) part line.unsent) in
        let sent = sent_is (texts front ++ part) all in
        let before : told_of line.ending line.replies ≡ line.replies - 1 =
        told_before line.ending most x.exchanges left line.inbox x.last goes nothing line.replies in
        let count = x.count in
        record {
          read = x.read;
          exchanges = front;
          failed = e ∷ [];
          rest = line.inbox;
          part = part;
          more = line.unsent;
          consumed = x.consumed;
          ran = rw (← is) x.ran;
          writes = rw (← sent) x.writes;
          near = x.near;
          unfinished = unfinished;
          cut = inl (e, refl, told);
          count = omega (arith, ap length is, length-append front (e ∷ []));
          few = omega (arith, ap length is, length-append front (e ∷ []), goes'.1);
          goes = goes'.0;
        }
    by (inr (inr (part, is))) = refused part is x.refused

-- ---- the same with another statement on the run

pub served_as : (served : Served) (most : ℕ) (Ran Ran' : List Exchange → Type 0) (input left output written : Option (List ℕ))
    → IsServed served most Ran input left output written
    → ((es : List Exchange) → Ran es → Ran' es) → IsServed served most Ran' input left output written
served_as served most Ran Ran' input left output written x tell = record {
  read = x.read;
  exchanges = x.exchanges;
  rest = x.rest;
  last = x.last;
  consumed = x.consumed;
  ran = ran_as Ran Ran' x.read x.exchanges x.rest x.ran tell;
  writes = x.writes;
  near = x.near;
  count = x.count;
  ends = x.ends;
}

pub fault_as : (fault : ServeFault) (most : ℕ) (Ran Ran' : List Exchange → Type 0) (input left output written : Option (List ℕ))
    → IsFault fault most Ran input left output written
    → ((es : List Exchange) → Ran es → Ran' es) → IsFault fault most Ran' input left output written
fault_as kind.Memory most Ran Ran' input left output written x tell = (tell [] x.0, x.1, x.2)
fault_as (kind.Read replies) most Ran Ran' input left output written x tell = record {
  few = x.few;
  waits = x.waits;
  read = x.read;
  exchanges = x.exchanges;
  rest = x.rest;
  consumed = x.consumed;
  near = x.near;
  ran = ran_as Ran Ran' x.read x.exchanges x.rest x.ran tell;
  writes = x.writes;
  count = x.count;
  goes = x.goes;
}
fault_as (kind.Write replies) most Ran Ran' input left output written x tell = record {
  few = x.few;
  read = x.read;
  exchanges = x.exchanges;
  failed = x.failed;
  rest = x.rest;
  part = x.part;
  more = x.more;
  consumed = x.consumed;
  near = x.near;
  ran = ran_as Ran Ran' x.read (x.exchanges ++ x.failed) x.rest x.ran tell;
  writes = x.writes;
  unfinished = x.unfinished;
  cut = x.cut;
  count = x.count;
  goes = x.goes;
}
