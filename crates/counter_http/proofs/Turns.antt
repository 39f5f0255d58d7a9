-- Turns of a connection, one after another.
use Rattle.std.proofs.Common.{length-drop}
use Rattle.shop_types.proofs.Common.{◌≡◌, ◌⊎◌, inl, inr, ℕ, ◌+◌, ◌-◌, ◌<◌, ◌≤◌, List, [], ◌∷◌, ◌++◌, length, drop, arith, length-append, refl, sym, subst, ap}
use Rattle.shop_types.proofs.Common.{◌∙◌, append_assoc, append-nil, Option, Some, None, All, map-append, All-nil, All-append, flat_map-append, nat_tests}
use Rattle.shop_types.proofs.Common.{Appends, Consumes, Consumes-nil, Appends-nil, Appends-trans, Consumes-trans}
use Rattle.http_messages.specs.Message.{Message}
use Rattle.http_messages.specs.Input.{HasMessage, HasMessages}
use Rattle.http_messages.specs.Shown.{IsReading}
use Rattle.http_messages.specs.declared.messages.MessageFault.{MessageFault}
use Rattle.http_messages.specs.declared.messages.MessageFault.TheVariants.{BadHead, TooLong}
use Rattle.http_messages.specs.declared.messages.MessageReading.TheVariants.{Refused as NoMessage}
use Rattle.http_messages.proofs.StreamLemmas.{HasMessages-append}
use Rattle.counter_http.specs.Exchanges.{Exchange, text_of, texts, messages_of, GoesOn, HasRun}
use Rattle.counter_http.specs.Served.{EndsWith, IsRefused, fault_text}
use Rattle.counter_http.specs.Phases.{ConnectionState, opened, IsOfLast, GoesOrEnds, IsTurn}
use Rattle.counter_http.specs.declared.inbox.TheConstants.{ROOM}
use Rattle.counter_http.specs.declared.machine.After.{After}
use Rattle.counter_http.specs.declared.machine.After.TheVariants.{Asks, Fails}
use Rattle.counter_http.specs.declared.connection.End.{End}
use Rattle.counter_http.specs.declared.connection.End.TheVariants.{Closed, Cut, Asked, Limit, Refused, StoreFailed}

-- a connection that goes on may answer another request, and what it has read has room
abbrev pub MayAnswer : ConnectionState → Type 0
MayAnswer line = (line.ending ≡ None → line.replies < line.most) × (length line.inbox ≤ ROOM)

pub opened_may_answer : (most : ℕ) → MayAnswer (opened most)
opened_may_answer most = ((λ live. grind (arith, nat_tests)), omega arith)

-- 1 if the connection goes on
abbrev pub live : Option End → ℕ
live None = 1
live (Some end) = 0

none_some : {A : Type 0} (end : End) (ending : Option End) → ending ≡ None → ending ≡ Some end → A
none_some end ending goes is = absurd (clash (sym goes ∙ is))
  where
    clash : None ≡ Some end → ⊥
    clash e = cc

pub refused_is : (input : List ℕ) (fault : MessageFault) → IsReading input (NoMessage fault) → IsRefused fault input
refused_is input BadHead x = x
refused_is input TooLong x = x

-- what is left after a message has room too
pub drop_near : (n : ℕ) (xs : List ℕ) → length xs ≤ ROOM → length (drop n xs) ≤ ROOM
drop_near n xs near = omega (arith, length-drop n xs)

-- ---- one step

-- bytes were written, or nothing was done
pub turn_sent : (old : ConnectionState) (unsent : List ℕ) (Ran : List Exchange → Type 0) (input output written : Option (List ℕ)) (sent : List ℕ)
    → MayAnswer old → Appends output written sent → old.unsent ≡ sent ++ unsent → Ran []
    → IsTurn old (record old { unsent = unsent }) Ran input input output written
turn_sent old unsent Ran input output written sent may appends parts start = record {
  read = [];
  exchanges = [];
  last = [];
  sent = sent;
  consumed = Consumes-nil input;
  ran = record { splits = sym (append-nil old.inbox); ran = start };
  writes = appends;
  splits = append-nil old.unsent ∙ parts;
  refused = inl refl;
  alone = inl (refl, refl);
  near = may.1;
  stopped = λ end is. (refl, refl, refl, refl, is);
  goes = λ live. let lt = may.0 live in rw live (All-nil GoesOn, omega arith, refl);
  count = omega arith;
  kept = refl;
}

pub turn_none : (line : ConnectionState) (Ran : List Exchange → Type 0) (input output : Option (List ℕ))
    → MayAnswer line → Ran [] → IsTurn line line Ran input input output output
turn_none line Ran input output may start = turn_sent line line.unsent Ran input output output [] may (Appends-nil output) refl start

-- bytes were read, and they may be the last
pub turn_read : (old : ConnectionState) (inbox : List ℕ) (ending : Option End) (Ran : List Exchange → Type 0) (input left output : Option (List ℕ)) (more : List ℕ)
    → old.ending ≡ None → Consumes input left more → inbox ≡ old.inbox ++ more → length inbox ≤ ROOM
    → GoesOrEnds ending (old.most - old.replies) [] left inbox [] → Ran []
    → IsTurn old (record old { inbox = inbox; ending = ending }) Ran input left output output
turn_read old inbox ending Ran input left output more live consumes grown near goes start = record {
  near = near;
  read = more;
  exchanges = [];
  last = [];
  sent = [];
  consumed = consumes;
  ran = record { splits = grown; ran = start };
  writes = Appends-nil output;
  splits = append-nil old.unsent;
  refused = inl refl;
  alone = inl (refl, refl);
  stopped = λ end is. none_some end old.ending live is;
  goes = λ none. goes;
  count = omega arith;
  kept = refl;
}

-- bytes were read, and more may come
pub turn_grown : (old : ConnectionState) (inbox : List ℕ) (Ran : List Exchange → Type 0) (input left output : Option (List ℕ)) (more : List ℕ)
    → MayAnswer old → old.ending ≡ None → Consumes input left more → inbox ≡ old.inbox ++ more → length inbox ≤ ROOM → Ran []
    → IsTurn old (record old { inbox = inbox }) Ran input left output output
turn_grown old inbox Ran input left output more may live consumes grown near start =
    turn_read old inbox old.ending Ran input left output more live consumes grown near
    (let lt = may.0 live in rw live (All-nil GoesOn, omega arith, refl)) start

-- one more message was answered, and nothing was left to write before
pub turn_answer : (old new : ConnectionState) (Ran : List Exchange → Type 0) (input output : Option (List ℕ)) (e : Exchange)
    → old.unsent ≡ [] → old.ending ≡ None → HasMessage old.inbox e.message new.inbox → length new.inbox ≤ ROOM → new.unsent ≡ text_of e.answer
    → new.replies ≡ old.replies + 1 → new.most ≡ old.most → GoesOrEnds new.ending (old.most - old.replies) (e ∷ []) input new.inbox [] → Ran (e ∷ [])
    → IsTurn old new Ran input input output output
turn_answer old new Ran input output e empty live has near told one same goes ran = record {
  near = near;
  read = [];
  exchanges = e ∷ [];
  last = [];
  sent = [];
  consumed = Consumes-nil input;
  ran = record { splits = (new.inbox, rw (append-nil old.inbox) has, refl); ran = ran };
  writes = Appends-nil output;
  splits = rw (empty, append-nil (text_of e.answer ++ []), append-nil (text_of e.answer)) (sym told);
  refused = inl refl;
  alone = inr (inl ([], e, [], refl, refl, sym told));
  stopped = λ end is. none_some end old.ending live is;
  goes = λ none. goes;
  count = one;
  kept = same;
}

-- a text that is no message was refused
pub turn_refusal : (old : ConnectionState) (Ran : List Exchange → Type 0) (input output : Option (List ℕ)) (fault : MessageFault)
    → MayAnswer old → old.unsent ≡ [] → old.ending ≡ None → IsRefused fault old.inbox → Ran []
    → IsTurn old (record old { unsent = fault_text fault; ending = Some Refused }) Ran input input output output
turn_refusal old Ran input output fault may empty live refused start = record {
  read = [];
  exchanges = [];
  last = fault_text fault;
  sent = [];
  consumed = Consumes-nil input;
  ran = record { splits = sym (append-nil old.inbox); ran = start };
  writes = Appends-nil output;
  splits = ap (λ (l : List ℕ). l ++ fault_text fault) empty;
  refused = inr refl;
  alone = inr (inr ([], refl));
  stopped = λ end is. none_some end old.ending live is;
  near = may.1;
  goes = λ none. let lt = may.0 live in (All-nil GoesOn, omega arith, fault, refused, refl);
  count = omega arith;
  kept = refl;
}

-- ---- one turn after another

HasMessages-join : (input mid rest : List ℕ) (ms ns : List Message) → HasMessages input ms mid → HasMessages mid ns rest → HasMessages input (ms ++ ns) rest
HasMessages-join input mid rest [] ns none second = subst (λ (l : List ℕ). HasMessages l ns rest) none second
HasMessages-join input mid rest (m ∷ ms) ns (after, has, first) second = (after, has, HasMessages-join after mid rest ms ns first second)

-- if `Both` follows from `First` and `Second`, it holds of two stretches together
ran_then : (First Second Both : List Exchange → Type 0) (inbox one two mid rest : List ℕ) (es more : List Exchange)
    → HasRun First (inbox ++ one) es mid → HasRun Second (mid ++ two) more rest → (First es → Second more → Both (es ++ more))
    → HasRun Both (inbox ++ (one ++ two)) (es ++ more) rest
ran_then First Second Both inbox one two mid rest es more x y joins = record {
  splits = rw (map-append (λ (e : Exchange). e.message) es more, ← append_assoc inbox one two)
      (HasMessages-join ((inbox ++ one) ++ two) (mid ++ two) rest (messages_of es) (messages_of more)
      (HasMessages-append (inbox ++ one) two (messages_of es) mid x.splits) y.splits);
  ran = joins x.ran y.ran;
}

ends_behind : (after : After) (es more : List Exchange) → All GoesOn es → EndsWith after more → EndsWith after (es ++ more)
ends_behind after es more goes ends = (
  es ++ ends.0,
  ends.1,
  ap (λ (l : List Exchange). es ++ l) ends.2 ∙ sym (append_assoc es ends.0 (ends.1 ∷ [])),
  All-append GoesOn es ends.0 goes ends.3,
  ends.4,
)

-- if the connection goes on after some exchanges, more exchanges may follow
goes_behind : (ending : Option End) (most n : ℕ) (es more : List Exchange) (left : Option (List ℕ)) (rest last : List ℕ)
    → All GoesOn es → length es < most → n ≡ most - length es → GoesOrEnds ending n more left rest last
    → GoesOrEnds ending most (es ++ more) left rest last
goes_behind None most n es more left rest last goes few is (all, lt, none) = (All-append GoesOn es more goes all, omega (arith, length-append es more), none)
goes_behind (Some Closed) most n es more left rest last goes few is (all, lt, at_end, nothing, none) =
    (All-append GoesOn es more goes all, omega (arith, length-append es more), at_end, nothing, none)
goes_behind (Some Cut) most n es more left rest last goes few is (all, lt, at_end, some, cut, none) =
    (All-append GoesOn es more goes all, omega (arith, length-append es more), at_end, some, cut, none)
goes_behind (Some Refused) most n es more left rest last goes few is (all, lt, fault, refused, told) =
    (All-append GoesOn es more goes all, omega (arith, length-append es more), fault, refused, told)
goes_behind (Some Limit) most n es more left rest last goes few is (all, eq, none) =
    (All-append GoesOn es more goes all, omega (arith, length-append es more), none)
goes_behind (Some Asked) most n es more left rest last goes few is (ends, le, none) =
    (ends_behind Asks es more goes ends, omega (arith, length-append es more), none)
goes_behind (Some StoreFailed) most n es more left rest last goes few is (ends, le, none) =
    (ends_behind Fails es more goes ends, omega (arith, length-append es more), none)

-- after more is written, what is left to write is still part of the last reply
alone_still : (es : List Exchange) (last mid sent unsent : List ℕ) → mid ≡ sent ++ unsent → IsOfLast es last mid → IsOfLast es last unsent
alone_still es last mid sent unsent parts (inl none) = inl none
alone_still es last mid sent unsent parts (inr (inl (front, e, part, is, none, told))) =
    inr (inl (front, e, part ++ sent, is, none, told ∙ ap (λ (l : List ℕ). part ++ l) parts ∙ sym (append_assoc part sent unsent)))
alone_still es last mid sent unsent parts (inr (inr (part, is))) =
    inr (inr (part ++ sent, is ∙ ap (λ (l : List ℕ). part ++ l) parts ∙ sym (append_assoc part sent unsent)))

-- after more is answered, what is left to write is still part of the last reply
alone_then : (es more : List Exchange) (last behind mid sent unsent : List ℕ) → mid ++ (texts more ++ behind) ≡ sent ++ unsent
    → (last ≡ []) ⊎ ((more ≡ []) × (behind ≡ [])) → IsOfLast es last mid → IsOfLast more behind unsent → IsOfLast (es ++ more) (last ++ behind) unsent
alone_then es more last behind mid sent unsent parts order x y = by order y
  where
    nothing_more : more ≡ [] → behind ≡ [] → IsOfLast (es ++ more) (last ++ behind) unsent
    nothing_more none none_too =
        let parts' : mid ≡ sent ++ unsent = sym (append-nil mid) ∙ (rw (none, none_too) at parts) in
        rw (none, none_too, append-nil es, append-nil last) (alone_still es last mid sent unsent parts' x)

    by : (last ≡ []) ⊎ ((more ≡ []) × (behind ≡ [])) → IsOfLast more behind unsent → IsOfLast (es ++ more) (last ++ behind) unsent
    by (inr (none, none_too)) any = nothing_more none none_too
    by (inl none) (inl (none_more, none_too)) = nothing_more none_more none_too
    by (inl none) (inr (inl (front, e, part, is, none_too, told))) =
        inr (inl (
          es ++ front,
          e,
          part,
          ap (λ (l : List Exchange). es ++ l) is ∙ sym (append_assoc es front (e ∷ [])),
          ap (λ (l : List ℕ). l ++ behind) none ∙ none_too,
          told,
        ))
    by (inl none) (inr (inr (part, is))) = inr (inr (part, ap (λ (l : List ℕ). l ++ behind) none ∙ is))

-- two turns one after another: what both read, answered and wrote
pub turn_then : {old mid new : ConnectionState} {First Second Both : List Exchange → Type 0} {input left after output written later : Option (List ℕ)}
    → IsTurn old mid First input left output written → IsTurn mid new Second left after written later
    → ((es more : List Exchange) → First es → Second more → Both (es ++ more))
    → IsTurn old new Both input after output later
turn_then {old} {mid} {new} {First} {Second} {Both} {input} {left} {after} {output} {written} {later} x y joins = record {
  read = x.read ++ y.read;
  exchanges = x.exchanges ++ y.exchanges;
  last = x.last ++ y.last;
  sent = x.sent ++ y.sent;
  consumed = Consumes-trans input left after x.read y.read x.consumed y.consumed;
  ran = ran_then First Second Both old.inbox x.read y.read mid.inbox new.inbox x.exchanges y.exchanges x.ran y.ran (joins x.exchanges y.exchanges);
  writes = Appends-trans output written later x.sent y.sent x.writes y.writes;
  splits = joined old.unsent mid.unsent new.unsent x.sent y.sent x.exchanges y.exchanges x.last y.last x.splits y.splits (order x.refused);
  refused = last_of x.refused y.refused;
  alone = alone_then x.exchanges y.exchanges x.last y.last mid.unsent y.sent new.unsent y.splits (order x.refused) x.alone y.alone;
  near = y.near;
  stopped = λ end is. both (x.stopped end is) (y.stopped end ((x.stopped end is).4));
  goes = λ none. goes_by mid.ending refl (x.goes none);
  count = let e = x.count in let f = y.count in omega (arith, length-append x.exchanges y.exchanges);
  kept = y.kept ∙ x.kept;
}
  where
    -- after the reply to a text that is no message nothing is answered
    order : (x.last ≡ []) ⊎ (mid.ending ≡ Some Refused) → (x.last ≡ []) ⊎ ((y.exchanges ≡ []) × (y.last ≡ []))
    order (inl none) = inl none
    order (inr ends) = let stop = y.stopped Refused ends in inr (stop.2, stop.3)

    last_of : (x.last ≡ []) ⊎ (mid.ending ≡ Some Refused) → (y.last ≡ []) ⊎ (new.ending ≡ Some Refused) → (x.last ++ y.last ≡ []) ⊎ (new.ending ≡ Some Refused)
    last_of (inr ends) any = inr ((y.stopped Refused ends).4)
    last_of (inl none) (inr ends) = inr ends
    last_of (inl none) (inl none_too) = inl (ap (λ (l : List ℕ). l ++ y.last) none ∙ none_too)

    both : {end : End}
        → (x.read ≡ []) × (left ≡ input) × (x.exchanges ≡ []) × (x.last ≡ []) × (mid.ending ≡ Some end)
        → (y.read ≡ []) × (after ≡ left) × (y.exchanges ≡ []) × (y.last ≡ []) × (new.ending ≡ Some end)
        → (x.read ++ y.read ≡ []) × (after ≡ input) × (x.exchanges ++ y.exchanges ≡ []) × (x.last ++ y.last ≡ []) × (new.ending ≡ Some end)
    both {end} (a, b, c, d, e) (f, g, h, i, j) = (
      ap (λ (l : List ℕ). l ++ y.read) a ∙ f,
      g ∙ b,
      ap (λ (l : List Exchange). l ++ y.exchanges) c ∙ h,
      ap (λ (l : List ℕ). l ++ y.last) d ∙ i,
      j,
    )

    kept_inbox : (read : List ℕ) (es : List Exchange) → read ≡ [] → es ≡ [] → HasMessages (mid.inbox ++ read) (messages_of es) new.inbox → new.inbox ≡ mid.inbox
    kept_inbox read es none nobody has =
        let has' = rw (none, nobody) at has in
        has' ∙ append-nil mid.inbox

    -- if the first stretch ended the connection, the second does nothing; else the second's exchanges follow the first's
    goes_by : (ending : Option End) → mid.ending ≡ ending → GoesOrEnds ending (old.most - old.replies) x.exchanges left mid.inbox x.last
        → GoesOrEnds new.ending (old.most - old.replies) (x.exchanges ++ y.exchanges) after new.inbox (x.last ++ y.last)
    goes_by None is (all, few, none) =
        let e = x.count in let f = x.kept in
        rw none
        (goes_behind new.ending (old.most - old.replies)
        (mid.most - mid.replies) x.exchanges y.exchanges after new.inbox y.last all few (omega arith) (y.goes is))
    goes_by (Some end) is ends =
        let stop = y.stopped end is in
        let inbox : new.inbox ≡ mid.inbox = kept_inbox y.read y.exchanges stop.0 stop.2 y.ran.splits in
        rw (stop.4, stop.1, stop.2, stop.3, inbox, append-nil x.exchanges, append-nil x.last) ends

    chained : (u v w s t m n : List ℕ) → u ++ m ≡ s ++ v → v ++ n ≡ t ++ w → u ++ (m ++ n) ≡ (s ++ t) ++ w
    chained u v w s t m n p q =
        sym (append_assoc u m n) ∙ ap (λ (l : List ℕ). l ++ n) p ∙ append_assoc s v n ∙ ap (λ (l : List ℕ). s ++ l) q ∙ sym (append_assoc s t w)

    same_text : (es more : List Exchange) (last behind : List ℕ) → (last ≡ []) ⊎ ((more ≡ []) × (behind ≡ []))
        → texts (es ++ more) ++ (last ++ behind) ≡ (texts es ++ last) ++ (texts more ++ behind)
    same_text es more last behind (inl none) =
        rw (none, append-nil (texts es), flat_map-append (λ (e : Exchange). text_of e.answer) es more) (append_assoc (texts es) (texts more) behind)
    same_text es more last behind (inr (none, none_too)) =
        rw (none, none_too, append-nil es, append-nil last, append-nil (texts es ++ last)) refl

    joined : (u v w s t : List ℕ) (es more : List Exchange) (last behind : List ℕ)
        → u ++ (texts es ++ last) ≡ s ++ v → v ++ (texts more ++ behind) ≡ t ++ w → (last ≡ []) ⊎ ((more ≡ []) × (behind ≡ []))
        → u ++ (texts (es ++ more) ++ (last ++ behind)) ≡ (s ++ t) ++ w
    joined u v w s t es more last behind p q order =
        ap (λ (l : List ℕ). u ++ l) (same_text es more last behind order) ∙ chained u v w s t (texts es ++ last) (texts more ++ behind) p q

-- a turn, with another statement on its exchanges
pub turn_as :
    {old new : ConnectionState} {Ran Ran' : List Exchange → Type 0} {input left output written : Option (List ℕ)} (x : IsTurn old new Ran input left output written)
    → Ran' x.exchanges → IsTurn old new Ran' input left output written
turn_as {old} {new} {Ran} {Ran'} {input} {left} {output} {written} x ran = record {
  read = x.read;
  exchanges = x.exchanges;
  last = x.last;
  sent = x.sent;
  consumed = x.consumed;
  ran = record { splits = x.ran.splits; ran = ran };
  writes = x.writes;
  splits = x.splits;
  refused = x.refused;
  alone = x.alone;
  near = x.near;
  stopped = x.stopped;
  goes = x.goes;
  count = x.count;
  kept = x.kept;
}

-- a turn, and after it another in which nothing was answered
pub turn_on : {old mid new : ConnectionState} {Ran : List Exchange → Type 0} {input left after output written later : Option (List ℕ)}
    → IsTurn old mid Ran input left output written → IsTurn mid new (λ es. es ≡ []) left after written later → IsTurn old new Ran input after output later
turn_on {old} {mid} {new} {Ran} x y =
    turn_then x y (λ es more ran none. subst Ran (sym (append-nil es) ∙ ap (λ (l : List Exchange). es ++ l) (sym none)) ran)
