-- The bytes that came over a connection and the bytes that were sent, whatever its outcome was.
use Rattle.shop_model.proofs.Common.{◌≡◌, ◌∙◌, ◌⊎◌, inl, inr, ℕ, ◌<◌, ◌-◌, List, [], ◌∷◌, ◌++◌, length, Option, Some, None, refl, sym, ap, subst, arith}
use Rattle.shop_model.proofs.Common.{append-nil, append_assoc, length-append, Appends, Consumes, append_cancel_left, Answer}
use Rattle.std.specs.Io.KnownBytes.{Keeps}
use Rattle.std.proofs.lemmas.Grind.{flat_map-append}
use Rattle.httparse.specs.Grammar.{print_blank, print_version, print_end, print_section}
use Rattle.httparse.proofs.GrammarLemmas.{print_request-append}
use Rattle.http_messages.specs.Message.{Message}
use Rattle.http_messages.specs.Input.{HasMessage, HasMessages}
use Rattle.http_messages.specs.declared.messages.MessageFault.{MessageFault}
use Rattle.http_messages.specs.declared.messages.MessageFault.TheVariants.{BadHead, TooLong}
use Rattle.http_messages.proofs.StreamLemmas.{HasMessage-unique, HasMessage-not-bad, HasMessage-not-long, IsBadHead-append, IsTooLong-append}
use Rattle.counter_http.specs.Exchanges.{Exchange, text_of, texts, messages_of, HasRun}
use Rattle.counter_http.specs.Served.{IsEnd, IsRefused, fault_text}
use Rattle.counter_http.specs.Phases.{ConnectionState, opened, GoesOrEnds}
use Rattle.counter_http.specs.declared.connection.End.{End}
use Rattle.counter_http.specs.declared.connection.End.TheVariants.{Closed, Cut, Asked, Limit, Refused, StoreFailed}
use Rattle.counter_http.specs.declared.connection.ServeFault.TheVariants.{Read, Write, Memory}
use Rattle.till_and_server.specs.Streams.{Streams, Serving, Ends, Breaks, Turns, ServesThese}
use Rattle.till_and_server.specs.Laws.{one_exchange}

-- A prefix of the bytes that came was read. It has the messages of the exchanges, and a rest.
pub record Reads (came : List ℕ) (exchanges : List Exchange) : Type 0 where
  pub read : List ℕ
  pub left : List ℕ
  pub rest : List ℕ
  pub reads : came ≡ read ++ left
  pub splits : HasMessages read (messages_of exchanges) rest

-- The bytes that were written are a prefix of the answers, followed by the reply to a refused rest if there is one.
pub record Talks (came sent : List ℕ) (exchanges : List Exchange) : Type 0 where
  pub it : Reads came exchanges
  pub last : List ℕ
  pub unsent : List ℕ
  pub writes : texts exchanges ++ last ≡ sent ++ unsent
  pub refused : (last ≡ []) ⊎ ((fault : MessageFault) × IsRefused fault it.rest)

-- ---- known bytes

front_of : (came read : List ℕ) (left : Option (List ℕ)) → Consumes (Some came) left read → (behind : List ℕ) × (came ≡ read ++ behind)
front_of came read None x = absurd x
front_of came read (Some behind) x = (behind, x)

grown : (held sent bytes : List ℕ) → Appends (Some held) (Some (held ++ sent)) bytes → sent ≡ bytes
grown held sent bytes x = append_cancel_left held sent bytes x

-- ---- each outcome of the server's side

end_last : (end : End) (most : ℕ) (es : List Exchange) (left : Option (List ℕ)) (rest last : List ℕ)
    → IsEnd end most es left rest last → (last ≡ []) ⊎ ((fault : MessageFault) × IsRefused fault rest)
end_last Closed most es left rest last x = inl x.4
end_last Cut most es left rest last x = inl x.5
end_last Refused most es left rest last x = inr (x.2, x.3)
end_last Limit most es left rest last x = inl x.2
end_last Asked most es left rest last x = inl x.2
end_last StoreFailed most es left rest last x = inl x.2

turn_last : (ending : Option End) (most : ℕ) (es : List Exchange) (left : Option (List ℕ)) (rest last : List ℕ)
    → GoesOrEnds ending most es left rest last → (last ≡ []) ⊎ ((fault : MessageFault) × IsRefused fault rest)
turn_last None most es left rest last x = inl x.2
turn_last (Some end) most es left rest last x = end_last end most es left rest last x

same_kept : (output written : Option (List ℕ)) → Keeps output written → Appends output written []
same_kept None written x = tt
same_kept (Some xs) None x = absurd x
same_kept (Some xs) (Some ys) x = x ∙ sym (append-nil xs)

turn_refused : (most : ℕ) (line : ConnectionState) (server : Streams) (mine : List Exchange) (x : ServesThese (Turns line) most mine server)
    → (x.last ≡ []) ⊎ ((fault : MessageFault) × IsRefused fault line.inbox)
turn_refused most line server mine x = by_ending (opened most).ending refl
  where
    by_ending : (ending : Option End) → (opened most).ending ≡ ending → (x.last ≡ []) ⊎ ((fault : MessageFault) × IsRefused fault line.inbox)
    by_ending None is = turn_last line.ending ((opened most).most - (opened most).replies) x.exchanges server.left line.inbox x.last (x.goes is)
    by_ending (Some end) is = inl (x.stopped end is).3

texts_append : (es more : List Exchange) → texts (es ++ more) ≡ texts es ++ texts more
texts_append es more = flat_map-append (λ (x : Exchange). text_of x.answer) es more

module _ (most : ℕ) (mine : List Exchange) (came : List ℕ) (server : Streams) (is_input : server.input ≡ Some came) where
  reads_these : (read : List ℕ) (es : List Exchange) (rest : List ℕ)
      → Consumes server.input server.left read → HasRun (λ it. it ≡ mine) read es rest → Reads came mine
  reads_these read es rest x ran =
      let front = front_of came read server.left (subst (λ (it : Option (List ℕ)). Consumes it server.left read) is_input x) in
      record {
        read = read;
        left = front.0;
        rest = rest;
        reads = front.1;
        splits = subst (λ (es : List Exchange). HasMessages read (messages_of es) rest) ran.ran ran.splits;
      }

  pub reads : (serving : Serving) → ServesThese serving most mine server → Reads came mine
  reads (Ends served) x = reads_these x.read x.exchanges x.rest x.consumed x.ran
  reads (Breaks (Read replies)) x = reads_these x.read x.exchanges x.rest x.consumed x.ran
  reads (Breaks (Write replies)) x = reads_these x.read (x.exchanges ++ x.failed) x.rest x.consumed x.ran
  reads (Breaks Memory) x = record {
    read = [];
    left = came;
    rest = [];
    reads = refl;
    splits = subst (λ (es : List Exchange). HasMessages [] (messages_of es) []) x.0 refl;
  }
  reads (Turns line) x = reads_these x.read x.exchanges line.inbox x.consumed (record { splits = x.ran.splits; ran = x.ran.ran })

  module _ (held sent : List ℕ) (is_output : server.output ≡ Some held) (is_written : server.written ≡ Some (held ++ sent)) where
    was_sent : (bytes : List ℕ) → Appends server.output server.written bytes → sent ≡ bytes
    was_sent bytes x =
        let one : Appends (Some held) server.written bytes = subst (λ (it : Option (List ℕ)). Appends it server.written bytes) is_output x in
        grown held sent bytes (subst (λ (it : Option (List ℕ)). Appends (Some held) it bytes) is_written one)

    pub talks : (serving : Serving) → ServesThese serving most mine server → Talks came sent mine
    unfolding reads reads_these
    talks (Ends served) x = record {
      it = reads (Ends served) x;
      last = x.last;
      unsent = [];
      writes = ap (λ (es : List Exchange). texts es ++ x.last) (sym x.ran.ran) ∙ sym (was_sent (texts x.exchanges ++ x.last) x.writes) ∙ sym (append-nil sent);
      refused = end_last served.end most x.exchanges server.left x.rest x.last x.ends;
    }
    talks (Breaks (Read replies)) x = record {
      it = reads (Breaks (Read replies)) x;
      last = [];
      unsent = [];
      writes = append-nil (texts mine) ∙ ap texts (sym x.ran.ran) ∙ sym (was_sent (texts x.exchanges) x.writes) ∙ sym (append-nil sent);
      refused = inl refl;
    }
    talks (Breaks (Write replies)) x =
        let same : x.exchanges ++ x.failed ≡ mine = x.ran.ran in
        let wrote : sent ≡ texts x.exchanges ++ x.part = was_sent (texts x.exchanges ++ x.part) x.writes in
        let behind : texts x.exchanges ++ (x.part ++ x.more) ≡ sent ++ x.more =
        sym (append_assoc (texts x.exchanges) x.part x.more) ∙ ap (λ (l : List ℕ). l ++ x.more) (sym wrote) in
        elim x.cut [
          | inl (e, is, text) ↦
              let all : texts mine ≡ texts x.exchanges ++ (x.part ++ x.more) =
              ap texts (sym same) ∙ texts_append x.exchanges x.failed
              ∙ ap (λ (es : List Exchange). texts x.exchanges ++ texts es) is
              ∙ ap (λ (l : List ℕ). texts x.exchanges ++ l) (append-nil (text_of e.answer) ∙ text) in
              record {
                it = reads (Breaks (Write replies)) x;
                last = [];
                unsent = x.more;
                writes = append-nil (texts mine) ∙ all ∙ behind;
                refused = inl refl;
              }
          | inr (none, (fault, is, text)) ↦
              let all : mine ≡ x.exchanges = sym same ∙ ap (λ (es : List Exchange). x.exchanges ++ es) none ∙ append-nil x.exchanges in
              record {
                it = reads (Breaks (Write replies)) x;
                last = fault_text fault;
                unsent = x.more;
                writes = ap (λ (es : List Exchange). texts es ++ fault_text fault) all ∙ ap (λ (l : List ℕ). texts x.exchanges ++ l) text ∙ behind;
                refused = inr (fault, is);
              }
        ]
    talks (Breaks Memory) x =
        let kept : sent ≡ [] = was_sent [] (same_kept server.output server.written x.2) in
        record {
          it = reads (Breaks Memory) x;
          last = [];
          unsent = [];
          writes = ap (λ (es : List Exchange). texts es ++ []) (sym x.0) ∙ ap (λ (l : List ℕ). l ++ []) (sym kept);
          refused = inl refl;
        }
    talks (Turns line) x = record {
      it = reads (Turns line) x;
      last = x.last;
      unsent = line.unsent;
      writes =
          ap (λ (es : List Exchange). texts es ++ x.last) (sym x.ran.ran) ∙ x.splits ∙ ap (λ (l : List ℕ). l ++ line.unsent) (sym (was_sent x.sent x.writes));
      refused = turn_refused most line server mine x;
    }

-- ---- one message

-- a text with a blank in it isn't empty
some_before : (front more : List ℕ) → 0 < length (front ++ 32 ∷ more)
some_before front more = omega (arith, length-append front (32 ∷ more))

pub message_has_bytes : (request : List ℕ) (m : Message) → HasMessage request m [] → 0 < length request
message_has_bytes request m (h, after, size, has, small, there, m_is, rest_is) =
    let parts : request
    ≡ print_blank h.blank
    ++ (h.method ++ 32 ∷ (h.target ++ 32 ∷ (print_version h.minor ++ (print_end h.line_end ++ (print_section h.fields h.last ++ after))))) =
    has.head.reads.1 ∙ print_request-append h after in
    let tail = h.target ++ 32 ∷ (print_version h.minor ++ (print_end h.line_end ++ (print_section h.fields h.last ++ after))) in
    let long : length request ≡ length (print_blank h.blank ++ (h.method ++ 32 ∷ tail)) = ap length parts in
    let some = some_before h.method tail in
    omega (arith, some, long, length-append (print_blank h.blank) (h.method ++ 32 ∷ tail))

refused_more : (fault : MessageFault) (input more : List ℕ) → IsRefused fault input → IsRefused fault (input ++ more)
refused_more BadHead input more x = IsBadHead-append input more x
refused_more TooLong input more x = IsTooLong-append input more x

never_refused : (fault : MessageFault) (input : List ℕ) (m : Message) (rest : List ℕ) → HasMessage input m rest → IsRefused fault input → ⊥
never_refused BadHead input m rest has x = HasMessage-not-bad input m rest has x
never_refused TooLong input m rest has x = HasMessage-not-long input m rest has x

-- no rest of a prefix of one message is refused
none_refused : (request read more rest : List ℕ) (m : Message) (ms : List Message) (fault : MessageFault)
    → HasMessage request m [] → request ≡ read ++ more → HasMessages read ms rest
    → (ms ≡ []) ⊎ ((ms ≡ m ∷ []) × (read ≡ request)) → IsRefused fault rest → ⊥
none_refused request read more rest m ms fault has parts reads (inl none) bad =
    let same : rest ≡ read = subst (λ (it : List Message). HasMessages read it rest) none reads in
    let whole : IsRefused fault request =
    subst (λ (l : List ℕ). IsRefused fault l) (sym parts) (refused_more fault read more (subst (λ (l : List ℕ). IsRefused fault l) same bad)) in
    never_refused fault request m [] has whole
none_refused request read more rest m ms fault has parts reads (inr (one, all)) bad =
    let it : (after : List ℕ) × HasMessage read m after × (rest ≡ after) = subst (λ (it : List Message). HasMessages read it rest) one reads in
    let whole : HasMessage request m it.0 = subst (λ (l : List ℕ). HasMessage l m it.0) all it.1 in
    let none : rest ≡ [] = it.2 ∙ sym (HasMessage-unique request m m [] it.0 has whole).1 in
    never_refused fault request m [] has (refused_more fault [] request (subst (λ (l : List ℕ). IsRefused fault l) none bad))

pub last_is_none : (request read more rest last : List ℕ) (m : Message) (ms : List Message)
    → HasMessage request m [] → request ≡ read ++ more → HasMessages read ms rest
    → (ms ≡ []) ⊎ ((ms ≡ m ∷ []) × (read ≡ request)) → (last ≡ []) ⊎ ((fault : MessageFault) × IsRefused fault rest) → last ≡ []
last_is_none request read more rest last m ms has parts reads which (inl none) = none
last_is_none request read more rest last m ms has parts reads which (inr (fault, bad)) =
    absurd (none_refused request read more rest m ms fault has parts reads which bad)

pub one_of : (m : Message) (es : List Exchange) → messages_of es ≡ m ∷ [] → (answer : Answer) × (es ≡ one_exchange m answer)
one_of m [] is = absurd (clash is)
  where
    clash : ◌≡◌ {A = List Message} [] (m ∷ []) → ⊥
    clash e = cc
one_of m (e ∷ []) is = (e.answer, ap (λ (it : Message). one_exchange it e.answer) (same_head e.message m [] [] is))
  where
    same_head : (x y : Message) (xs ys : List Message) → x ∷ xs ≡ y ∷ ys → x ≡ y
    same_head x y xs ys e = cc
one_of m (e ∷ (f ∷ es)) is = absurd (clash e.message f.message (messages_of es) is)
  where
    clash : (x y : Message) (xs : List Message) → x ∷ (y ∷ xs) ≡ m ∷ [] → ⊥
    clash x y xs e = cc

pub none_in : (es : List Exchange) → messages_of es ≡ [] → es ≡ []
none_in [] is = refl
none_in (e ∷ es) is = absurd (clash e.message (messages_of es) is)
  where
    clash : (x : Message) (xs : List Message) → x ∷ xs ≡ [] → ⊥
    clash x xs e = cc
