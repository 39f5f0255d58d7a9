-- One message and its answer over one connection.
use Rattle.shop_model.proofs.Common.{◌≡◌, ◌∙◌, ◌⊎◌, inl, inr, ℕ, suc, List, [], ◌∷◌, ◌++◌, length, Option, Some, None, refl, sym, ap, subst, append-nil}
use Rattle.shop_model.proofs.Common.{append_assoc, Appends, Consumes, append_cancel_left, Answer}
use Rattle.std.specs.List.{flat_map}
use Rattle.http_messages.specs.Message.{Message}
use Rattle.http_messages.specs.Input.{HasMessage}
use Rattle.counter_http.specs.Exchanges.{Exchange, texts, text_of, messages_of, answers_of}
use Rattle.till_client.specs.Replies.{answer_bytes}
use Rattle.till_client.proofs.OneRequest.{one_message}
use Rattle.till_client.proofs.OneTalk as carried
use Rattle.till_and_server.specs.Streams.{Carries, IsWritten}
use Rattle.till_and_server.specs.Laws.{one_exchange, OneMessageIsRead, OneAnswerIsRead}
use Rattle.till_and_server.proofs.Talks.{Reads, reads, talks, message_has_bytes, last_is_none, one_of, none_in}

-- the bytes that came are a prefix of the request
came_of : (request : List ℕ) (output written input : Option (List ℕ)) → IsWritten request output written
    → (c : Carries output written input) → (more : List ℕ) × (request ≡ c.came ++ more)
came_of request output written input w c =
    let one : Appends (Some c.held) written w.front = subst (λ (it : Option (List ℕ)). Appends it written w.front) c.begins w.writes in
    let two : Appends (Some c.held) (Some (c.held ++ c.sent)) w.front = subst (λ (it : Option (List ℕ)). Appends (Some c.held) it w.front) c.ends one in
    let sent : c.sent ≡ w.front = append_cancel_left c.held c.sent w.front two in
    (c.lost ++ w.rest, w.parts ∙ ap (λ (l : List ℕ). l ++ w.rest) (sym sent ∙ c.parts) ∙ append_assoc c.came c.lost w.rest)

both_none : (xs ys : List ℕ) → xs ++ ys ≡ [] → (xs ≡ []) × (ys ≡ [])
both_none [] ys e = (refl, e)
both_none (x ∷ xs) ys e = absurd (clash e)
  where
    clash : x ∷ (xs ++ ys) ≡ [] → ⊥
    clash e = cc

-- if a prefix is the whole, nothing follows it
all_of : (request front more : List ℕ) → request ≡ front ++ more → front ≡ request → more ≡ []
all_of request front more parts all =
    let same : request ++ more ≡ request ++ [] = ap (λ (l : List ℕ). l ++ more) (sym all) ∙ sym parts ∙ sym (append-nil request) in
    append_cancel_left request more [] same

-- the bytes that were read are a prefix of the request, with the whole message or none
record IsFront (request : List ℕ) (m : Message) (came : List ℕ) (exchanges : List Exchange) (it : Reads came exchanges) : Type 0 where
  more : List ℕ
  parts : request ≡ it.read ++ more
  which : (messages_of exchanges ≡ []) ⊎ ((messages_of exchanges ≡ m ∷ []) × (it.read ≡ request))
  all : it.read ≡ request → came ≡ request

front_is : (request : List ℕ) (m : Message) (came more : List ℕ) (exchanges : List Exchange)
    → HasMessage request m [] → request ≡ came ++ more → (it : Reads came exchanges)
    → IsFront request m came exchanges it
front_is request m came more exchanges has parts it =
    let all : request ≡ it.read ++ (it.left ++ more) = parts ∙ ap (λ (l : List ℕ). l ++ more) it.reads ∙ append_assoc it.read it.left more in
    record {
      more = it.left ++ more;
      parts = all;
      which = one_message request it.read (it.left ++ more) it.rest m (messages_of exchanges) (message_has_bytes request m has) has all it.splits;
      all = λ whole.
          let none = both_none it.left more (all_of request it.read (it.left ++ more) all whole) in
          it.reads ∙ ap (λ (l : List ℕ). it.read ++ l) none.0 ∙ append-nil it.read ∙ whole;
    }

pub message_read : OneMessageIsRead
message_read request token command says till server serving most exchanges w c serves =
    let it = reads most exchanges c.came server c.comes serving serves in
    let came = came_of request till.output till.written server.input w c in
    let f = front_is request says.message c.came came.0 exchanges says.sole.whole came.1 it in
    elim f.which [
      | inl none ↦ inl (none_in exchanges none)
      | inr (one, whole) ↦ let e = one_of says.message exchanges one in inr (e.0, e.1, c.comes ∙ ap (λ (l : List ℕ). Some l) (f.all whole))
    ]

-- ---- the answer

as_many : (es : List Exchange) → length (answers_of es) ≡ length (messages_of es)
as_many [] = refl
as_many (e ∷ es) = ap (λ (n : ℕ). suc n) (as_many es)

all_texts : (es : List Exchange) → flat_map answer_bytes (answers_of es) ≡ texts es
all_texts [] = refl
all_texts (e ∷ es) = ap (λ (l : List ℕ). text_of e.answer ++ l) (all_texts es)

regroup : (a b c d : List ℕ) → ((a ++ b) ++ c) ++ d ≡ a ++ (b ++ (c ++ d))
regroup a b c d = append_assoc (a ++ b) c d ∙ append_assoc a b (c ++ d)

was_read : (came bytes : List ℕ) (input left : Option (List ℕ)) → input ≡ Some came
    → Consumes input left bytes → (behind : List ℕ) × (came ≡ bytes ++ behind) × (left ≡ Some behind)
was_read came bytes input left is x = by left (subst (λ (it : Option (List ℕ)). Consumes it left bytes) is x)
  where
    by : (left : Option (List ℕ)) → Consumes (Some came) left bytes → (behind : List ℕ) × (came ≡ bytes ++ behind) × (left ≡ Some behind)
    by None x = absurd x
    by (Some behind) x = (behind, x, refl)

same_answer : (a b : Answer) → ◌≡◌ {A = List Answer} (a ∷ []) (b ∷ []) → a ≡ b
same_answer a b e = cc

pub answer_read : OneAnswerIsRead
answer_read request token command says answer exchanges x =
    let till = x.till in
    let server = x.server in
    let there = x.joined.there in
    let back = x.joined.back in
    let m = says.message in
    let has = says.sole.whole in
    let t = talks x.most exchanges there.came server there.comes back.held back.sent back.begins back.ends x.serving x.serves in
    let came = came_of request till.output till.written server.input x.writes there in
    let f = front_is request m there.came came.0 exchanges has came.1 t.it in
    let last : t.last ≡ [] = last_is_none request t.it.read f.more t.it.rest t.last m (messages_of exchanges) has f.parts t.it.splits f.which t.refused in
    let got = was_read back.came (answer_bytes answer) till.input till.left back.comes x.reads in
    let behind = got.0 ++ (back.lost ++ t.unsent) in
    let bytes : texts exchanges ≡ answer_bytes answer ++ behind =
    sym (append-nil (texts exchanges))
    ∙ ap (λ (l : List ℕ). texts exchanges ++ l) (sym last)
    ∙ t.writes
    ∙ ap (λ (l : List ℕ). l ++ t.unsent) (back.parts ∙ ap (λ (l : List ℕ). l ++ back.lost) got.1)
    ∙ regroup (answer_bytes answer) got.0 back.lost t.unsent in
    let one =
    carried.one_exchange request t.it.read f.more t.it.rest behind m (messages_of exchanges)
    (answers_of exchanges) answer (message_has_bytes request m has) has f.parts t.it.splits
    (as_many exchanges) x.short x.fits (all_texts exchanges ∙ bytes) in
    let e = one_of m exchanges one.0 in
    let same : e.0 ≡ answer = same_answer e.0 answer (sym (ap answers_of e.1) ∙ one.1) in
    let nothing = both_none got.0 (back.lost ++ t.unsent) one.3 in (
      e.1 ∙ ap (one_exchange m) same,
      there.comes ∙ ap (λ (l : List ℕ). Some l) (f.all one.2),
      got.2 ∙ ap (λ (l : List ℕ). Some l) nothing.0,
    )
