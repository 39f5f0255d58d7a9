-- Messages of an input, as more of it comes.
use Rattle.std.proofs.Common.{◌≡◌, ℕ, ◌≤◌, inl, inr, List, [], ◌∷◌, ◌++◌, take, drop, length, refl, ap, sym, subst, ◌∙◌, arith, append_assoc, length-append}
use Rattle.std.proofs.Common.{Some}
use Rattle.std.proofs.lemmas.List.{take-append-le, drop-append-le}
use Rattle.httparse.specs.Grammar.{RequestHead, ReadsRequest}
use Rattle.httparse.proofs.GrammarLemmas.{ReadsRequest-append, request_unique}
use Rattle.http_messages.proofs.HeadLemmas.{head_of_input, head_in_window, cannot_begin_front}
use Rattle.http_messages.specs.Message.{Message, message, body_size}
use Rattle.http_messages.specs.Input.{HasHead, CannotBegin, HasMessage, HasMessages, IsBadHead, IsTooLong, IsCut}

pub HasHead-append : (input more : List ℕ) (h : RequestHead) (rest : List ℕ)
    → HasHead input h rest → HasHead (input ++ more) h (rest ++ more)
HasHead-append input more h rest x =
    record { reads = ReadsRequest-append input h rest more x.reads; short = x.short; few = x.few }

pub HasMessage-append : (input more : List ℕ) (m : Message) (rest : List ℕ)
    → HasMessage input m rest → HasMessage (input ++ more) m (rest ++ more)
HasMessage-append input more m rest (h, after, size, has, small, there, m_is, rest_is) = (
  h,
  after ++ more,
  size,
  record { head = HasHead-append input more h after has.head; size_is = has.size_is },
  small,
  omega (arith, length-append after more),
  m_is ∙ ap (message h) (sym (take-append-le size after more there)),
  ap (λ r. r ++ more) rest_is ∙ sym (drop-append-le size after more there),
)

pub HasMessages-append : (input more : List ℕ) (ms : List Message) (rest : List ℕ)
    → HasMessages input ms rest → HasMessages (input ++ more) ms (rest ++ more)
HasMessages-append input more [] rest e = ap (λ r. r ++ more) e
HasMessages-append input more (m ∷ ms) rest (after, has, later) =
    (after ++ more, HasMessage-append input more m after has, HasMessages-append after more ms rest later)

pub HasMessages-snoc : (input mid rest : List ℕ) (ms : List Message) (m : Message)
    → HasMessages input ms mid → HasMessage mid m rest → HasMessages input (ms ++ m ∷ []) rest
HasMessages-snoc input mid rest [] m e has = (rest, subst (λ (i : List ℕ). HasMessage i m rest) e has, refl)
HasMessages-snoc input mid rest (n ∷ ms) m (after, first, later) has =
    (after, first, HasMessages-snoc after mid rest ms m later has)

-- a head and its rest are given by the input
pub HasHead-unique : (input : List ℕ) (h k : RequestHead) (r q : List ℕ)
    → HasHead input h r → HasHead input k q → (h ≡ k) × (r ≡ q)
HasHead-unique input h k r q x y = request_unique input h k r q x.reads y.reads

pub HasMessage-unique : (input : List ℕ) (m n : Message) (r q : List ℕ)
    → HasMessage input m r → HasMessage input n q → (m ≡ n) × (r ≡ q)
HasMessage-unique input m n r q (h, after, size, x, a, b, c, d) (k, behind, count, y, e, f, g, i) =
    let same = HasHead-unique input h k after behind x.head y.head in
    let heads : h ≡ k = same.0 in
    let rests : after ≡ behind = same.1 in
    let sizes : body_size h ≡ Some size = x.size_is in
    let counts : body_size k ≡ Some count = y.size_is in
    let equal : size ≡ count = cc in
    (cc, cc)

-- the bytes that cannot begin a head stand before no head
pub CannotBegin-HasHead : (input : List ℕ) (h : RequestHead) (rest : List ℕ) → CannotBegin input → ¬ (HasHead input h rest)
CannotBegin-HasHead input h rest bad x =
    let fronts : ReadsRequest (bad.front ++ bad.rest) h rest = (x.reads.0, sym bad.parts ∙ x.reads.1) in
    let over = bad.never bad.rest h rest fronts in
    let few = x.few in
    omega arith

-- a message leaves none of the other cases
pub HasMessage-not-bad : (input : List ℕ) (m : Message) (rest : List ℕ) → HasMessage input m rest → ¬ (IsBadHead input)
HasMessage-not-bad input m rest (h, after, size, x, a, b, c, d) (inl bad) = CannotBegin-HasHead input h after bad x.head
HasMessage-not-bad input m rest (h, after, size, x, a, b, c, d) (inr (k, behind, y, none)) =
    let heads : h ≡ k = (HasHead-unique input h k after behind x.head y).0 in
    let sizes : body_size h ≡ Some size = x.size_is in
    cc

pub HasMessage-not-long : (input : List ℕ) (m : Message) (rest : List ℕ) → HasMessage input m rest → ¬ (IsTooLong input)
HasMessage-not-long input m rest (h, after, size, x, a, b, c, d) (inl long) = long.1.none h after x.head
HasMessage-not-long input m rest (h, after, size, x, a, b, c, d) (inr (k, behind, count, y, over)) =
    let heads : h ≡ k = (HasHead-unique input h k after behind x.head y.head).0 in
    let sizes : body_size h ≡ Some size = x.size_is in
    let counts : body_size k ≡ Some count = y.size_is in
    let equal : size ≡ count = cc in
    omega arith

pub HasMessage-not-cut : (input : List ℕ) (m : Message) (rest : List ℕ) → HasMessage input m rest → ¬ (IsCut input)
HasMessage-not-cut input m rest (h, after, size, x, a, b, c, d) (inl cut) = cut.1.none h after x.head
HasMessage-not-cut input m rest (h, after, size, x, a, b, c, d) (inr (k, behind, count, y, small, short)) =
    let same = HasHead-unique input h k after behind x.head y.head in
    let heads : h ≡ k = same.0 in
    let rests : after ≡ behind = same.1 in
    let lengths = ap length rests in
    let sizes : body_size h ≡ Some size = x.size_is in
    let counts : body_size k ≡ Some count = y.size_is in
    let equal : size ≡ count = cc in
    omega arith

-- refusals stand however the input goes on
pub CannotBegin-append : (input more : List ℕ) → CannotBegin input → CannotBegin (input ++ more)
CannotBegin-append input more x = record {
  front = x.front;
  rest = x.rest ++ more;
  parts = ap (λ i. i ++ more) x.parts ∙ append_assoc x.front x.rest more;
  short = x.short;
  never = x.never;
}

pub IsBadHead-append : (input more : List ℕ) → IsBadHead input → IsBadHead (input ++ more)
IsBadHead-append input more (inl x) = inl (CannotBegin-append input more x)
IsBadHead-append input more (inr (h, rest, x, none)) = inr (h, rest ++ more, HasHead-append input more h rest x, none)

pub IsTooLong-append : (input more : List ℕ) → IsTooLong input → IsTooLong (input ++ more)
IsTooLong-append input more (inl (long, x)) =
    let same : take 8192 (input ++ more) ≡ take 8192 input = take-append-le 8192 input more long in
    inl (
      omega (arith, length-append input more),
      record {
        none = λ h rest has.
            let r = head_of_input 8192 (input ++ more) h rest has.reads has.short in
            let Reads : List ℕ → Type 0 = λ w. ReadsRequest w h r.0 in
            let there : ReadsRequest (take 8192 input) h r.0 = subst Reads same r.1 in
            x.none h (r.0 ++ drop 8192 input) (record { reads = head_in_window 8192 input h r.0 there; short = has.short; few = has.few });
        begins = λ bad. rw same (x.begins (cannot_begin_front input more bad long));
      },
    )
IsTooLong-append input more (inr (h, rest, size, x, over)) =
    inr (h, rest ++ more, size, record { head = HasHead-append input more h rest x.head; size_is = x.size_is }, over)

-- two splits of one input: the longer goes on from the shorter
pub HasMessages-prefix : (input : List ℕ) (ms ns : List Message) (rest more : List ℕ)
    → HasMessages input ms rest → HasMessages input ns more → length ms ≤ length ns
    → (later : List Message) × (ns ≡ ms ++ later) × HasMessages rest later more
HasMessages-prefix input [] ns rest more e y le = (ns, refl, subst (λ (i : List ℕ). HasMessages i ns more) (sym e) y)
HasMessages-prefix input (m ∷ ms) [] rest more x y le = absurd (omega arith)
HasMessages-prefix input (m ∷ ms) (n ∷ ns) rest more (after, has, x) (behind, also, y) le =
    let same = HasMessage-unique input m n after behind has also in
    let y' = subst (λ (i : List ℕ). HasMessages i ns more) (sym same.1) y in
    let go = HasMessages-prefix after ms ns rest more x y' (omega arith) in
    let heads : m ≡ n = same.0 in
    let tails : ns ≡ ms ++ go.0 = go.1 in
    (go.0, cc, go.2)
