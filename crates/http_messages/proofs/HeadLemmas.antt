-- What a parse of the first bytes of an input says of the whole input.
use Rattle.std.proofs.Common.{◌≡◌, ℕ, ◌+◌, ◌<◌, ◌≤◌, ◌-◌, ◌⊎◌, inl, inr, List, [], ◌∷◌, ◌++◌, take, drop, length, min, ap, sym, ◌∙◌, arith, append_assoc}
use Rattle.std.proofs.Common.{append-nil, length-append}
use Rattle.std.proofs.lemmas.List.{take-append-drop, drop_at, take_all, length-take, length-map, take-append-le}
use Rattle.std.proofs.lemmas.Bool.{cases_lt}
use Rattle.std.proofs.Math.Seq.{take-append-add}
use Rattle.httparse.specs.Grammar.{RequestHead, print_request, ReadsRequest, HasNoRequest, MayBecomeRequest}
use Rattle.httparse.specs.Spans.{RequestOverflows, header_bytes, name_and_value, AreFieldsAt}
use Rattle.httparse.specs.declared.spans.HeaderSpan.{HeaderSpan}
use Rattle.httparse.proofs.GrammarLemmas.{ReadsRequest-append}
use Rattle.http_messages.specs.Input.{HasHead, CannotBegin, IsOpen, IsHeadless}

pub window_is : (k n : ℕ) (input : List ℕ) → k ≡ min (length input) n → take k input ≡ take n input
window_is k n input e = go (cases_lt n (length input)) where
  go : ((n < length input) ⊎ (length input ≤ n)) → take k input ≡ take n input
  go (inr le) = take_all k input (omega arith) ∙ sym (take_all n input le)
  go (inl lt) = let same : k ≡ n = omega arith in ap (λ m. take m input) same

-- how many fields the spans cover
pub fields_fit : (buf : List ℕ) (headers : List HeaderSpan) (h : RequestHead) (count room : ℕ)
    → AreFieldsAt buf headers count h.fields → length headers ≡ room → length h.fields ≤ room
fields_fit buf headers h count room e l =
    let same = ap length e in
    let a = length-map (take count headers) (header_bytes buf) in
    let b = length-map h.fields name_and_value in
    let t = length-take count headers in
    omega arith

pub head_in_window : (n : ℕ) (input : List ℕ) (h : RequestHead) (rest : List ℕ)
    → ReadsRequest (take n input) h rest → ReadsRequest input h (rest ++ drop n input)
head_in_window n input h rest x = rw (take-append-drop n input) at (ReadsRequest-append (take n input) h rest (drop n input) x)

pub rest_is : (input front rest : List ℕ) (len : ℕ) → input ≡ front ++ rest → len ≡ length front → drop len input ≡ rest
rest_is input front rest len e l = rw e (drop_at front rest len (sym l))

pub head_found : (input : List ℕ) (h : RequestHead) (rest : List ℕ) (len : ℕ)
    → ReadsRequest (take 8192 input) h rest → len ≡ length (print_request h) → length h.fields ≤ 32
    → HasHead input h (drop len input) × (len ≤ length input) × (len ≤ 8192)
head_found input h rest len x l few =
    let whole = head_in_window 8192 input h rest x in
    let same = rest_is input (print_request h) (rest ++ drop 8192 input) len whole.1 l in
    let t = length-take 8192 input in
    let a = ap length x.1 ∙ length-append (print_request h) rest in
    let b = ap length whole.1 ∙ length-append (print_request h) (rest ++ drop 8192 input) in
    (record { reads = rw same whole; short = omega arith; few = few }, omega arith, omega arith)

-- an error
pub cannot_begin : (input : List ℕ) → RequestOverflows 32 (take 8192 input) → CannotBegin input
cannot_begin input over = record {
  front = take 8192 input;
  rest = drop 8192 input;
  parts = sym (take-append-drop 8192 input);
  short = let t = length-take 8192 input in omega arith;
  never = over;
}

-- a head of the input lies in its first bytes
pub head_of_input : (n : ℕ) (input : List ℕ) (h : RequestHead) (rest : List ℕ)
    → ReadsRequest input h rest → length (print_request h) ≤ n → (r : List ℕ) × ReadsRequest (take n input) h r
head_of_input n input h rest x l = go (n - length (print_request h), omega arith) where
  go : (k : ℕ) × (length (print_request h) + k ≡ n) → (r : List ℕ) × ReadsRequest (take n input) h r
  go (k, e) = (take k rest, (x.0, rw (x.1, ← e) (take-append-add (print_request h) rest k)))

-- a front of the input of at most n bytes is a front of its first n
pub front_in_window : (n : ℕ) (input front rest : List ℕ) → input ≡ front ++ rest → length front ≤ n
    → (more : List ℕ) × (take n input ≡ front ++ more)
front_in_window n input front rest e l = go (n - length front, omega arith) where
  go : (k : ℕ) × (length front + k ≡ n) → (more : List ℕ) × (take n input ≡ front ++ more)
  go (k, f) = (take k rest, rw (e, ← f) (take-append-add front rest k))

pub open_at : (input : List ℕ) → HasNoRequest (take 8192 input) → MayBecomeRequest (take 8192 input) → CannotBegin input
    → IsOpen (take 8192 input)
open_at input absent (inr ends) bad = inl ends
open_at input absent (inl ([], h, x)) bad = absurd (absent h [] (x.0, sym (append-nil (take 8192 input)) ∙ x.1))
open_at input absent (inl (b ∷ more, h, x)) bad =
    let w = front_in_window 8192 input bad.front bad.rest bad.parts bad.short in
    let again : ReadsRequest (bad.front ++ (w.0 ++ b ∷ more)) h [] =
    (x.0, sym (append_assoc bad.front w.0 (b ∷ more)) ∙ ap (λ f. f ++ b ∷ more) (sym w.1) ∙ x.1) in
    inr (b ∷ more, h, omega arith, x, bad.never (w.0 ++ b ∷ more) h [] again)

-- a partial answer
pub headless : (input : List ℕ) → HasNoRequest (take 8192 input) → MayBecomeRequest (take 8192 input) → IsHeadless input
headless input absent may = record {
  none = λ h rest has. let r = head_of_input 8192 input h rest has.reads has.short in absent h r.0 r.1;
  begins = open_at input absent may;
}

-- if an input of at least 8,192 bytes with more bytes after it cannot begin a head, the input alone cannot begin one
pub cannot_begin_front : (input more : List ℕ) → CannotBegin (input ++ more) → 8192 ≤ length input → CannotBegin input
cannot_begin_front input more bad long =
    let w = front_in_window 8192 (input ++ more) bad.front bad.rest bad.parts bad.short in
    let same : take 8192 (input ++ more) ≡ take 8192 input = take-append-le 8192 input more long in
    record {
      front = bad.front;
      rest = w.0 ++ drop 8192 input;
      parts = sym (take-append-drop 8192 input) ∙ ap (λ l. l ++ drop 8192 input) (sym same ∙ w.1) ∙ append_assoc bad.front w.0 (drop 8192 input);
      short = bad.short;
      never = bad.never;
    }
