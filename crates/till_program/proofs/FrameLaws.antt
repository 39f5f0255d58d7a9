-- A frame that is read is the frame that was written, what was written is read again, and a front of it is short.
use Rattle.std.proofs.Common.{◌≡◌, ◌≢◌, ℕ, ◌+◌, ◌-◌, ◌^◌, ◌<◌, ◌≤◌, Bool, true, false, cond, eqb, List, [], ◌∷◌, ◌++◌, length, get_or, take, drop, Result, Ok}
use Rattle.std.proofs.Common.{Err, refl, sym, ap, subst, ◌∙◌, append_assoc, arith, inl, inr}
use Rattle.std.specs.Prelude.{IfOk}
use Rattle.shop_types.proofs.Common.{Decides, pointwise, slice_eq-Decides, not, rules}
use Rattle.std.specs.Cmp.Rules.{comparing}
use Rattle.std.proofs.lemmas.Bool.{cases_lt, eqb-true}
use Rattle.std.proofs.lemmas.List.{append-nil, nil_from_length, take_at, drop_at, take-append-le, take-append-drop, length-append, length-drop, length-take}
use Rattle.till_program.specs.declared.fault.NoFrame.{NoFrame}
use Rattle.till_program.specs.declared.fault.NoFrame.TheVariants.{Short, Foreign, Denied, Long, Trailing}
use Rattle.till_program.specs.declared.fault.NoLine.{NoLine}
use Rattle.till_program.specs.Frames.{field, line, frame, beginning, most, most_said}
use Rattle.till_program.specs.Reading.{◌>>=◌, Is, IsHeadFault, field_at, line_at, body_at}
use Rattle.till_program.proofs.FieldLaws.{IsBytes, IsBytes-drop, bind_ok, ok_is, Takes, Takes-then, field_takes, field_again, field_front}
use Rattle.till_program.proofs.WordLaws.{guard_ended, line_takes}

pub line_found : {X : Type 0} (view : X → List (List ℕ)) (r : Result X NoLine) (bytes : List ℕ) (words : List (List ℕ))
    → IsBytes bytes → line_at bytes ≡ Ok words
    → IfOk r (λ x. view x ≡ words) → IfOk r (λ x. bytes ≡ line (view x))
line_found view (Ok x) bytes words fits e h = (line_takes bytes words fits e).1 ∙ ap line (sym h)
line_found view (Err f) bytes words fits e h = tt

-- ---- the line and the file

body_takes : (bytes text file : List ℕ) → IsBytes bytes → body_at bytes ≡ Ok (text, file) → bytes ≡ field text ++ field file
unfolding body_at
body_takes bytes text file fits e =
    let a = bind_ok (field_at most bytes) (λ t. field_at most t.1 >>= λ f. cond (eqb (length f.1) 0) (Ok (t.0, f.0)) (Err Trailing)) (text, file) e in
    let b = bind_ok (field_at most a.0.1) (λ f. cond (eqb (length f.1) 0) (Ok (a.0.0, f.0)) (Err Trailing)) (text, file) a.2 in
    let g = guard_ended (eqb (length b.0.1) 0) Trailing (a.0.0, b.0.0) (text, file) b.2 in
    let first = field_takes most bytes a.0.0 a.0.1 fits a.1 in
    let second = field_takes most a.0.1 b.0.0 b.0.1 first.0.rest_fits b.1 in
    let nothing : b.0.1 ≡ [] = nil_from_length b.0.1 (eqb-true _ _ g.0) in
    let both = (Takes-then bytes (field a.0.0) a.0.1 (field b.0.0) b.0.1 first.0 second.0).parts in
    let whole : bytes ≡ field a.0.0 ++ field b.0.0 =
    both ∙ ap (λ (r : List ℕ). (field a.0.0 ++ field b.0.0) ++ r) nothing ∙ append-nil (field a.0.0 ++ field b.0.0) in
    subst (λ (p : List ℕ × List ℕ). bytes ≡ field p.0 ++ field p.1) g.1 whole

body_again : (text file : List ℕ) → length text ≤ most → length file ≤ most → body_at (field text ++ field file) ≡ Ok (text, file)
unfolding body_at
body_again text file le le' =
    let last : field_at most (field file) ≡ Ok (file, []) = ap (field_at most) (sym (append-nil (field file))) ∙ field_again most file [] le' (omega arith) in
    rw (field_again most text (field file) le (omega arith), last) refl

body_front : (text file part more : List ℕ) → length text ≤ most → length file ≤ most
    → part ++ more ≡ field text ++ field file → length part < length (field text ++ field file) → body_at part ≡ Err Short
unfolding body_at
body_front text file part more le le' e below =
    elim (cases_lt (length part) (length (field text))) [
      | inl few ↦ rw (field_front most text (field file) part more le (omega arith) e few) refl
      | inr many ↦
          let n = length (field text) in
          let head : take n part ≡ field text = sym (take-append-le n part more many) ∙ ap (take n) e ∙ take_at (field text) (field file) n refl in
          let whole : part ≡ field text ++ drop n part = sym (take-append-drop n part) ∙ ap (λ (h : List ℕ). h ++ drop n part) head in
          let again : drop n part ++ more ≡ field file =
          sym (drop_at (field text) (drop n part ++ more) n refl)
          ∙ ap (drop n) (sym (append_assoc (field text) (drop n part) more) ∙ ap (λ (h : List ℕ). h ++ more) (sym whole) ∙ e)
          ∙ drop_at (field text) (field file) n refl in
          let short : field_at most (drop n part) ≡ Err Short =
          field_front most file [] (drop n part) more le' (omega arith) (again ∙ sym (append-nil (field file)))
          (omega (arith, length-append (field text) (field file), length-drop n part, below, many)) in
          rw (whole, field_again most text (drop n part) le (omega arith), short) refl
    ]

-- ---- the beginning and the secret

pub head_parts : (bytes secret : List ℕ) → take 12 bytes ≡ beginning → take 32 (drop 12 bytes) ≡ secret → bytes ≡ beginning ++ secret ++ drop 32 (drop 12 bytes)
head_parts bytes secret first second =
    sym (take-append-drop 12 bytes) ∙ ap (λ (h : List ℕ). h ++ drop 12 bytes) first
    ∙ ap (λ (r : List ℕ). beginning ++ r) (sym (take-append-drop 32 (drop 12 bytes)) ∙ ap (λ (h : List ℕ). h ++ drop 32 (drop 12 bytes)) second)

-- no fault of the head but that it is short, at a front of what begins so
head_front : (secret rest bytes more : List ℕ) (fault : NoFrame) → length secret ≡ 32
    → bytes ++ more ≡ beginning ++ secret ++ rest → IsHeadFault secret bytes fault → fault ≡ Short
head_front secret rest bytes more Short size e h = refl
head_front secret rest bytes more Foreign size e h =
    absurd (h.1 (sym (take-append-le 12 bytes more (omega arith)) ∙ ap (take 12) e))
head_front secret rest bytes more Denied size e h =
    let whole : 44 ≤ length bytes = h.0 in
    let left : drop 12 bytes ++ more ≡ secret ++ rest =
    sym (drop_at (take 12 bytes) (drop 12 bytes ++ more) 12 (omega (arith, length-take 12 bytes)))
    ∙ ap (drop 12) (sym (append_assoc (take 12 bytes) (drop 12 bytes) more) ∙ ap (λ (h : List ℕ). h ++ more) (take-append-drop 12 bytes) ∙ e) in
    absurd (h.1 (sym (take-append-le 32 (drop 12 bytes) more (omega (arith, length-drop 12 bytes))) ∙ ap (take 32) left ∙ take_at secret rest 32 size))
head_front secret rest bytes more Long size e h = absurd h
head_front secret rest bytes more Trailing size e h = absurd h

head_whole : (secret rest bytes : List ℕ) (fault : NoFrame) → length secret ≡ 32 → bytes ≡ beginning ++ secret ++ rest → IsHeadFault secret bytes fault → ⊥
head_whole secret rest bytes Short size e h = omega (arith, ap length e, length-append secret rest)
head_whole secret rest bytes Foreign size e h = absurd cc (head_front secret rest bytes [] Foreign size (append-nil bytes ∙ e) h)
head_whole secret rest bytes Denied size e h = absurd cc (head_front secret rest bytes [] Denied size (append-nil bytes ∙ e) h)
head_whole secret rest bytes Long size e h = h
head_whole secret rest bytes Trailing size e h = h

-- ---- frames

pub frame_found : {X : Type 0} (view : X → List ℕ × List ℕ) (r : Result X NoFrame) (bytes secret rest : List ℕ)
    → length secret ≡ 32 → IsBytes bytes → bytes ≡ beginning ++ secret ++ rest → Is view r (body_at rest)
    → IfOk r (λ x. bytes ≡ frame secret (view x).0 (view x).1)
frame_found view (Ok x) bytes secret rest size fits e h =
    let left : drop 32 (drop 12 bytes) ≡ rest = ap (λ (b : List ℕ). drop 32 (drop 12 b)) e ∙ drop_at secret rest 32 size in
    let rest_fits : IsBytes rest = subst IsBytes left (IsBytes-drop 32 (drop 12 bytes) (IsBytes-drop 12 bytes fits)) in
    e ∙ ap (λ (r : List ℕ). beginning ++ secret ++ r) (body_takes rest (view x).0 (view x).1 rest_fits h)
frame_found view (Err f) bytes secret rest size fits e h = tt

rest_is : (secret rest other : List ℕ) → length secret ≡ 32 → beginning ++ secret ++ rest ≡ beginning ++ secret ++ other → rest ≡ other
rest_is secret rest other size e =
    sym (drop_at secret rest 32 size) ∙ ap (λ (x : List ℕ). drop 32 (drop 12 x)) e ∙ drop_at secret other 32 size

pub frame_only : {X : Type 0} (view : X → List ℕ × List ℕ) (r : Result X NoFrame) (bytes secret rest text file : List ℕ)
    → length secret ≡ 32 → bytes ≡ beginning ++ secret ++ rest
    → Is view r (body_at rest) → length text ≤ most → length file ≤ most → bytes ≡ frame secret text file → Is view r (Ok (text, file))
frame_only view r bytes secret rest text file size e h le le' is =
    let same : rest ≡ field text ++ field file = rest_is secret rest (field text ++ field file) size (sym e ∙ is) in
    subst (Is view r) (ap body_at same ∙ body_again text file le le') h

pub frame_only_head : {X : Type 0} (view : X → List ℕ × List ℕ) (fault : NoFrame) (bytes secret text file : List ℕ)
    → length secret ≡ 32 → IsHeadFault secret bytes fault
    → bytes ≡ frame secret text file → Is view (Err fault) (Ok (text, file))
frame_only_head view fault bytes secret text file size h is = absurd (head_whole secret (field text ++ field file) bytes fault size is h)

is_short : {X : Type 0} (view : X → List ℕ × List ℕ) (r : Result X NoFrame) → Is view r (Err Short) → r ≡ Err Short
is_short view (Ok x) h = absurd cc
is_short view (Err f) h = cc

pub frame_front : {X : Type 0} (view : X → List ℕ × List ℕ) (r : Result X NoFrame) (bytes secret rest text file more : List ℕ) (next : ℕ)
    → length secret ≡ 32 → bytes ≡ beginning ++ secret ++ rest
    → Is view r (body_at rest) → length text ≤ most → length file ≤ most → bytes ++ next ∷ more ≡ frame secret text file → r ≡ Err Short
frame_front view r bytes secret rest text file more next size e h le le' is =
    let moved : (beginning ++ secret ++ rest) ++ next ∷ more ≡ beginning ++ secret ++ (rest ++ next ∷ more) = simp append_assoc in
    let same : rest ++ next ∷ more ≡ field text ++ field file =
    rest_is secret (rest ++ next ∷ more) (field text ++ field file) size (sym moved ∙ ap (λ (b : List ℕ). b ++ next ∷ more) (sym e) ∙ is) in
    let below : length rest < length (field text ++ field file) =
    subst (λ (x : List ℕ). length rest < length x) same (omega (arith, length-append rest (next ∷ more))) in
    is_short view r (subst (Is view r) (body_front text file rest (next ∷ more) le le' same below) h)

pub frame_front_head : (fault : NoFrame) (bytes secret text file more : List ℕ) (next : ℕ) → length secret ≡ 32 → IsHeadFault secret bytes fault
    → bytes ++ next ∷ more ≡ frame secret text file → fault ≡ Short
frame_front_head fault bytes secret text file more next size h is = head_front secret (field text ++ field file) bytes (next ∷ more) fault size is h

-- ---- replies

first_of : (bytes : List ℕ) → 1 ≤ length bytes → bytes ≡ get_or bytes 0 0 ∷ drop 1 bytes
first_of [] le = absurd (omega arith)
first_of (b ∷ bytes) le = refl

pub reply_parts : (bytes out rest err last : List ℕ) → IsBytes bytes → 1 ≤ length bytes
    → field_at most_said (drop 1 bytes) ≡ Ok (out, rest) → field_at most_said rest ≡ Ok (err, last) → length last ≡ 0
    → bytes ≡ get_or bytes 0 0 ∷ field out ++ field err
reply_parts bytes out rest err last fits le e e' ends =
    let first = field_takes most_said (drop 1 bytes) out rest (IsBytes-drop 1 bytes fits) e in
    let second = field_takes most_said rest err last first.0.rest_fits e' in
    let nothing : last ≡ [] = nil_from_length last ends in
    let both = (Takes-then (drop 1 bytes) (field out) rest (field err) last first.0 second.0).parts in
    first_of bytes le
    ∙ ap (λ (r : List ℕ). get_or bytes 0 0 ∷ r) (both ∙ ap (λ (r : List ℕ). (field out ++ field err) ++ r) nothing ∙ append-nil (field out ++ field err))

-- ---- a comparison

is_true : (b r : Bool) → r ≡ not b → r ≡ false → b ≡ true
is_true true r is e = refl
is_true false r is e = absurd cc

pub same_lists : (one two : List ℕ) (r : Bool) → r ≡ not (pointwise eqb one two) → r ≡ false → one ≡ two
same_lists one two r is e =
    (slice_eq-Decides {E = eqb} (λ a b. search (comparing, rules)) one two (pointwise eqb one two) refl).0 (is_true (pointwise eqb one two) r is e)

-- what follows from what an outcome is
pub ok_so : {A E : Type 0} (r : Result A E) (P Q : A → Type 0) → IfOk r P → ((a : A) → P a → Q a) → IfOk r Q
ok_so (Ok a) P Q it so = so a it
ok_so (Err e) P Q it so = tt
