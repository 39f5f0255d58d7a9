-- A field that is read is the field that was written, what was written is read again, and a front of it is short.
use Rattle.std.proofs.Common.{◌≡◌, ℕ, ◌+◌, ◌-◌, ◌^◌, ◌<◌, ◌≤◌, Bool, true, false, cond, ltb, List, [], ◌∷◌, ◌++◌, length, get_or, take, drop, Result, Ok, Err}
use Rattle.std.proofs.Common.{refl, sym, ap, subst, ◌∙◌, append_assoc, arith, inl, inr}
use Rattle.std.specs.Int.{Width, w32, byte_len, from_be_bytes, to_be_bytes}
use Rattle.std.proofs.lemmas.Bool.{cases_lt, ltb-false, le-ltb, lt-ltb}
use Rattle.std.proofs.lemmas.List.{take_at, drop_at, take-append-le, length-drop, take-append-drop, length-append, length-take, get_or-drop, get_or-take}
use Rattle.std.proofs.lemmas.List.{get_or_past}
use Rattle.std.proofs.lemmas.Nat.{be_bytes_4, from_be_bytes-to_be_bytes_4}
use Rattle.till_program.specs.declared.fault.NoFrame.{NoFrame}
use Rattle.till_program.specs.declared.fault.NoFrame.TheVariants.{Short, Long}
use Rattle.till_program.specs.Frames.{field}
use Rattle.till_program.specs.Reading.{◌>>=◌, number_at, field_at}

abbrev pub IsBytes : List ℕ → Type 0
IsBytes bytes = (i : ℕ) → get_or bytes i 0 < 256

pub IsBytes-drop : (n : ℕ) (bytes : List ℕ) → IsBytes bytes → IsBytes (drop n bytes)
IsBytes-drop n bytes h i = rw get_or-drop (h (n + i))

IsBytes-take : (n : ℕ) (bytes : List ℕ) → IsBytes bytes → IsBytes (take n bytes)
IsBytes-take n bytes h i =
    elim (cases_lt i n) [
      | inl lt ↦ rw (get_or-take n bytes i 0 lt) (h i)
      | inr le ↦ rw (get_or_past (take n bytes) i 0 (omega (arith, length-take n bytes))) (omega arith)
    ]

-- the value of a step that did not fail
pub bind_ok : {A B : Type 0} (r : Result A NoFrame) (f : A → Result B NoFrame) (y : B) → (r >>= f) ≡ Ok y → (x : A) × (r ≡ Ok x) × (f x ≡ Ok y)
bind_ok (Ok x) f y e = (x, refl, e)
bind_ok (Err d) f y e = absurd cc

-- a test that did not fail
pub guard_ok : {A : Type 0} (b : Bool) (d : NoFrame) (r : Result A NoFrame) (y : A) → cond b (Err d) r ≡ Ok y → (b ≡ false) × (r ≡ Ok y)
guard_ok true d r y e = absurd cc
guard_ok false d r y e = (refl, e)

abbrev done : {A : Type 0} → A → Result A NoFrame
done x = Ok x

pub ok_is : {A : Type 0} (x y : A) → done x ≡ done y → x ≡ y
ok_is x y e = cc

-- what a reader took from the front
pub record Takes (bytes text rest : List ℕ) : Type 0 where
  pub parts : bytes ≡ text ++ rest
  pub rest_fits : IsBytes rest

pub Takes-then : (a x b y c : List ℕ) → Takes a x b → Takes b y c → Takes a (x ++ y) c
Takes-then a x b y c p q = record { parts = p.parts ∙ ap (λ (t : List ℕ). x ++ t) q.parts ∙ sym (append_assoc x y c); rest_fits = q.rest_fits }

-- ---- numbers

pub record IsWide (w : Width) (limit : ℕ) : Type 0 where
  pub len : (n : ℕ) → length (to_be_bytes w n) ≡ byte_len w
  pub back : (bytes : List ℕ) → length bytes ≡ byte_len w → IsBytes bytes → to_be_bytes w (from_be_bytes w bytes) ≡ bytes
  pub again : (n : ℕ) → n < limit → from_be_bytes w (to_be_bytes w n) ≡ n
  pub below : (bytes : List ℕ) → IsBytes bytes → from_be_bytes w bytes < limit

pub wide32 : IsWide w32 (2 ^ 32)
wide32 = record {
  len = λ n. refl;
  back = λ bytes len fits. be_bytes_4 bytes _ len fits refl;
  again = λ n lt. from_be_bytes-to_be_bytes_4 n lt;
  below = λ bytes fits. omega (arith, fits 0, fits 1, fits 2, fits 3);
}

pub number_takes_at : (w : Width) (limit : ℕ) (wide : IsWide w limit) (bytes : List ℕ) (n : ℕ) (rest : List ℕ)
    → IsBytes bytes → number_at w bytes ≡ Ok (n, rest) → Takes bytes (to_be_bytes w n) rest × (n < limit)
number_takes_at w limit wide bytes n rest fits e =
    let g = guard_ok (ltb (length bytes) (byte_len w)) Short (Ok (from_be_bytes w (take (byte_len w) bytes), drop (byte_len w) bytes)) (n, rest) e in
    let long : byte_len w ≤ length bytes = ltb-false _ _ g.0 in
    let both = ok_is (from_be_bytes w (take (byte_len w) bytes), drop (byte_len w) bytes) (n, rest) g.1 in
    let n-is : from_be_bytes w (take (byte_len w) bytes) ≡ n = ap (λ (p : ℕ × List ℕ). p.0) both in
    let rest-is : drop (byte_len w) bytes ≡ rest = ap (λ (p : ℕ × List ℕ). p.1) both in
    let front : to_be_bytes w n ≡ take (byte_len w) bytes =
    rw (← n-is) (wide.back (take (byte_len w) bytes) (omega (arith, length-take (byte_len w) bytes)) (IsBytes-take (byte_len w) bytes fits)) in (
      record { parts = rw (front, ← rest-is) (sym (take-append-drop (byte_len w) bytes)); rest_fits = rw (← rest-is) (IsBytes-drop (byte_len w) bytes fits) },
      rw (← n-is) (wide.below (take (byte_len w) bytes) (IsBytes-take (byte_len w) bytes fits)),
    )

number_again_at : (w : Width) (limit : ℕ) (wide : IsWide w limit) (n : ℕ) (rest : List ℕ) → n < limit → number_at w (to_be_bytes w n ++ rest) ≡ Ok (n, rest)
number_again_at w limit wide n rest lt =
    let len = wide.len n in
    let long : ltb (length (to_be_bytes w n ++ rest)) (byte_len w) ≡ false = le-ltb _ _ (omega (arith, length-append (to_be_bytes w n) rest)) in
    rw (long, take_at (to_be_bytes w n) rest (byte_len w) len, drop_at (to_be_bytes w n) rest (byte_len w) len, wide.again n lt) refl

pub number_takes : (bytes : List ℕ) (n : ℕ) (rest : List ℕ) → IsBytes bytes
    → number_at w32 bytes ≡ Ok (n, rest) → Takes bytes (to_be_bytes w32 n) rest × (n < 2 ^ 32)
number_takes bytes n rest fits e = number_takes_at w32 (2 ^ 32) wide32 bytes n rest fits e

pub number_again : (n : ℕ) (rest : List ℕ) → n < 2 ^ 32 → number_at w32 (to_be_bytes w32 n ++ rest) ≡ Ok (n, rest)
number_again n rest lt = number_again_at w32 (2 ^ 32) wide32 n rest lt

-- ---- fields

pub field_takes : (limit : ℕ) (bytes text rest : List ℕ) → IsBytes bytes
    → field_at limit bytes ≡ Ok (text, rest) → Takes bytes (field text) rest × (length text ≤ limit)
unfolding field_at
field_takes limit bytes text rest fits e =
    let b =
    bind_ok (number_at w32 bytes)
    (λ n. cond (ltb limit n.0) (Err Long) (cond (ltb (length n.1) n.0) (Err Short) (Ok (take n.0 n.1, drop n.0 n.1)))) (text, rest) e in
    let n = b.0 in
    let t = number_takes bytes n.0 n.1 fits b.1 in
    let m = guard_ok (ltb limit n.0) Long (cond (ltb (length n.1) n.0) (Err Short) (Ok (take n.0 n.1, drop n.0 n.1))) (text, rest) b.2 in
    let within : n.0 ≤ limit = ltb-false _ _ m.0 in
    let g = guard_ok (ltb (length n.1) n.0) Short (Ok (take n.0 n.1, drop n.0 n.1)) (text, rest) m.1 in
    let long : n.0 ≤ length n.1 = ltb-false _ _ g.0 in
    let len : length (take n.0 n.1) ≡ n.0 = omega (arith, length-take n.0 n.1) in
    let second : Takes n.1 (take n.0 n.1) (drop n.0 n.1) = record { parts = sym (take-append-drop n.0 n.1); rest_fits = IsBytes-drop n.0 n.1 t.0.rest_fits } in
    let both = Takes-then bytes (to_be_bytes w32 n.0) n.1 (take n.0 n.1) (drop n.0 n.1) t.0 second in
    let whole : Takes bytes (field (take n.0 n.1)) (drop n.0 n.1) =
    subst (λ (k : ℕ). Takes bytes (to_be_bytes w32 k ++ take n.0 n.1) (drop n.0 n.1)) (sym len) both in
    subst (λ (p : List ℕ × List ℕ). Takes bytes (field p.0) p.1 × (length p.0 ≤ limit))
    (ok_is (take n.0 n.1, drop n.0 n.1) (text, rest) g.1) (whole, omega arith)

pub field_again : (limit : ℕ) (text rest : List ℕ) → length text ≤ limit → limit < 2 ^ 32 → field_at limit (field text ++ rest) ≡ Ok (text, rest)
unfolding field_at
field_again limit text rest le lt =
    let within : ltb limit (length text) ≡ false = le-ltb _ _ le in
    let long : ltb (length (text ++ rest)) (length text) ≡ false = le-ltb _ _ (omega (arith, length-append text rest)) in
    rw (number_again (length text) (text ++ rest) (omega arith), within, long, take_at text rest (length text) refl, drop_at text rest (length text) refl) refl

-- a front that has the length and not the whole text
short_text : (limit : ℕ) (text part : List ℕ) → length text ≤ limit → limit < 2 ^ 32
    → length part < length text → field_at limit (to_be_bytes w32 (length text) ++ part) ≡ Err Short
unfolding field_at
short_text limit text part le lt below =
    let within : ltb limit (length text) ≡ false = le-ltb _ _ le in
    let short : ltb (length part) (length text) ≡ true = lt-ltb _ _ below in
    rw (number_again (length text) part (omega arith), within, short) refl

-- a front that hasn't the whole length
short_number : (limit : ℕ) (part : List ℕ) → length part < 4 → field_at limit part ≡ Err Short
unfolding field_at
short_number limit part below = rw (lt-ltb (length part) 4 below) refl

-- a front of a field, whatever follows the field
pub field_front : (limit : ℕ) (text rest part more : List ℕ) → length text ≤ limit → limit < 2 ^ 32
    → part ++ more ≡ field text ++ rest → length part < length (field text) → field_at limit part ≡ Err Short
field_front limit text rest part more le lt e below =
    elim (cases_lt (length part) 4) [
      | inl few ↦ short_number limit part few
      | inr many ↦
          let head : take 4 part ≡ to_be_bytes w32 (length text) =
          sym (take-append-le 4 part more many) ∙ ap (take 4) (e ∙ append_assoc (to_be_bytes w32 (length text)) text rest)
          ∙ take_at (to_be_bytes w32 (length text)) (text ++ rest) 4 (wide32.len (length text)) in
          let whole : part ≡ to_be_bytes w32 (length text) ++ drop 4 part = sym (take-append-drop 4 part) ∙ ap (λ (h : List ℕ). h ++ drop 4 part) head in
          let size = length-append (to_be_bytes w32 (length text)) text in
          let left = length-drop 4 part in
          rw whole (short_text limit text (drop 4 part) le lt (omega (arith, wide32.len (length text), size, left, below, many)))
    ]
