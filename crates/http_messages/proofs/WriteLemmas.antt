-- What writes do, one after another.
use Rattle.std.proofs.Common.{◌≡◌, ℕ, ◌+◌, ◌-◌, ◌<◌, length-append, arith, List, [], ◌++◌, Option, sym, ap, ◌∙◌, append_assoc, append-nil, length, take, drop}
use Rattle.std.proofs.lemmas.List.{take-append-drop, take_rest, drop-drop}
use Rattle.std.specs.Prelude.{Result, Ok, Err, OnErr}
use Rattle.std.specs.Io.KnownBytes.{Appends, Keeps}
use Rattle.std.proofs.KnownBytes.{Appends-kept, Appends-trans}

-- ---- a front of what was to be written

pub OnErr-all : {T E P : Type 0} (r : Result T E) → P → OnErr r P
OnErr-all (Ok x) p = tt
OnErr-all (Err e) p = p

abbrev pub IsFrontWritten : Option (List ℕ) → Option (List ℕ) → List ℕ → Type 0
IsFrontWritten a b whole = (x : List ℕ) × (y : List ℕ) × (whole ≡ x ++ y) × (0 < length y) × Appends a b x

-- only a front of the first part was written
pub first_front : (a b : Option (List ℕ)) (head body : List ℕ) → IsFrontWritten a b head → IsFrontWritten a b (head ++ body)
first_front a b head body (x, y, e, l, w) = (x, y ++ body, ap (λ l. l ++ body) e ∙ append_assoc x y body, omega (arith, length-append y body), w)

-- the first part was written, and a front of the second
pub second_front : (a b c : Option (List ℕ)) (head body : List ℕ) → Appends a b head → IsFrontWritten b c body → IsFrontWritten a c (head ++ body)
second_front a b c head body p (x, y, e, l, w) = (head ++ x, y, ap (λ l. head ++ l) e ∙ sym (append_assoc head x y), l, Appends-trans a b c head x p w)

-- ---- what is left to write

-- so much was written, from what was left before to what is left after
abbrev pub IsWritten : Option (List ℕ) → Option (List ℕ) → List ℕ → List ℕ → Type 0
IsWritten output written before after = (sent : List ℕ) × Appends output written sent × (before ≡ sent ++ after)

pub written_kept : (output mid written : Option (List ℕ)) (before after : List ℕ)
    → IsWritten output mid before after → Keeps mid written → IsWritten output written before after
written_kept output mid written before after (sent, appends, parts) keeps = (sent, Appends-kept output mid written sent appends keeps, parts)

pub written_more : (output mid written : Option (List ℕ)) (bytes before : List ℕ) (at n : ℕ) → IsWritten output mid before (drop at bytes)
    → Appends mid written (take n (take (length bytes - at) (drop at bytes))) → IsWritten output written before (drop (at + n) bytes)
written_more output mid written bytes before at n (sent, appends, parts) more =
    let more' = rw (take_rest bytes at) at more in
    let rest : drop at bytes ≡ take n (drop at bytes) ++ drop (at + n) bytes =
    sym (take-append-drop n (drop at bytes)) ∙ ap (λ (l : List ℕ). take n (drop at bytes) ++ l) (drop-drop n at bytes) in (
      sent ++ take n (drop at bytes),
      Appends-trans output mid written sent (take n (drop at bytes)) appends more',
      parts ∙ ap (λ (l : List ℕ). sent ++ l) rest ∙ sym (append_assoc sent (take n (drop at bytes)) (drop (at + n) bytes)),
    )

-- one part is written, and the next part after it
pub written_two : (output mid written : Option (List ℕ)) (head after body rest : List ℕ)
    → IsWritten output mid head after → after ≡ [] → IsWritten mid written body rest
    → IsWritten output written (head ++ body) (after ++ rest)
written_two output mid written head after body rest (sent, appends, parts) none (sent_too, appends_too, parts_too) = (
  sent ++ sent_too,
  Appends-trans output mid written sent sent_too appends appends_too,
  rw (none)
      (ap (λ (l : List ℕ). l ++ body) (parts ∙ ap (λ (l : List ℕ). sent ++ l) none ∙ append-nil sent)
      ∙ ap (λ (l : List ℕ). sent ++ l) parts_too ∙ sym (append_assoc sent sent_too rest)),
)
