-- Reading words one after the other, as a loop does.
use Rattle.std.proofs.Common.{◌≡◌, ℕ, suc, ◌-◌, ◌+◌, ◌≤◌, ◌<◌, List, [], ◌∷◌, ◌++◌, Result, Ok, Err, refl, sym, ap, ◌∙◌, append_assoc, arith}
use Rattle.std.proofs.lemmas.List.{append-nil}
use Rattle.till_program.specs.declared.fault.NoFrame.{NoFrame}
use Rattle.till_program.specs.Frames.{most}
use Rattle.till_program.specs.Reading.{◌>>=◌, field_at, words_at}

-- what was read before, and what is still read
abbrev pub with_front : List (List ℕ) → Result (List (List ℕ) × List ℕ) NoFrame → Result (List (List ℕ) × List ℕ) NoFrame
with_front front read = read >>= λ x. Ok (front ++ x.0, x.1)

regroup : (front : List (List ℕ)) (word : List ℕ) (read : Result (List (List ℕ) × List ℕ) NoFrame)
    → with_front front (read >>= λ x. Ok (word ∷ x.0, x.1)) ≡ with_front (front ++ word ∷ []) read
regroup front word (Ok x) = ap (λ (words : List (List ℕ)). Ok (words, x.1)) (simp append_assoc)
regroup front word (Err f) = refl

pub goes_on : (front : List (List ℕ)) (count i : ℕ) (bytes word after : List ℕ) (total : Result (List (List ℕ) × List ℕ) NoFrame)
    → i < count → field_at most bytes ≡ Ok (word, after)
    → with_front front (words_at (count - i) bytes) ≡ total → with_front (front ++ word ∷ []) (words_at (count - (i + 1)) after) ≡ total
unfolding words_at
goes_on front count i bytes word after total lt h so_far =
    let k : count - i ≡ suc (count - (i + 1)) = omega arith in
    let one : with_front front (words_at (count - i) bytes) ≡ with_front (front ++ word ∷ []) (words_at (count - (i + 1)) after) =
    rw (k, h) (regroup front word (words_at (count - (i + 1)) after)) in
    sym one ∙ so_far

pub ends : (f : NoFrame) (front : List (List ℕ)) (count i : ℕ) (bytes : List ℕ) (total : Result (List (List ℕ) × List ℕ) NoFrame)
    → i < count → field_at most bytes ≡ Err f
    → with_front front (words_at (count - i) bytes) ≡ total → total ≡ Err f
unfolding words_at
ends f front count i bytes total lt h so_far =
    let k : count - i ≡ suc (count - (i + 1)) = omega arith in
    let one : with_front front (words_at (count - i) bytes) ≡ Err f = rw (k, h) refl in
    sym so_far ∙ one

pub is_done : (front : List (List ℕ)) (count i : ℕ) (bytes : List ℕ) (total : Result (List (List ℕ) × List ℕ) NoFrame)
    → count ≤ i → with_front front (words_at (count - i) bytes) ≡ total → total ≡ Ok (front, bytes)
unfolding words_at
is_done front count i bytes total le so_far =
    let k : count - i ≡ 0 = omega arith in
    let one : with_front front (words_at (count - i) bytes) ≡ Ok (front, bytes) = rw k (ap (λ (words : List (List ℕ)). Ok (words, bytes)) (append-nil front)) in
    sym so_far ∙ one
