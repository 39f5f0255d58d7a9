-- Parts that are written one after another.
use Rattle.std.proofs.Common.{◌≡◌, ◌∙◌, ℕ, suc, ◌+◌, ◌<◌, ◌≤◌, arith, [], append-nil, List, ◌∷◌, ◌++◌, length, drop, ap, sym, subst, append_assoc}
use Rattle.std.proofs.Common.{slice_index_or}
use Rattle.std.specs.Prelude.{Option}
use Rattle.std.specs.List.{flat_map}
use Rattle.std.specs.Io.KnownBytes.{Appends}
use Rattle.std.proofs.KnownBytes.{Appends-trans}
use Rattle.std.proofs.Math.Seq.{drop-cons}
use Rattle.std.proofs.lemmas.List.{drop_all}
use Rattle.std.proofs.lemmas.List.Concat.{flat_map-cons}
use Rattle.http_messages.proofs.WriteLemmas.{IsWritten, IsFrontWritten, first_front, second_front}

-- the part is the first of what is left
pub part_first : {X : Type 0} (f : X → List ℕ) (parts : List X) (at : ℕ) (d : X) → at < length parts
    → flat_map f (drop at parts) ≡ f (slice_index_or parts at d) ++ flat_map f (drop (at + 1) parts)
part_first f parts at d lt =
    let same : suc at ≡ at + 1 = omega arith in
    rw (sym same) (ap (flat_map f) (drop-cons parts at d lt) ∙ flat_map-cons f (slice_index_or parts at d) (drop (suc at) parts))

-- one part more was written
pub part_written : (a mid b : Option (List ℕ)) (whole left part rest : List ℕ) → left ≡ part ++ rest → IsWritten a mid whole left → Appends mid b part
    → IsWritten a b whole rest
part_written a mid b whole left part rest is (sent, appends, parts) more =
    (sent ++ part, Appends-trans a mid b sent part appends more, parts ∙ (ap (λ (l : List ℕ). sent ++ l) is ∙ sym (append_assoc sent part rest)))

-- a part wasn't written whole
pub part_cut : (a mid b : Option (List ℕ)) (whole left part rest : List ℕ) → left ≡ part ++ rest → IsWritten a mid whole left → IsFrontWritten mid b part
    → IsFrontWritten a b whole
part_cut a mid b whole left part rest is (sent, appends, parts) cut =
    subst (IsFrontWritten a b) (sym (parts ∙ ap (λ (l : List ℕ). sent ++ l) is))
    (second_front a mid b sent (part ++ rest) appends (first_front mid b part rest cut))

-- all parts were written
pub all_written : {X : Type 0} (f : X → List ℕ) (parts : List X) (at : ℕ) (a b : Option (List ℕ)) → length parts ≤ at
    → IsWritten a b (flat_map f parts) (flat_map f (drop at parts)) → Appends a b (flat_map f parts)
all_written {X} f parts at a b le (sent, appends, is) =
    let none : drop at parts ≡ [] = drop_all at parts le in
    subst (Appends a b) (sym (is ∙ (ap (λ (l : List X). sent ++ flat_map f l) none ∙ append-nil sent))) appends

-- the parts of a line with one number, and of a line with two dates
pub line_of_two : (one two first : List ℕ) → one ≡ first → one ++ (two ++ []) ≡ first ++ two
line_of_two one two first same = rw same (ap (λ (l : List ℕ). first ++ l) (append-nil two))

pub line_of_four : (one two three four first third : List ℕ) → one ≡ first → three ≡ third
    → one ++ (two ++ (three ++ (four ++ []))) ≡ first ++ (two ++ (third ++ four))
line_of_four one two three four first third same also =
    rw (same, also) (ap (λ (l : List ℕ). first ++ (two ++ (third ++ l))) (append-nil four))

pub line_of_six : (one two three four five six first third fifth : List ℕ) → one ≡ first → three ≡ third → five ≡ fifth
    → one ++ (two ++ (three ++ (four ++ (five ++ (six ++ []))))) ≡ first ++ (two ++ (third ++ (four ++ (fifth ++ six))))
line_of_six one two three four five six first third fifth same also too =
    rw (same, also, too) (ap (λ (l : List ℕ). first ++ (two ++ (third ++ (four ++ (fifth ++ l))))) (append-nil six))
