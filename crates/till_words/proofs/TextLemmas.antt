-- Numbers that are read digit by digit, and lists of them.
use Rattle.shop_types.proofs.Common.{◌≡◌, ◌<◌, ◌≤◌, ◌^◌, ◌+◌, ◌*◌, ℕ, arith, lit<, add-one, ◌∙◌, refl, sym, ap, append_assoc, List, [], ◌∷◌, ◌++◌, Option, Some}
use Rattle.shop_types.proofs.Common.{None, option_map, digit_value, digit_value_digit, digit_from_value, row_number_of}
use Rattle.std.proofs.lemmas.List.{append-nil}
use Rattle.std.proofs.Math.Nat.{pow-le-pow_right}
use Rattle.clap.specs.Words.{Text}
use Rattle.till_words.specs.Texts.{all_numbers}
use Rattle.word_tables.specs.Given.{with_value}

pub next_digit : (n i d : ℕ) → n < 10 ^ i → i < 5 → d < 10 → n * 10 + d < 10 ^ (i + 1)
next_digit n i d p q r = rw add-one (omega arith)

pub fits_five : (n i : ℕ) → n < 10 ^ i → i ≤ 5 → n < 100_000
fits_five n i p q =
    let up : 10 ^ i ≤ 10 ^ 5 = pow-le-pow_right (lit< tt) q in
    omega arith

pub digit_is : (c : ℕ) → digit_value c < 10 → digit_value c + 48 ≡ c
digit_is c h = digit_value_digit c (digit_from_value c h)

-- the numbers that were read, and after them the numbers still to be read
abbrev pub with_rest : List ℕ → List Text → Option (List ℕ)
with_rest numbers texts = with_value (all_numbers texts) (λ rest. Some (numbers ++ rest))

one_on : (old : List ℕ) (n : ℕ) (rest : Option (List ℕ))
    → with_value (option_map (λ ns. n ∷ ns) rest) (λ ns. Some (old ++ ns)) ≡ with_value rest (λ ns. Some ((old ++ n ∷ []) ++ ns))
one_on old n None = refl
one_on old n (Some ns) = ap Some (sym (append_assoc old (n ∷ []) ns))

-- a step of a loop that reads them
pub number_more : (old new : List ℕ) (n : ℕ) (x : Text) (before rest : List Text) (all : Option (List ℕ)) → before ≡ x ∷ rest → row_number_of x ≡ Some n
    → new ≡ old ++ n ∷ [] → with_rest old before ≡ all → with_rest new rest ≡ all
number_more old new n x before rest all parts is grown whole =
    let step : with_rest old before ≡ with_rest (old ++ n ∷ []) rest = rw (parts, is) (one_on old n (all_numbers rest)) in
    ap (λ ns. with_rest ns rest) grown ∙ sym step ∙ whole

pub no_number : (old : List ℕ) (x : Text) (before rest : List Text) (all : Option (List ℕ)) → before ≡ x ∷ rest → row_number_of x ≡ None
    → with_rest old before ≡ all → None ≡ all
no_number old x before rest all parts is whole =
    let none : None ≡ with_rest old before = rw (parts, is) refl in
    none ∙ whole

pub all_read : (old : List ℕ) (before : List Text) (all : Option (List ℕ)) → before ≡ [] → with_rest old before ≡ all → Some old ≡ all
all_read old before all parts whole =
    let end : Some old ≡ with_rest old before = rw parts (ap Some (sym (append-nil old))) in
    end ∙ whole
