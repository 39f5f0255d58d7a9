-- The bits in which two texts differ are gathered byte by byte: none are, exactly if the texts are equal so far.
use Rattle.std.proofs.Common.{◌≡◌, ℕ, zero, ◌+◌, ◌<◌, ◌≤◌, List, length, get_or, take, refl, sym, ap, ◌∙◌, arith}
use Rattle.std.specs.Int.Bits.{bit_or, bit_xor, xor_add_and, xor_self}
use Rattle.std.proofs.lemmas.Nat.{and_le_l, and_le_r, le_or_l, le_or_r}
use Rattle.std.proofs.lemmas.List.{take_more_same, take-take, get_or-take}

xor_same : (a b : ℕ) → bit_xor a b ≡ 0 → a ≡ b
xor_same a b e = omega (arith, xor_add_and a b, and_le_l a b, and_le_r a b)

pub next_differs : (one two : List ℕ) (d i : ℕ) → i < length one → i < length two → (d ≡ 0 → take i one ≡ take i two)
    → bit_or d (bit_xor (get_or one i 0) (get_or two i 0)) ≡ 0 → take (i + 1) one ≡ take (i + 1) two
next_differs one two d i below_one below_two before e =
    let first : d ≡ 0 = omega (arith, le_or_l d (bit_xor (get_or one i 0) (get_or two i 0))) in
    let second : bit_xor (get_or one i 0) (get_or two i 0) ≡ 0 = omega (arith, le_or_r d (bit_xor (get_or one i 0) (get_or two i 0))) in
    take_more_same one two i 0 below_one below_two (before first) (xor_same _ _ second)

pub next_same : (one two : List ℕ) (d i : ℕ) → (take i one ≡ take i two → d ≡ 0) → take (i + 1) one ≡ take (i + 1) two
    → bit_or d (bit_xor (get_or one i 0) (get_or two i 0)) ≡ 0
next_same one two d i before e =
    let front : take i one ≡ take i two = sym (take-take i (i + 1) one (omega arith)) ∙ ap (take i) e ∙ take-take i (i + 1) two (omega arith) in
    let byte : get_or one i 0 ≡ get_or two i 0 =
    sym (get_or-take (i + 1) one i 0 (omega arith)) ∙ ap (λ (x : List ℕ). get_or x i 0) e ∙ get_or-take (i + 1) two i 0 (omega arith) in
    rw (before front, byte, xor_self) refl
