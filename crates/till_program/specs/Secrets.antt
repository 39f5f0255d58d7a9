-- A desk's secret (our own form).
use Rattle.std.specs.Prelude.{◌≡◌, ℕ, List, [], ◌∷◌, slice_index}
use Rattle.hex.specs.Hex.{encode_lower}

-- the first sixteen of twice ten bytes
abbrev pub sixteen_of : List ℕ → List ℕ → List ℕ
sixteen_of one two =
    slice_index one 0 ∷ (slice_index one 1 ∷ (slice_index one 2 ∷ (slice_index one 3 ∷ (slice_index one 4 ∷ (slice_index one 5
    ∷ (slice_index one 6 ∷ (slice_index one 7 ∷ (slice_index one 8 ∷ (slice_index one 9 ∷ (slice_index two 0 ∷ (slice_index two 1
    ∷ (slice_index two 2 ∷ (slice_index two 3 ∷ (slice_index two 4 ∷ (slice_index two 5 ∷ [])))))))))))))))

-- it is the digits of bytes that were drawn, ten and ten
abbrev pub IsDrawnSecret : (List ℕ → Type 0) → List ℕ → Type 0
IsDrawnSecret draws secret = (one two : List ℕ) × draws one × draws two × (secret ≡ encode_lower (sixteen_of one two))
