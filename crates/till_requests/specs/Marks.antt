-- A till's mark (our own form).
use Rattle.std.specs.Prelude.{◌≡◌, ℕ, ◌+◌, ◌%◌, ◌&&◌, ◌==◌, nat_le, Bool, List, [], ◌∷◌, length, slice_index, drop}
use Rattle.std.specs.List.{list_all}

-- a letter from a to p
abbrev pub is_mark_letter : ℕ → Bool
is_mark_letter b = nat_le 97 b && nat_le b 112

-- the bytes are `t` and ten letters from a to p
abbrev pub is_mark : List ℕ → Bool
is_mark bytes = length bytes == 11 && slice_index bytes 0 == 116 && list_all is_mark_letter (drop 1 bytes)

-- the letter of a byte, from a to p
abbrev pub letter_of : ℕ → ℕ
letter_of byte = 97 + byte % 16

-- the letter of the byte at that place
abbrev pub letter_at : List ℕ → ℕ → ℕ
letter_at bytes place = letter_of (slice_index bytes place)

-- `t`, and the letters of ten bytes
abbrev pub mark_of : List ℕ → List ℕ
mark_of bytes =
    116 ∷ (letter_at bytes 0 ∷ (letter_at bytes 1 ∷ (letter_at bytes 2 ∷ (letter_at bytes 3 ∷ (letter_at bytes 4 ∷ (letter_at bytes 5
    ∷ (letter_at bytes 6 ∷ (letter_at bytes 7 ∷ (letter_at bytes 8 ∷ (letter_at bytes 9 ∷ []))))))))))

-- it is the mark of bytes that were drawn
abbrev pub IsDrawnMark : (List ℕ → Type 0) → List ℕ → Type 0
IsDrawnMark draws mark = (bytes : List ℕ) × draws bytes × (mark ≡ mark_of bytes)
