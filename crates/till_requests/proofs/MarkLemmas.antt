-- A mark is ASCII, and so UTF-8.
use Rattle.shop_types.proofs.Common.{◌≡◌, ℕ, ◌<◌, List, [], ◌∷◌, length, true, ◌==◌, ◌&&◌, arith, and_parts, IsUtf8-from_ascii, list_all, IsUtf8, IsAscii}
use Rattle.std.proofs.lemmas.Str.Ascii.{IsAscii-cons, IsAscii-nil}
use Rattle.till_requests.specs.Marks.{is_mark, is_mark_letter}

letter_is_ascii : (b : ℕ) → is_mark_letter b ≡ true → b < 128
letter_is_ascii b e = grind (arith, e)

all_ascii : (bytes : List ℕ) → list_all is_mark_letter bytes ≡ true → IsAscii bytes
all_ascii [] e = IsAscii-nil
all_ascii (b ∷ bytes) e =
    let both = and_parts (is_mark_letter b) (list_all is_mark_letter bytes) e in
    IsAscii-cons b bytes (letter_is_ascii b both.0) (all_ascii bytes both.1)

pub mark-utf8 : (bytes : List ℕ) → is_mark bytes ≡ true → IsUtf8 bytes
mark-utf8 [] e = IsUtf8-from_ascii [] IsAscii-nil
mark-utf8 (b ∷ bytes) e =
    let parts = and_parts ((length (b ∷ bytes) == 11) && (b == 116)) (list_all is_mark_letter bytes) e in
    let first : (b == 116) ≡ true = (and_parts (length (b ∷ bytes) == 11) (b == 116) parts.0).1 in
    let is_t : b < 128 = grind (arith, first) in
    IsUtf8-from_ascii (b ∷ bytes) (IsAscii-cons b bytes is_t (all_ascii bytes parts.1))
