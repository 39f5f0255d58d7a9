-- The texts of the shop, which the shop's own profile sets: which bytes each kind takes.
use Rattle.std.specs.Prelude.{ℕ, Bool, ◌&&◌, ◌||◌, ◌==◌, not, List, length, nat_le}
use Rattle.std.specs.Char.{is_ascii_alphanumeric, is_ascii_digit}
use Rattle.std.specs.List.{list_all}

-- a byte of a text: none of the control bytes, which ASCII has below 32 and at 127
abbrev pub is_printed : ℕ → Bool
is_printed b = nat_le 32 b && not (b == 127)

-- from `low` to `high` bytes, none of them a control byte
abbrev pub is_text : ℕ → ℕ → List ℕ → Bool
is_text low high bytes = nat_le low (length bytes) && nat_le (length bytes) high && list_all is_printed bytes

-- an ASCII digit, letter or hyphen
abbrev pub is_key_byte : ℕ → Bool
is_key_byte b = is_ascii_alphanumeric b || b == 45

-- the key of a command: 1 to 40 letters, digits or hyphens
abbrev pub is_key : List ℕ → Bool
is_key bytes = nat_le 1 (length bytes) && nat_le (length bytes) 40 && list_all is_key_byte bytes

-- a digit of lower-case hexadecimal
abbrev pub is_hex_byte : ℕ → Bool
is_hex_byte b = is_ascii_digit b || (nat_le 97 b && nat_le b 102)

-- the token of a counter: 32 digits of lower-case hexadecimal
abbrev pub is_token : List ℕ → Bool
is_token bytes = length bytes == 32 && list_all is_hex_byte bytes
