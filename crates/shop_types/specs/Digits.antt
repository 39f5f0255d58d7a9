-- Numbers that are written in decimal digits.
use Rattle.std.specs.Prelude.{ℕ, ◌&&◌, Bool, nat_le, List, length, Option, Some, None, if◌then◌else◌}
use Rattle.std.specs.List.{list_all}
use Rattle.std.specs.Char.{is_ascii_digit}
use Rattle.std.specs.Str.Parse.{digits_value}

-- 1 to 19 ASCII digits, so that the number fits 64 bits
abbrev pub is_decimal : List ℕ → Bool
is_decimal bytes = nat_le 1 (length bytes) && nat_le (length bytes) 19 && list_all is_ascii_digit bytes

-- the number that 1 to 19 digits write
abbrev pub decimal_value : List ℕ → Option ℕ
decimal_value bytes = if is_decimal bytes then Some (digits_value 10 bytes) else None
