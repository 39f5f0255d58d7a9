-- Numbers in a range, the numbers of rows, and how these are written.
use Rattle.std.specs.Prelude.{ℕ, ◌^◌, ◌&&◌, ◌==◌, Bool, not, nat_lt, nat_le, List, length, slice_index, Option, Some, None, if◌then◌else◌}
use Rattle.std.specs.List.{list_all}
use Rattle.std.specs.Char.{is_ascii_digit}
use Rattle.std.specs.Str.Parse.{digits_value}

-- the number, if it is from `low` to `high`
abbrev pub number_within : ℕ → ℕ → ℕ → Option ℕ
number_within low high n = if nat_le low n && nat_le n high then Some n else None

-- a number that a row can have: from 1 to 4,294,967,295
abbrev pub is_row_number : ℕ → Bool
is_row_number n = nat_le 1 n && nat_lt n (2 ^ 32)

-- 1 to 10 ASCII digits
abbrev pub is_ten_digits : List ℕ → Bool
is_ten_digits bytes = nat_le 1 (length bytes) && nat_le (length bytes) 10 && list_all is_ascii_digit bytes

-- digits with no leading zero, and so none that write 0
abbrev pub is_plain_number : List ℕ → Bool
is_plain_number bytes = is_ten_digits bytes && not (slice_index bytes 0 == 48)

-- the row's number that the bytes write in decimal, with no leading zero: each number has one text
abbrev pub row_number_of : List ℕ → Option ℕ
row_number_of bytes = if is_plain_number bytes && is_row_number (digits_value 10 bytes) then Some (digits_value 10 bytes) else None
