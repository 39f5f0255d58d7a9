-- Amounts in dollars and lists of numbers, as they are typed.
use Rattle.std.specs.Prelude.{ℕ, ◌+◌, ◌*◌, ◌-◌, ◌==◌, ◌&&◌, Bool, List, [], ◌∷◌, length, take, drop, nat_le, Option, Some, None}
use Rattle.std.specs.Prelude.{option_map, if◌then◌else◌, slice_index}
use Rattle.std.specs.List.{slice_split}
use Rattle.clap.specs.Words.{Text}
use Rattle.shop_types.specs.Digits.{decimal_value}
use Rattle.shop_types.specs.Numbers.{number_within, row_number_of}
use Rattle.word_tables.specs.Given.{with_value}

-- ---- amounts

-- the number that 1 to 5 digits write
abbrev pub five_digits_value : Text → Option ℕ
five_digits_value bytes = if nat_le (length bytes) 5 then decimal_value bytes else None

-- the text without its dollar sign (36), if it begins with one
abbrev pub without_dollar : Text → Text
without_dollar [] = []
without_dollar (b ∷ bytes) = if b == 36 then bytes else b ∷ bytes

-- the third byte from the end is a point (46)
abbrev pub has_point : Text → Bool
has_point bytes = nat_le 3 (length bytes) && slice_index bytes (length bytes - 3) == 46

-- dollars, a point and two digits
abbrev pub dollars_and_cents : Text → Option ℕ
dollars_and_cents bytes = with_value (five_digits_value (take (length bytes - 3) bytes)) (λ dollars.
    with_value (five_digits_value (drop (length bytes - 2) bytes)) (λ cents. Some (dollars * 100 + cents)))

abbrev pub whole_dollars : Text → Option ℕ
whole_dollars bytes = option_map (λ dollars. dollars * 100) (five_digits_value bytes)

-- the cents of an amount in dollars: `4.99`, `5`, `0.50` or `$5`
abbrev pub cents_of : Text → Option ℕ
cents_of text =
    let bytes = without_dollar text in
    if has_point bytes then dollars_and_cents bytes else whole_dollars bytes

-- no more than 999.99 dollars
abbrev pub amount_of : Text → Option ℕ
amount_of text = with_value (cents_of text) (number_within 0 99_999)

-- ---- lists

-- the numbers that the texts write, if each text writes one
abbrev pub all_numbers : List Text → Option (List ℕ)
all_numbers [] = Some []
all_numbers (text ∷ texts) = with_value (row_number_of text) (λ number. option_map (λ numbers. number ∷ numbers) (all_numbers texts))

-- numbers with commas (44) between them
abbrev pub numbers_of : Text → Option (List ℕ)
numbers_of text = all_numbers (slice_split (λ b. b == 44) text)

-- the numbers of a list that may be empty
abbrev pub any_numbers_of : Text → Option (List ℕ)
any_numbers_of [] = Some []
any_numbers_of (b ∷ bytes) = numbers_of (b ∷ bytes)
