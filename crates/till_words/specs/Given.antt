-- The values of a word's options, each of its kind. A value is none if it is missing or isn't of its kind.
use Rattle.std.specs.Prelude.{ℕ, Bool, false, List, Option, Some, None, option_map, codes, if◌then◌else◌}
use Rattle.std.specs.Option.{option_map_or}
use Rattle.std.specs.Str.{bytes_eq}
use Rattle.clap.specs.Words.{Row, Text, first_of}
use Rattle.shop_types.specs.Numbers.{row_number_of}
use Rattle.shop_types.specs.Texts.{is_key}
use Rattle.shop_types.specs.NumberLists.{is_number_list}
use Rattle.till_words.specs.Texts.{amount_of, numbers_of, any_numbers_of}
use Rattle.word_tables.specs.Given.{with_value}
use Rattle.word_tables.specs.Given.{with_value, text_of}

-- ---- texts

abbrev pub optional_text_from : ℕ → ℕ → Option Text → Option (Option Text)
optional_text_from low high None = Some None
optional_text_from low high (Some text) = option_map Some (text_of low high text)

-- a text that may be left out
abbrev pub optional_text_given : ℕ → ℕ → Text → List Row → Option (Option Text)
optional_text_given low high id rows = optional_text_from low high (first_of id rows)

abbrev pub lot_given : List Row → Option Text
lot_given rows = with_value (first_of (codes "lot") rows) (λ text. if is_key text then Some text else None)

-- whether the option is given
abbrev pub flag_given : Text → List Row → Bool
flag_given id rows = option_map_or (λ text. bytes_eq text (codes "true")) (first_of id rows) false

-- ---- numbers

-- the number of a row
abbrev pub row_given : Text → List Row → Option ℕ
row_given id rows = with_value (first_of id rows) row_number_of

abbrev pub optional_row_from : Option Text → Option (Option ℕ)
optional_row_from None = Some None
optional_row_from (Some text) = option_map Some (row_number_of text)

-- the number of a row, which may be left out
abbrev pub optional_row_given : Text → List Row → Option (Option ℕ)
optional_row_given id rows = optional_row_from (first_of id rows)

-- the amount in cents
abbrev pub amount_given : List Row → Option ℕ
amount_given rows = with_value (first_of (codes "amount") rows) amount_of

abbrev pub short_list : List ℕ → Option (List ℕ)
short_list numbers = if is_number_list numbers then Some numbers else None

abbrev pub numbers_given : Text → List Row → Option (List ℕ)
numbers_given id rows = with_value (first_of id rows) (λ text. with_value (numbers_of text) short_list)

-- a list that may be empty
abbrev pub any_numbers_given : Text → List Row → Option (List ℕ)
any_numbers_given id rows = with_value (first_of id rows) (λ text. with_value (any_numbers_of text) short_list)
