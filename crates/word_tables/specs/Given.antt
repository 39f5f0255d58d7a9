-- The values of a word's options. A value is none if it is missing or isn't of its kind.
use Rattle.std.specs.Prelude.{◌≡◌, ℕ, List, Option, Some, None, Result, Ok, Err, option_and_then, codes, if◌then◌else◌}
use Rattle.clap.specs.Words.{Row, Text, first_of, found_of, rows_of}
use Rattle.clap.specs.declared.parser.matches.ArgMatches.{ArgMatches}
use Rattle.shop_types.specs.Texts.{is_text, is_token}
use Rattle.shop_types.specs.declared.line.Usage.{Usage}
use Rattle.shop_types.specs.declared.line.Usage.TheVariants as usage

-- the values of the options
abbrev pub values_of : ArgMatches → List Row
values_of matches = rows_of (found_of matches)

-- a reading gives the value if there is one, and fails if there is none; it may also fail when out of memory
abbrev pub Reads : {A : Type 0} → Result A Usage → Option A → Type 0
Reads (Ok value) found = found ≡ Some value
Reads (Err e) found = ¬ (e ≡ usage.Memory) → found ≡ None

-- what the function makes of the value, if there is one
abbrev pub with_value : {A B : Type 0} → Option A → (A → Option B) → Option B
with_value found f = option_and_then f found

-- the text, if it is of so many bytes and has no control character
abbrev pub text_of : ℕ → ℕ → Text → Option Text
text_of low high text = if is_text low high text then Some text else None

abbrev pub text_given : ℕ → ℕ → Text → List Row → Option Text
text_given low high id rows = with_value (first_of id rows) (text_of low high)

abbrev pub token_given : List Row → Option Text
token_given rows = with_value (first_of (codes "token") rows) (λ text. if is_token text then Some text else None)
