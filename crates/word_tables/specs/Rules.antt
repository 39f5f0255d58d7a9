-- The rules of options and the shapes of words, as the library `clap` has them.
use Rattle.std.specs.Prelude.{ℕ, List, [], ◌∷◌, Some, true}
use Rattle.std.specs.Borrow.{Bor}
use Rattle.clap.specs.Words.{Rule, Shape, Text, new_rule}
use Rattle.clap.specs.Simple.{new_shape}
use Rattle.clap.specs.declared.builder.action.ArgAction.TheVariants.{SetTrue}
use Rattle.clap.specs.declared.builder.value_parser.ValueParser.TheVariants as parser

-- `--NAME TEXT`, which may be left out
abbrev pub optional_rule : Text → Rule
optional_rule name = record (new_rule name) { long = Some name }

-- the same of an option that must be there
abbrev pub required : Rule → Rule
required rule = record rule { required = true }

-- the same of an option that is read from this text if it is left out
abbrev pub with_default : Text → Rule → Rule
with_default value rule = record rule { defaults = value ∷ [] }

-- `--NAME TEXT`, which must be there
abbrev pub text_rule : Text → Rule
text_rule name = required (optional_rule name)

-- `--NAME TEXT`, which has a default
abbrev pub default_rule : Text → Text → Rule
default_rule name value = with_default value (optional_rule name)

-- `--NAME NUMBER`, of this range, which may be left out
abbrev pub optional_number_rule : Text → ℕ → ℕ → Rule
optional_number_rule name low high = record (optional_rule name) { parser = Some (parser.Unsigned low high) }

-- `--NAME NUMBER`, of this range, which must be there
abbrev pub number_rule : Text → ℕ → ℕ → Rule
number_rule name low high = required (optional_number_rule name low high)

-- `--NAME NUMBER`, of this range, which has a default
abbrev pub default_number_rule : Text → ℕ → ℕ → Text → Rule
default_number_rule name low high value = with_default value (optional_number_rule name low high)

-- the number of a row, which may be left out
abbrev pub optional_row_rule : Text → Rule
optional_row_rule name = optional_number_rule name 1 4_294_967_295

-- the number of a row, which must be there
abbrev pub row_rule : Text → Rule
row_rule name = required (optional_row_rule name)

-- the number of a row, which has a default
abbrev pub default_row_rule : Text → Text → Rule
default_row_rule name value = with_default value (optional_row_rule name)

-- `--NAME`, which is there or not
abbrev pub flag_rule : Text → Rule
flag_rule name = record (optional_rule name) { action = Some SetTrue }

-- an option of a table, where the rule of a name and a kind is this
abbrev pub option_rule : {K : Type 0} → (Text → K → Rule) → Bor Text × K → Rule
option_rule rule entry = rule entry.0.now entry.1

-- a word of this name, with these options
abbrev pub word_shape : Text → List Rule → Shape
word_shape name rules = record (new_shape name) { rules = rules }
