-- What the program's own table of subcommands and options says to the library `clap`.
use Rattle.std.specs.Prelude.{map}
use Rattle.clap.specs.Words.{Rule, Shape, Text}
use Rattle.word_tables.specs.Rules.{option_rule, text_rule, default_rule, number_rule, optional_number_rule, default_number_rule, row_rule, word_shape}
use Rattle.office_words.specs.declared.options.Kind.{Kind}
use Rattle.office_words.specs.declared.options.Kind.TheVariants as kind
use Rattle.office_words.specs.declared.commands.Subcommand.{Subcommand}

-- an option of this name and kind
abbrev pub kind_rule : Text → Kind → Rule
kind_rule name kind.Text = text_rule name
kind_rule name (kind.DefaultText value) = default_rule name value.now
kind_rule name (kind.Number low high) = number_rule name low high
kind_rule name (kind.OptionalNumber low high) = optional_number_rule name low high
kind_rule name (kind.DefaultNumber low high value) = default_number_rule name low high value.now
kind_rule name kind.Row = row_rule name

-- a subcommand of the table
abbrev pub table_shape : Subcommand → Shape
table_shape s = word_shape s.name.now (map (option_rule kind_rule) s.options.now)
