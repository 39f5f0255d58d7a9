-- How the program's own table describes words and options to the library `clap`.
use Rattle.std.specs.Prelude.{map}
use Rattle.clap.specs.Words.{Rule, Shape, Text}
use Rattle.word_tables.specs.Rules.{option_rule, text_rule, optional_rule, default_rule, row_rule, optional_row_rule, default_row_rule, flag_rule, word_shape}
use Rattle.till_words.specs.declared.options.Kind.{Kind}
use Rattle.till_words.specs.declared.options.Kind.TheVariants as kind
use Rattle.till_words.specs.declared.commands.Subcommand.{Subcommand}

-- an option of this name and kind
abbrev pub kind_rule : Text → Kind → Rule
kind_rule name kind.Text = text_rule name
kind_rule name kind.OptionalText = optional_rule name
kind_rule name (kind.DefaultText value) = default_rule name value.now
kind_rule name kind.Row = row_rule name
kind_rule name kind.OptionalRow = optional_row_rule name
kind_rule name (kind.DefaultRow value) = default_row_rule name value.now
kind_rule name kind.Flag = flag_rule name

-- a word of the table
abbrev pub table_shape : Subcommand → Shape
table_shape s = word_shape s.name.now (map (option_rule kind_rule) s.options.now)
