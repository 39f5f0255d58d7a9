-- The line that head office's words are.
use Rattle.std.specs.Prelude.{List, Option, Some, None, codes, if◌then◌else◌}
use Rattle.clap.specs.Words.{Row, Text, first_of, matches_of, subcommand_of, fault_of}
use Rattle.clap.specs.Walk.{is_empty}
use Rattle.shop_types.specs.Lines.{LineValue}
use Rattle.office_words.specs.CommandLine.{office_app}
use Rattle.word_tables.specs.Given.{with_value}
use Rattle.office_words.specs.Acts.{act_of}

-- the values before the subcommand, its name and its values
abbrev pub line_from : List Row → Option (Text × List Row) → Option LineValue
line_from rows None = None
line_from rows (Some entered) =
    with_value (act_of entered.0 entered.1) (λ act. Some (record { db = first_of (codes "db") rows; act = act }))

-- a line, where clap finds no fault with the words and each value is of its kind
abbrev pub line_of : List Text → Option LineValue
line_of words = if is_empty (fault_of office_app words)
    then line_from (matches_of office_app words) (subcommand_of office_app words) else None
