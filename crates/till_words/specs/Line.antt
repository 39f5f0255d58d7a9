-- The line that the words typed at a till mean.
use Rattle.std.specs.Prelude.{List, Option, Some, None, codes, if◌then◌else◌}
use Rattle.clap.specs.Words.{Row, Text, matches_of, subcommand_of, fault_of}
use Rattle.clap.specs.Walk.{is_empty}
use Rattle.till_words.specs.declared.words.TillLine.{TillLine}
use Rattle.till_words.specs.declared.words.TillAct.{TillAct}
use Rattle.till_words.specs.declared.words.TillAct.TheVariants as till
use Rattle.till_words.specs.CommandLine.{till_app}
use Rattle.word_tables.specs.Given.{with_value}
use Rattle.till_words.specs.Given.{optional_text_given, flag_given, optional_row_given}
use Rattle.till_words.specs.Acts.{act_of}
use Rattle.till_words.specs.Places.{named_words, office_words}
use Rattle.till_words.specs.Spoken.{spoken}

-- without a word, the till prompts for lines, one after another
abbrev pub entered_act : List Text → Option (Text × List Row) → Option TillAct
entered_act office None = Some till.Prompt
entered_act office (Some entered) = act_of office entered.0 entered.1

-- the line from the values before the word, the word's name, and its values
abbrev pub line_from : List Text → List Row → Option (Text × List Row) → Option TillLine
line_from office rows entered =
    with_value (optional_row_given (codes "staff") rows) (λ staff.
    with_value (optional_row_given (codes "drawer") rows) (λ drawer.
    with_value (optional_text_given 1 1000 (codes "book") rows) (λ book.
    with_value (entered_act office entered) (λ act. Some (record {
      book = book;
      is_json = flag_given (codes "json") rows;
      is_sure = flag_given (codes "yes") rows;
      staff = staff;
      drawer = drawer;
      act = act;
    })))))

-- the line, if clap finds no fault with the words
unfoldable pub read_of : List Text → List Text → Option TillLine
read_of office words = if is_empty (fault_of till_app words)
    then line_from office (matches_of till_app words) (subcommand_of till_app words) else None

-- The line of words that are typed in full. It is none unless clap accepts the words, with each value after its option's name, and each value is of its kind.
abbrev pub full_line_of : List Text → Option TillLine
full_line_of words = read_of (office_words words) (named_words words)

-- the line of the words
unfoldable pub till_line_of : List Text → Option TillLine
till_line_of words = full_line_of (spoken words)
