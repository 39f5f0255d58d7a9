-- What the program has read of a line so far.
use Rattle.std.specs.Prelude.{map, option_map, string_bytes}
use Rattle.till_words.specs.declared.lines.LineSplit.{LineSplit}
use Rattle.till_words.specs.PromptLine as line

abbrev pub seen_split : LineSplit → line.LineSplit
seen_split r = record { words = map string_bytes r.words.items; word = option_map string_bytes r.word; quoted = r.is_quoted }
