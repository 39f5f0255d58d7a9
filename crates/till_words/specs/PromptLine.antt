-- The words of a line: blanks separate them, and double quotes keep blanks in a word.
use Rattle.std.specs.Prelude.{ℕ, ◌==◌, ◌||◌, ◌&&◌, Bool, false, not, List, [], ◌++◌, Option, Some, None, fold, unwrap_or, option_to_list, encode_utf8}
use Rattle.std.specs.Prelude.{if◌then◌else◌}
use Rattle.std.specs.Str.{chars}
use Rattle.clap.specs.Words.{Text}

-- the words so far, the word that is being read, and whether a quote is open
pub record LineSplit : Type 0 where
  pub words : List Text
  pub word : Option Text
  pub quoted : Bool

abbrev pub beginning : LineSplit
beginning = record { words = []; word = None; quoted = false }

-- a space, a tab or the end of a line
abbrev pub is_blank : ℕ → Bool
is_blank c = c == 32 || (c == 9 || (c == 10 || c == 13))

abbrev pub word_of : LineSplit → Text
word_of r = unwrap_or r.word []

-- if a word was begun, it ends
abbrev pub ended : LineSplit → LineSplit
ended r = record r { words = r.words ++ option_to_list r.word; word = None }

-- the word gets one more character
abbrev pub longer : LineSplit → ℕ → LineSplit
longer r c = record r { word = Some (word_of r ++ encode_utf8 c) }

-- a quote is opened or closed; from then on there is a word, which may be empty
abbrev pub turned : LineSplit → LineSplit
turned r = record r { word = Some (word_of r); quoted = not r.quoted }

abbrev pub read_char : LineSplit → ℕ → LineSplit
read_char r c = if c == 34 then turned r
    else (if is_blank c && not r.quoted then ended r else longer r c)

-- the words of the line, or none if a quote is left open
abbrev pub words_of : Text → Option (List Text)
words_of line =
    let r = fold read_char beginning (chars line) in
    if r.quoted then None else Some (ended r).words
