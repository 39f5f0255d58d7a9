-- What a till says of a line that it doesn't take, and of one word: texts from the program's own table of words.
use Rattle.std.specs.Prelude.{◌==◌, ◌&&◌, Bool, true, false, not, List, [], ◌∷◌, ◌++◌, length, map, filter, nat_eq, nat_le, Option, Some, None, is_some}
use Rattle.std.specs.Prelude.{unwrap_or, drop, codes, if◌then◌else◌}
use Rattle.std.specs.Borrow.{Bor}
use Rattle.std.specs.Option.{option_or}
use Rattle.std.specs.List.{list_any, join_by}
use Rattle.std.specs.Str.{bytes_eq, chars}
use Rattle.clap.specs.Words.{Text}
use Rattle.strsim.specs.Edits.{levenshtein_row}
use Rattle.till_words.specs.declared.options.Kind.{Kind}
use Rattle.till_words.specs.declared.options.Kind.TheVariants as kind
use Rattle.till_words.specs.declared.commands.Subcommand.{Subcommand}
use Rattle.till_words.specs.Places.{is_option, option_name, awaits_value, word_place}
use Rattle.till_words.specs.Labels.{is_number, is_labelled}

-- ---- the table

-- the first word of this name
abbrev pub word_named : Text → List Subcommand → Option Subcommand
word_named name [] = None
word_named name (word ∷ words) = if bytes_eq word.name.now name then Some word else word_named name words

-- the word that the words begin with
abbrev pub first_word : List Subcommand → List Text → Option Subcommand
first_word table [] = None
first_word table (word ∷ words) = word_named word table

-- the names of the words that at most two edits make of the text
abbrev pub is_near : Text → Subcommand → Bool
is_near text word = nat_le (levenshtein_row nat_eq (chars text) (chars word.name.now) (length (chars word.name.now))) 2

abbrev pub near_names : Text → List Subcommand → List Text
near_names text words = map (λ (word : Subcommand). word.name.now) (filter (is_near text) words)

-- the name of an option without its hyphens
abbrev pub bare_name : Text → Text
bare_name option = drop 2 (option_name option)

-- the option of this name
abbrev pub option_named : Text → List (Bor Text × Kind) → Option (Bor Text × Kind)
option_named name [] = None
option_named name (option ∷ options) = if bytes_eq option.0.now name then Some option else option_named name options

abbrev pub is_row : Kind → Bool
is_row kind.Text = false
is_row kind.OptionalText = false
is_row (kind.DefaultText value) = false
is_row kind.Row = true
is_row kind.OptionalRow = true
is_row (kind.DefaultRow value) = true
is_row kind.Flag = false

abbrev pub is_wanted : Kind → Bool
is_wanted kind.Text = true
is_wanted kind.OptionalText = false
is_wanted (kind.DefaultText value) = false
is_wanted kind.Row = true
is_wanted kind.OptionalRow = false
is_wanted (kind.DefaultRow value) = false
is_wanted kind.Flag = false

abbrev pub kind_text : Kind → Text
kind_text kind.Text = codes "a text"
kind_text kind.OptionalText = codes "a text, which may be left out"
kind_text (kind.DefaultText value) = codes "a text, which may be left out"
kind_text kind.Row = codes "a number from 1 on"
kind_text kind.OptionalRow = codes "a number from 1 on, which may be left out"
kind_text (kind.DefaultRow value) = codes "a number from 1 on, which may be left out"
kind_text kind.Flag = codes "without a value"

-- ---- help on a word

abbrev pub option_line : Bor Text × Kind → Text
option_line option = codes "  --" ++ (option.0.now ++ (codes ": " ++ (kind_text option.1 ++ codes "\n")))

abbrev pub option_lines : List (Bor Text × Kind) → Text
option_lines [] = []
option_lines (option ∷ options) = option_line option ++ option_lines options

-- a word's line of help, its options, and an example
abbrev pub word_text : Subcommand → Text
word_text word = (word.about.now ++ codes "\n") ++ (option_lines word.options.now ++ (codes "Example: " ++ (word.example.now ++ codes "\n")))

-- ---- what is wrong with a line

-- what is said of a value that is no number, but may be a label
abbrev pub not_a_number : Text → Text → Text
not_a_number name value = if is_labelled 67 value then value ++ (codes " is a copy's label, but the " ++ (name ++ codes " is wanted."))
    else (if is_labelled 75 value then value ++ (codes " is a customer's label, but the " ++ (name ++ codes " is wanted."))
    else codes "The " ++ (name ++ (codes " is a number from 1 on: " ++ (value ++ codes " isn't one."))))

-- a value that isn't of its option's kind
abbrev pub wrong_value : Bor Text × Kind → Text → Option Text
wrong_value option value = if is_row option.1 && not (is_number value) then Some (not_a_number option.0.now value) else None

-- a word in the place of an option's name
abbrev pub wrong_option : List (Bor Text × Kind) → Text → Option Text
wrong_option options word = if not (is_option word) then Some (word ++ codes " is one value too many.")
    else (if is_some (option_named (bare_name word) options) then None else Some (word ++ codes " is no option of this word."))

-- the next word; `awaiting` is the option whose value it is
abbrev pub wrong_word : List (Bor Text × Kind) → Option (Bor Text × Kind) → Text → Option Text
wrong_word options (Some option) word = wrong_value option word
wrong_word options None word = wrong_option options word

-- the option whose value comes after this word
abbrev pub next_awaited : List (Bor Text × Kind) → Option (Bor Text × Kind) → Text → Option (Bor Text × Kind)
next_awaited options (Some option) word = None
next_awaited options None word = if awaits_value word then option_named (bare_name word) options else None

abbrev pub wrong_end : Option (Bor Text × Kind) → Option Text
wrong_end (Some option) = Some (codes "No value follows --" ++ (option.0.now ++ codes "."))
wrong_end None = None

-- what is wrong with the words after a word's name, in which each value follows its option's name
abbrev pub wrong_from : List (Bor Text × Kind) → Option (Bor Text × Kind) → List Text → Option Text
wrong_from options awaiting [] = wrong_end awaiting
wrong_from options awaiting (word ∷ words) = option_or (wrong_word options awaiting word) (wrong_from options (next_awaited options awaiting word) words)

-- one of the words is the option of this name
abbrev pub is_named : Text → List Text → Bool
is_named name words = list_any (λ word. is_option word && bytes_eq (bare_name word) name) words

-- the option has to be there and isn't
abbrev pub is_missing : Bor Text × Kind → List Text → Bool
is_missing option words = is_wanted option.1 && not (is_named option.0.now words)

abbrev pub missing_text : Bor Text × Kind → Text
missing_text option = codes "The " ++ (option.0.now ++ codes " is missing.")

-- the first option that has to be there and isn't
abbrev pub missing_in : List (Bor Text × Kind) → List Text → Option Text
missing_in [] words = None
missing_in (option ∷ options) words = if is_missing option words
    then Some (missing_text option) else missing_in options words

-- what is wrong with the values of a word
abbrev pub wrong_in : List (Bor Text × Kind) → List Text → Text
wrong_in options words = unwrap_or (option_or (wrong_from options None words) (missing_in options words)) (codes "That isn't how the word is said.")

-- how the word is said, and what is wrong
abbrev pub wrong_line : Subcommand → List Text → Text
wrong_line word words = word.usage.now ++ (codes "\n" ++ wrong_in word.options.now words)

abbrev pub near_text : List Text → Text
near_text names = if length names == 0 then codes " is no word of the till. Say help for all words."
    else codes " is no word of the till. Near it: " ++ (join_by (λ t. t) (codes ", ") names ++ codes ".")

-- a word that the till doesn't have, and the nearest ones
abbrev pub unknown_word : Text → List Subcommand → Text
unknown_word text words = text ++ near_text (near_names text words)

-- ---- help that is asked for

abbrev pub is_help_then : List Text → Bool
is_help_then (help ∷ word ∷ []) = bytes_eq help (codes "help")
is_help_then words = false

-- the words are `help` and one more word
abbrev pub is_help_on : List Text → Bool
is_help_on words = is_help_then (drop (word_place words) words)

abbrev pub helped_by : List Subcommand → List Text → Option Subcommand
helped_by table (help ∷ word ∷ []) = if bytes_eq help (codes "help") then word_named word table else None
helped_by table words = None

-- the word that `help WORD` asks for
abbrev pub helped : List Subcommand → List Text → Option Subcommand
helped table words = helped_by table (drop (word_place words) words)
