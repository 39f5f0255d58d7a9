-- Values that are given by their places: each gets the name of its option before it.
use Rattle.std.specs.Prelude.{ℕ, suc, ◌==◌, ◌&&◌, ◌||◌, Bool, false, not, List, [], ◌∷◌, ◌++◌, length, take, drop, filter, codes, if◌then◌else◌}
use Rattle.std.specs.List.{list_any, starts_with, before_first}
use Rattle.std.specs.Str.{bytes_eq}
use Rattle.clap.specs.Words.{Text}
use Rattle.till_words.specs.Labels.{value_for}

-- ---- options among the words

-- a word that begins with two hyphens
abbrev pub is_option : Text → Bool
is_option word = starts_with ◌==◌ word (codes "--")

-- an option's name with its hyphens: the text before the first `=`
abbrev pub option_name : Text → Text
option_name word = before_first (λ b. b == 61) word

-- the options without a value
abbrev pub is_flag : Text → Bool
is_flag word = bytes_eq word (codes "--json") || (bytes_eq word (codes "--office") || (bytes_eq word (codes "--yes") || bytes_eq word (codes "--late")))

-- an option whose value is the next word
abbrev pub awaits_value : Text → Bool
awaits_value word = is_option word && (not (is_flag word) && length (option_name word) == length word)

-- ---- which places a word has

abbrev pub customer_place : List Text
customer_place = codes "--customer" ∷ []

abbrev pub copy_place : List Text
copy_place = codes "--copy" ∷ []

abbrev pub find_place : List Text
find_place = codes "--find" ∷ []

abbrev pub till_places : Text → List Text
till_places word = if bytes_eq word (codes "rewards") then codes "--purchases" ∷ codes "--amount" ∷ []
    else (if bytes_eq word (codes "last") then codes "--count" ∷ []
    else (if bytes_eq word (codes "day") then codes "--date" ∷ []
    else (if bytes_eq word (codes "init") then codes "--address" ∷ codes "--token" ∷ []
    else (if bytes_eq word (codes "zone") then codes "--name" ∷ []
    else (if bytes_eq word (codes "today") then codes "--date" ∷ []
    else [])))))

abbrev pub found_places : Text → List Text
found_places word = if bytes_eq word (codes "customer") then find_place
    else (if bytes_eq word (codes "film") then find_place
    else (if bytes_eq word (codes "in-stock") then copy_place
    else (if bytes_eq word (codes "held-by") then copy_place
    else (if bytes_eq word (codes "copies") then codes "--film" ∷ []
    else (if bytes_eq word (codes "balance") then customer_place
    else till_places word)))))

abbrev pub stock_places : Text → List Text
stock_places word = if bytes_eq word (codes "import") then codes "--file" ∷ codes "--lot" ∷ []
    else (if bytes_eq word (codes "dispatch") then codes "--to" ∷ codes "--copies" ∷ []
    else (if bytes_eq word (codes "receive") then codes "--from" ∷ codes "--number" ∷ []
    else (if bytes_eq word (codes "scrap") then copy_place
    else found_places word)))

-- the names of the options whose values may be given without names, in their order
abbrev pub places_of : Text → List Text
places_of word = if bytes_eq word (codes "rent") then codes "--customer" ∷ codes "--copy" ∷ []
    else (if bytes_eq word (codes "return") then copy_place
    else (if bytes_eq word (codes "pay") then codes "--customer" ∷ codes "--amount" ∷ []
    else (if bytes_eq word (codes "join")
    then codes "--first" ∷ codes "--last" ∷ codes "--address" ∷ codes "--phone" ∷ codes "--city" ∷ []
    else (if bytes_eq word (codes "bar") then customer_place
    else (if bytes_eq word (codes "unbar") then customer_place
    else stock_places word)))))

-- one of the words is the option of this name
abbrev pub is_given : List Text → Text → Bool
is_given words name = list_any (λ word. bytes_eq (option_name word) name) words

-- the places of the options that aren't given by their names
abbrev pub free_places : List Text → List Text → List Text
free_places words names = filter (λ name. not (is_given words name)) names

-- ---- naming

-- a value after the name of the first place, or without a name if no place is left
abbrev pub placed : List Text → Text → List Text
placed [] word = word ∷ []
placed (name ∷ names) word = name ∷ value_for name word ∷ []

-- the words after the subcommand; `awaits` says whether the first of them is the value of an option before
abbrev pub named_from : Bool → List Text → List Text → List Text
named_from awaits names [] = []
named_from awaits names (word ∷ words) = if awaits || is_option word then word ∷ named_from (awaits_value word) names words
    else placed names word ++ named_from false (drop 1 names) words

-- how many words come before the first word that is neither an option nor an option's value
abbrev pub place_from : Bool → List Text → ℕ
place_from awaits [] = 0
place_from awaits (word ∷ words) = if awaits || is_option word then suc (place_from (awaits_value word) words) else 0

abbrev pub word_place : List Text → ℕ
word_place = place_from false

-- the words from the subcommand on; another reader reads the words after `office`
abbrev pub named_behind : List Text → List Text
named_behind [] = []
named_behind (word ∷ words) = if bytes_eq word (codes "office") then word ∷ []
    else word ∷ named_from false (free_places words (places_of word)) words

-- the words with a name before each value, for the library `clap` to read
abbrev pub named_words : List Text → List Text
named_words words = take (word_place words) words ++ named_behind (drop (word_place words) words)

-- the words after the subcommand
abbrev pub office_words : List Text → List Text
office_words words = drop 1 (drop (word_place words) words)
