-- Lines that are said more shortly: several words that are looked for, and a number or a label alone.
use Rattle.std.specs.Prelude.{◌==◌, ◌&&◌, ◌||◌, Bool, not, length, List, [], ◌∷◌, ◌++◌, take, drop, codes, if◌then◌else◌}
use Rattle.std.specs.List.{list_any, join_by}
use Rattle.std.specs.Str.{bytes_eq}
use Rattle.clap.specs.Words.{Text}
use Rattle.till_words.specs.Labels.{is_number, is_labelled, unlabelled}
use Rattle.till_words.specs.Places.{is_option, word_place}

-- what is looked for: the texts with blanks between them; a customer may be looked for by the label
abbrev pub sought : Text → List Text → Text
sought word texts = if bytes_eq word (codes "customer") then unlabelled 75 (join_by (λ t. t) (codes " ") texts) else join_by (λ t. t) (codes " ") texts

-- the word looks for customers or films by a text
abbrev pub looks_for : Text → Bool
looks_for word = bytes_eq word (codes "customer") || bytes_eq word (codes "film")

-- a number or a copy's label is that copy, and a customer's label is that customer
abbrev pub spoken_alone : Text → List Text
spoken_alone word = if is_number word || is_labelled 67 word then codes "in-stock" ∷ word ∷ []
    else (if is_labelled 75 word then codes "customer" ∷ unlabelled 75 word ∷ []
    else word ∷ [])

abbrev pub spoken_with : Text → List Text → List Text
spoken_with word texts = if length texts == 0 then spoken_alone word
    else (if looks_for word && not (list_any is_option texts) then word ∷ sought word texts ∷ []
    else word ∷ texts)

abbrev pub spoken_from : List Text → List Text
spoken_from [] = []
spoken_from (word ∷ texts) = spoken_with word texts

-- the words as they would be typed in full; what comes before the word stays
abbrev pub spoken : List Text → List Text
spoken words = take (word_place words) words ++ spoken_from (drop (word_place words) words)
