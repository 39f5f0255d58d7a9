-- What a window sends to a desk, and what the desk replies, as bytes (our own form).
use Rattle.std.specs.Prelude.{ℕ, ◌≤◌, List, [], ◌∷◌, ◌++◌, length, codes}
use Rattle.std.specs.List.{flat_map, AllByRecursion}
use Rattle.std.specs.Int.{w32, to_be_bytes}

-- four bytes of length, and that many bytes
abbrev pub field : List ℕ → List ℕ
field text = to_be_bytes w32 (length text) ++ text

-- how many words a line has, and each word as a field
abbrev pub line : List (List ℕ) → List ℕ
line words = to_be_bytes w32 (length words) ++ flat_map field words

-- how each frame begins
abbrev pub beginning : List ℕ
beginning = codes "till-desk 1\n"

-- The beginning, the desk's secret, the line, and the stock file that the line names: none is an empty one.
abbrev pub frame : List ℕ → List ℕ → List ℕ → List ℕ
frame secret text file = beginning ++ secret ++ (field text ++ field file)

-- the word's status, what it printed, and what it printed of faults
abbrev pub reply : ℕ → List ℕ → List ℕ → List ℕ
reply status out err = status ∷ field out ++ field err

-- a line, a word and a file each have at most so many bytes
abbrev pub most : ℕ
most = 65_536

-- a reply's texts each have at most so many
abbrev pub most_said : ℕ
most_said = 67_108_864

-- what a line can say
abbrev pub AreWords : List (List ℕ) → Type 0
AreWords words = AllByRecursion (λ word. length word ≤ most) words
