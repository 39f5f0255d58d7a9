-- Labels of copies and customers, as a scanner reads them: `C17` is copy 17, and `K4` is customer 4.
use Rattle.std.specs.Prelude.{ℕ, ◌==◌, ◌&&◌, Bool, false, [], ◌∷◌, is_some, codes, if◌then◌else◌}
use Rattle.std.specs.Str.{bytes_eq}
use Rattle.clap.specs.Words.{Text}
use Rattle.shop_types.specs.Numbers.{row_number_of}

-- a number from 1 on
abbrev pub is_number : Text → Bool
is_number text = is_some (row_number_of text)

-- the letter, and a number after it
abbrev pub is_labelled : ℕ → Text → Bool
is_labelled letter [] = false
is_labelled letter (b ∷ digits) = b == letter && is_number digits

-- the number of a label with this letter; any other text stays as it is
abbrev pub unlabelled : ℕ → Text → Text
unlabelled letter [] = []
unlabelled letter (b ∷ digits) = if is_labelled letter (b ∷ digits) then digits else b ∷ digits

-- the value for this option: a copy's label (C, 67) where a copy is wanted, and a customer's (K, 75) where a customer is wanted
abbrev pub value_for : Text → Text → Text
value_for name word = if bytes_eq name (codes "--copy") then unlabelled 67 word
    else (if bytes_eq name (codes "--customer") then unlabelled 75 word
    else word)
