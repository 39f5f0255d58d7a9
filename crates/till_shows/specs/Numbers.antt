-- Numbers in a row, with commas between.
use Rattle.std.specs.Prelude.{ℕ, List, [], ◌∷◌, ◌++◌, codes, decimal}
use Rattle.std.specs.List.{fold}
use Rattle.shop_model.specs.Values.{Text}

-- the text and one more number, after a comma unless the text is empty
abbrev pub with_number : Text → ℕ → Text
with_number [] n = decimal n
with_number (x ∷ xs) n = (x ∷ xs) ++ (codes ", " ++ decimal n)

abbrev pub commas : List ℕ → Text
commas ns = fold with_number [] ns
