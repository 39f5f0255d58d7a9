-- What is asked of a command's act, so that its step leaves rows that the program can hold.
use Rattle.std.specs.Prelude.{⊤, ◌≤◌, length}
use Rattle.std.specs.List.{AllByRecursion}
use Rattle.shop_model.specs.Values.{Stock, Act, Rules}
use Rattle.shop_model.specs.Values as model
use Rattle.shop_model.specs.Acts.{films_in}
use Rattle.shop_schema.specs.RowValues.{IsNumber}

-- the film of each copy that a stock file lists is a row's number, and it lists 1,000 copies at most
abbrev pub FilmsFit : Stock → Type 0
FilmsFit stock = AllByRecursion IsNumber (films_in stock) × (length (films_in stock) ≤ 1000)

-- what the rules read in a stock file fits the table of copies
abbrev pub FitsTables : Rules → Act → Type 0
FitsTables rules (model.Import lot file) = FilmsFit (rules.stock_of file)
FitsTables rules act = ⊤
