-- Tables of texts, and the lines that show them.
use Rattle.std.specs.Prelude.{List}
use Rattle.shop_model.specs.Values.{Text}
use Rattle.till_shows.specs.declared.tables.Side.{Side}

-- what is written of a line so far, and the blanks to write before the next text, if one comes
pub record Line : Type 0 where
  pub text : Text
  pub gap : Text

-- how the texts of each column are aligned, and the rows; the first row has the headings
pub record Table : Type 0 where
  pub sides : List Side
  pub rows : List (List Text)
