-- Defines the copies that a stock file gives a shop, in the order in which they are numbered.
use Rattle.std.specs.Prelude.{◌≡◌, ℕ, ◌≤◌, ◌<◌, ◌^◌, true, List, length, Ok, Err, All, flat_map, replicate}
use Rattle.std.specs.List.{AllByRecursion}
use Rattle.shop_model.specs.Values.{Stock, Copies, BadLine}
use Rattle.shop_model.specs.Acts.{films_in}
use Rattle.shop_types.specs.Numbers.{is_row_number}
use Rattle.stock_csv.specs.declared.StockRow.{StockRow}
use Rattle.stock_csv.specs.Rows.{StockRows, stock_rows_of}

-- the film of each copy, row by row
abbrev pub films_of : List StockRow → List ℕ
films_of rows = flat_map (λ (row : StockRow). replicate row.copies row.film) rows

abbrev pub stock_from : StockRows → Stock
stock_from (Ok rows) = Copies (films_of rows)
stock_from (Err line) = BadLine line

abbrev pub stock_of : List ℕ → Stock
stock_of text = stock_from (stock_rows_of text)

pub record IsStockRow (row : StockRow) : Type 0 where
  pub film_low : 1 ≤ row.film
  pub film_high : row.film < 2 ^ 32
  pub copies_low : 1 ≤ row.copies
  pub copies_high : row.copies ≤ 99

-- 1 to 500 rows, and 1,000 copies at most in all
pub record IsStock (rows : List StockRow) : Type 0 where
  pub some : 1 ≤ length rows
  pub few : length rows ≤ 500
  pub copies : length (films_of rows) ≤ 1000
  pub each : All IsStockRow rows

-- the film of each copy is a row's number, and there are 1,000 copies at most
abbrev pub IsStockReading : Stock → Type 0
IsStockReading stock = AllByRecursion (λ film. is_row_number film ≡ true) (films_in stock) × (length (films_in stock) ≤ 1000)
