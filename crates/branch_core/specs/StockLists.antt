-- What the rows of a stock file list.
use Rattle.std.specs.Prelude.{ℕ, List, flat_map, replicate, sum_by}
use Rattle.branch_core.specs.declared.found.StockFound.{StockFound}

-- a film for each copy: each row's film, as often as the row has copies
abbrev pub films_of : List StockFound → List ℕ
films_of rows = flat_map (λ (row : StockFound). replicate row.copies row.film) rows

abbrev pub copies_of : List StockFound → ℕ
copies_of rows = sum_by (λ (row : StockFound). row.copies) rows
