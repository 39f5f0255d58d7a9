-- What any stock file says fits a shop's copies.
use Rattle.shop_types.proofs.Common.{◌≡◌, ◌<◌, ◌≤◌, ◌^◌, ℕ, suc, zero, List, [], ◌∷◌, ◌++◌, true, refl, arith, replicate, Ok, Err, AllByRecursion, nat_tests}
use Rattle.shop_types.proofs.Common.{recursion_from_All, is_row_number}
use Rattle.stock_csv.specs.declared.StockRow.{StockRow}
use Rattle.stock_csv.specs.Rows.{StockRows, stock_rows_of}
use Rattle.stock_csv.specs.Stock.{IsStockRow, IsStockReading, films_of, stock_from, stock_of}
use Rattle.stock_csv.proofs.LimitLemmas.{rows_are_stock}

abbrev AreRows : List ℕ → Type 0
AreRows films = AllByRecursion (λ film. is_row_number film ≡ true) films

is_row : (n : ℕ) → 1 ≤ n → n < 2 ^ 32 → is_row_number n ≡ true
is_row n low high = grind (arith, nat_tests)

copies_then : (n film : ℕ) (films : List ℕ) → is_row_number film ≡ true → AreRows films → AreRows (replicate n film ++ films)
copies_then zero film films is are = are
copies_then (suc n) film films is are = (is, copies_then n film films is are)

films_are_rows : (rows : List StockRow) → AllByRecursion IsStockRow rows → AreRows (films_of rows)
films_are_rows [] each = tt
films_are_rows (row ∷ rows) each =
    copies_then row.copies row.film (films_of rows) (is_row row.film each.0.film_low each.0.film_high) (films_are_rows rows each.1)

pub stock_fits : (file : List ℕ) → IsStockReading (stock_of file)
stock_fits file = said (stock_rows_of file) refl
  where
    said : (rows : StockRows) → stock_rows_of file ≡ rows → IsStockReading (stock_from rows)
    said (Ok rows) is =
        let stock = rows_are_stock file rows is in
        (films_are_rows rows (recursion_from_All IsStockRow rows stock.each), stock.copies)
    said (Err line) is = (tt, omega arith)
