-- Defines why the reading of a stock file fails.
use Rattle.std.specs.Prelude.{◌≡◌, Err, ⊤}
use Rattle.stock_csv.specs.Rows.{StockRows}
use Rattle.stock_csv.specs.declared.StockFault.{StockFault}
use Rattle.stock_csv.specs.declared.StockFault.TheVariants.{Bad, Memory}

-- the line of the file's first fault, or out of memory, which may happen with any file
abbrev pub IsFaultOf : StockFault → StockRows → Type 0
IsFaultOf (Bad fault) rows = rows ≡ Err fault.line
IsFaultOf Memory rows = ⊤
