use Rattle.shop_schema.proofs.Common.{◌≡◌, map, take, column, number_value}
use Rattle.shop_schema.proofs.read.row_numbers_in.Given as goal

-- the numbers of the rows so far
abbrev pub invariant-loop-row : goal.invariant-loop-row
invariant-loop-row g l = map number_value l.numbers.items ≡ map (λ row. column row 0) (take l.row-index l.rows)
