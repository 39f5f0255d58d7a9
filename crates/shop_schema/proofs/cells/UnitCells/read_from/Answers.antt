use Rattle.std.proofs.Common.{◌≡◌, length, drop, ap, arith, length-drop}
use Rattle.shop_schema.proofs.cells.UnitCells.read_from.Goals as goal

pub returns-else-at-column_count-clause-failed : goal.returns-else-at-column_count-clause-failed
returns-else-at-column_count-clause-failed c = λ failed x fits e.
    let left : 0 ≡ length (drop c.args.at c.args.row.now) = ap length e in
    omega (arith, left, length-drop c.args.at c.args.row.now, c.requires, c.column_count.ensures, c.if-at-column_count.false)
