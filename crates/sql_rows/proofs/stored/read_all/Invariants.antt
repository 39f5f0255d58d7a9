use Rattle.sql_rows.proofs.Common.{◌≡◌, map, take, AllByRecursion}
use Rattle.sql_rows.proofs.stored.read_all.Given as goal

abbrev pub invariant-loop-row : goal.invariant-loop-row
invariant-loop-row g l = record { columns : map g.T.Stored.columns l.all.items ≡ take l.row-index l.rows; values : AllByRecursion g.T.Stored.fits l.all.items }
