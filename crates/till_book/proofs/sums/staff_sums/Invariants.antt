use Rattle.sql_rows.proofs.Common.{◌≡◌, ◌++◌, map}
use Rattle.std.specs.Prelude.{drop}
use Rattle.till_book.specs.Tallies.{staff_sum}
use Rattle.till_book.proofs.sums.staff_sums.Given as goal

abbrev pub invariant-loop-who : goal.invariant-loop-who
invariant-loop-who l = l.sums.items ++ map (staff_sum l.counted) (drop l.who-index l.staff) ≡ map (staff_sum l.counted) l.staff
