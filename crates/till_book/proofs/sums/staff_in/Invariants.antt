use Rattle.sql_rows.proofs.Common.{◌≡◌, []}
use Rattle.std.specs.Prelude.{drop}
use Rattle.till_book.specs.Tallies.{staff_in}
use Rattle.till_book.proofs.sums.staff_in.Given as goal

abbrev pub invariant-loop-it : goal.invariant-loop-it
invariant-loop-it l = staff_in l.found.items (drop l.it-index l.counted) ≡ staff_in [] l.counted
