use Rattle.sql_rows.proofs.Common.{◌≡◌, ◌+◌}
use Rattle.std.specs.Prelude.{drop}
use Rattle.shop_model.specs.Rows.{total}
use Rattle.till_book.specs.Tallies.{worth_as}
use Rattle.till_book.proofs.sums.sum_of.Given as goal

abbrev pub invariant-loop-it : goal.invariant-loop-it
invariant-loop-it l = l.sum + total (worth_as l.what) (drop l.it-index l.counted) ≡ total (worth_as l.what) l.counted
