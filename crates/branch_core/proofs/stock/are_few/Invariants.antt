use Rattle.std.proofs.Common.{◌≡◌, ◌≤◌, take}
use Rattle.branch_core.specs.StockLists.{copies_of}
use Rattle.branch_core.proofs.stock.are_few.Given as goal

abbrev pub invariant-loop-row : goal.invariant-loop-row
invariant-loop-row l = (l.copies ≡ copies_of (take l.row-index l.rows)) × (l.copies ≤ 1_000)
