use Rattle.std.proofs.Common.{◌≡◌, take}
use Rattle.till_shows.specs.Tables.{column_width}
use Rattle.till_shows.proofs.tables.column_width.Given as goal

abbrev pub invariant-loop-row : goal.invariant-loop-row
invariant-loop-row l = l.most ≡ column_width l.at (take l.row-index l.rows)
