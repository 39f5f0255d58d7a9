use Rattle.std.proofs.Common.{◌≡◌, take}
use Rattle.till_shows.specs.Tables.{seen_sides}
use Rattle.till_shows.proofs.tables.sides_of.Given as goal

abbrev pub invariant-loop-column : goal.invariant-loop-column
invariant-loop-column l = l.sides.items ≡ seen_sides (take l.column-index l.columns)
