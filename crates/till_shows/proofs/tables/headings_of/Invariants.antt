use Rattle.std.proofs.Common.{◌≡◌, take}
use Rattle.till_shows.specs.Tables.{seen_headings}
use Rattle.till_shows.proofs.tables.headings_of.Given as goal

abbrev pub invariant-loop-column : goal.invariant-loop-column
invariant-loop-column l = l.row ≡ seen_headings (take l.column-index l.columns)
