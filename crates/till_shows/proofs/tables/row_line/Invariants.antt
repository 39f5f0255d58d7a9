use Rattle.std.proofs.Common.{◌≡◌, [], drop}
use Rattle.till_shows.specs.Tables.{with_cells}
use Rattle.till_shows.proofs.tables.row_line.Given as goal

-- the line so far, with the cells that are left
abbrev pub invariant-loop-at : goal.invariant-loop-at
invariant-loop-at l = with_cells l.at (drop l.at l.places) l.row l.line ≡ with_cells 0 l.places l.row (record { text = []; gap = [] })
