use Rattle.std.proofs.Common.{◌≡◌, ◌++◌, drop}
use Rattle.till_shows.specs.Tables.{places}
use Rattle.till_shows.proofs.tables.places.Given as goal

-- the places so far, and the places of the sides that are left
abbrev pub invariant-loop-at : goal.invariant-loop-at
invariant-loop-at l = l.places.items ++ places l.at (drop l.at l.sides) l.rows ≡ places 0 l.sides l.rows
