use Rattle.std.proofs.Common.{◌≡◌, drop}
use Rattle.till_shows.specs.Lists.{stands_in}
use Rattle.till_shows.proofs.lists.stands_in.Given as goal

-- the part doesn't begin before this place
abbrev pub invariant-loop-at : goal.invariant-loop-at
invariant-loop-at l = stands_in l.part (drop l.at l.text) ≡ stands_in l.part l.text
