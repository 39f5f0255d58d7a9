use Rattle.std.proofs.Common.{◌≡◌, drop}
use Rattle.till_shows.specs.Lists.{begins_with}
use Rattle.till_shows.proofs.lists.begins_with.Given as goal

-- the rest of the text begins with the rest of the part as the text does with the part
abbrev pub invariant-loop-t : goal.invariant-loop-t
invariant-loop-t l = begins_with l.left (drop l.t-index l.text) ≡ begins_with l.part l.text
