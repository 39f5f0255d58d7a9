use Rattle.std.proofs.Common.{◌≡◌, drop, map}
use Rattle.serde_json.specs.View.{view}
use Rattle.till_shows.specs.Lists.{first_named}
use Rattle.till_shows.proofs.lists.first_named.Given as goal

-- no object before this one has the number
abbrev pub invariant-loop-row : goal.invariant-loop-row
invariant-loop-row l = first_named l.by l.number l.name (map view (drop l.row-index l.rows)) ≡ first_named l.by l.number l.name (map view l.rows)
