use Rattle.std.proofs.Common.{◌≡◌, drop, []}
use Rattle.serde_json.specs.View.{view}
use Rattle.till_shows.specs.Bodies.{each, whole_number}
use Rattle.till_shows.proofs.EachLemmas.{behind}
use Rattle.till_shows.proofs.bodies.numbers_of.Given as goal

-- the numbers so far, and the numbers of the items that are left
abbrev pub invariant-loop-item : goal.invariant-loop-item
invariant-loop-item l =
    behind l.numbers.items (each (λ v. whole_number (view v)) (drop l.item-index l.items)) ≡ behind [] (each (λ v. whole_number (view v)) l.items)
