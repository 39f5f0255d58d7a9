use Rattle.std.proofs.Common.{◌≡◌, [], drop, map}
use Rattle.serde_json.specs.View.{view}
use Rattle.till_shows.specs.Bodies.{each}
use Rattle.till_shows.proofs.EachLemmas.{behind}
use Rattle.till_cashier.specs.Late.{late_of, seen_late}
use Rattle.till_cashier.proofs.overdue.lates_of.Given as goal

-- the rentals so far, and the objects that are left
abbrev pub invariant-loop-row : goal.invariant-loop-row
invariant-loop-row l =
    behind (map seen_late l.lates.items) (each (λ v. late_of (view v)) (drop l.row-index l.rows)) ≡ behind [] (each (λ v. late_of (view v)) l.rows)
