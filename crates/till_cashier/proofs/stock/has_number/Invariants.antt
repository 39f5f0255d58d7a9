use Rattle.std.proofs.Common.{◌≡◌, drop, map}
use Rattle.serde_json.specs.View.{view}
use Rattle.till_cashier.specs.Stocked.{has_number}
use Rattle.till_cashier.proofs.stock.has_number.Given as goal

-- no number before this one is the copy's
abbrev pub invariant-loop-row : goal.invariant-loop-row
invariant-loop-row l = has_number l.copy (map view (drop l.row-index l.rows)) ≡ has_number l.copy (map view l.rows)
