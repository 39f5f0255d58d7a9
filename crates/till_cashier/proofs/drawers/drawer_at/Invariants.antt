use Rattle.std.proofs.Common.{◌≡◌, drop}
use Rattle.till_cashier.specs.Drawers.{drawer_at}
use Rattle.till_cashier.proofs.drawers.drawer_at.Given as goal

abbrev pub invariant-loop-it : goal.invariant-loop-it
invariant-loop-it l = drawer_at l.drawer (drop l.it-index l.changes) l.number ≡ drawer_at 0 l.changes l.number
