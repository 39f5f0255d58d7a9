use Rattle.std.proofs.Common.{◌≡◌, ◌++◌, drop}
use Rattle.till_cashier.specs.Drawers.{own_of}
use Rattle.till_cashier.proofs.drawers.own_entries.Given as goal

abbrev pub invariant-loop-it : goal.invariant-loop-it
invariant-loop-it l = l.own.items ++ own_of l.changes l.drawer (drop l.it-index l.came) ≡ own_of l.changes l.drawer l.came
