use Rattle.std.proofs.Common.{◌≡◌}
use Rattle.branch_reports.specs.Rewards.{payments_of, rewarded_numbers}
use Rattle.branch_reports.proofs.rewards.rewarded_among.Given as goal

-- the rewarded customers among the customers so far
abbrev pub invariant-loop-index : goal.invariant-loop-index
invariant-loop-index l = l.numbers.items ≡ rewarded_numbers l.fn.month l.purchases l.cents l.index (payments_of l.rows)
