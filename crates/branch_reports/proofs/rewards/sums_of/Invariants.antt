use Rattle.std.proofs.Common.{take}
use Rattle.branch_reports.specs.Rewards.{AreSmall, AreSummed, payments_of}
use Rattle.branch_reports.proofs.rewards.sums_of.Given as goal

-- the sums of the payments so far
abbrev pub invariant-loop-row : goal.invariant-loop-row
invariant-loop-row l = record {
  summed : AreSummed l.month l.sums (payments_of (take l.row-index l.rows));
  small : AreSmall l.row-index l.sums;
}
