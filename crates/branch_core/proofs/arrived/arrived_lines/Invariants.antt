use Rattle.shop_types.proofs.Common.{◌≡◌, ◌+◌, ◌++◌, drop, arrived}
use Rattle.branch_core.proofs.ConsignmentLemmas.{arrived_from}
use Rattle.branch_core.proofs.arrived.arrived_lines.Given as goal

-- the lines so far, and the later lines that aren't missing, are all lines that arrived
abbrev pub invariant-loop-line : goal.invariant-loop-line
invariant-loop-line l = record {
  place : l.place ≡ 1 + l.line-index;
  come : l.come.items ++ arrived_from l.missing l.place (drop l.line-index l.lines) ≡ arrived l.missing l.lines;
}
