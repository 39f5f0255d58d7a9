use Rattle.shop_types.proofs.Common.{◌≡◌, drop, are_lines}
use Rattle.branch_core.proofs.consignments.are_lines.Given as goal

-- the numbers so far are numbers of lines, and the low number is the last of them
abbrev pub invariant-loop-number : goal.invariant-loop-number
invariant-loop-number l = are_lines 0 l.lines l.numbers ≡ are_lines l.low l.lines (drop l.number-index l.numbers)
