use Rattle.std.proofs.Common.{◌≡◌, ◌+◌, drop}
use Rattle.audit_rows.specs.Lists.{counts_from}
use Rattle.audit_rows.proofs.order.counts.Given as goal

abbrev pub invariant-loop-number : goal.invariant-loop-number
invariant-loop-number l = record {
  next : l.next ≡ l.number-index + 1;
  rest : counts_from l.next (drop l.number-index l.numbers) ≡ counts_from 1 l.numbers;
}
