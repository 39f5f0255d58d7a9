use Rattle.std.proofs.Common.{arith}
use Rattle.books_audit.specs.Read.{counts_of_branch}
use Rattle.books_audit.proofs.CounterRows.{next_branch}
use Rattle.books_audit.proofs.counts.counters.Goals as goal

pub loop-i-preserved : goal.loop-i-preserved
loop-i-preserved c = record {
  tallies = c.loop-i.invariant.tallies;
  same =
      next_branch (counts_of_branch c.args.rows.now) c.args.rows.now.branches.items c.loop-i.i
      (omega (arith, c.loop-i-test.true, c.len-i-end.ensures)) _ _ _ c.in_ok-add_branch.ensures c.loop-i.invariant.same;
}
