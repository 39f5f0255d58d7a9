use Rattle.std.proofs.Common.{arith}
use Rattle.till_program.proofs.Differences.{next_same, next_differs}
use Rattle.till_program.proofs.secret.is_same.Goals as goal

pub loop-at-preserved : goal.loop-at-preserved
loop-at-preserved c = record {
  same = λ e. next_same c.args.one.now c.args.two.now c.loop-at.differences c.loop-at.at c.loop-at.invariant.same e;
  differs = λ e. next_differs c.args.one.now c.args.two.now c.loop-at.differences c.loop-at.at (omega arith) (omega arith) c.loop-at.invariant.differs e;
}
