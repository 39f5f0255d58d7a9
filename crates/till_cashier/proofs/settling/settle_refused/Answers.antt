use Rattle.sqlite.specs.Held.{state}
use Rattle.till_cashier.proofs.GoingOn.{kept_ok, kept_as, same_then}
use Rattle.till_cashier.proofs.Stops.{nothing_leaves, nothing_then_leaves}
use Rattle.till_cashier.proofs.settling.settle_refused.Goals as goal

pub returns-in-Ok-false-clause-same : goal.returns-in-Ok-false-clause-same
returns-in-Ok-false-clause-same g c clean kept =
    same_then _ (state g.S.Store c.args.conn.now) (state g.S.Store c.entries.conn) (state g.S.Store c.settle_one.new.conn)
    (c.entries.invariant.2 (c.settle_one.ensures.clean clean)) (c.in-Ok-false.ensures.same clean (kept_ok _))

pub returns-in-Err-clause-same : goal.returns-in-Err-clause-same
returns-in-Err-clause-same g c clean kept =
    same_then _ (state g.S.Store c.args.conn.now) (state g.S.Store c.entries.conn) (state g.S.Store c.settle_one.new.conn)
    (c.entries.invariant.2 (c.settle_one.ensures.clean clean)) (c.in-Err.ensures.same clean (kept_as c.in-Err.fault kept))

pub entries-preserved : goal.entries-preserved
entries-preserved g c = (
  c.settle_one.ensures.ended,
  (λ clean. c.entries.invariant.1 (c.settle_one.ensures.clean clean)),
  (λ clean.
      same_then _ (state g.S.Store c.args.conn.now) (state g.S.Store c.entries.conn) (state g.S.Store c.settle_one.new.conn)
      (c.entries.invariant.2 (c.settle_one.ensures.clean clean)) (c.in-Ok-true.ensures.same clean (kept_ok _))),
)

pub returns-clause-same : goal.returns-clause-same
returns-clause-same g c clean kept = c.entries.invariant.2 clean

pub returns-in-Ok-false-clause-crash : goal.returns-in-Ok-false-clause-crash
returns-in-Ok-false-clause-crash g c clean =
    nothing_then_leaves _ (state g.S.Store c.args.conn.now) (state g.S.Store c.entries.conn) (state g.S.Store c.settle_one.new.conn)
    (c.entries.invariant.2 (c.settle_one.ensures.clean clean)) (c.settle_one.ensures.crash clean)

pub returns-in-Err-clause-crash : goal.returns-in-Err-clause-crash
returns-in-Err-clause-crash g c clean =
    nothing_then_leaves _ (state g.S.Store c.args.conn.now) (state g.S.Store c.entries.conn) (state g.S.Store c.settle_one.new.conn)
    (c.entries.invariant.2 (c.settle_one.ensures.clean clean)) (c.settle_one.ensures.crash clean)

pub returns-clause-crash : goal.returns-clause-crash
returns-clause-crash g c clean =
    nothing_leaves _ (state g.S.Store c.args.conn.now) (state g.S.Store c.entries.conn) (c.entries.invariant.2 clean)
