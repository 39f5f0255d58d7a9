use Rattle.sqlite.specs.Held.{state}
use Rattle.till_cashier.proofs.GoingOn.{kept_ok, kept_as, stays_same, same_then}
use Rattle.till_cashier.proofs.Stops.{rest_leaves, rest_then_leaves}
use Rattle.till_cashier.proofs.office.settle_earlier.Goals as goal

pub returns-in_err-entries-clause-same : goal.returns-in_err-entries-clause-same
returns-in_err-entries-clause-same g c clean kept =
    stays_same _ (state g.S.Store c.args.conn.now) (state g.S.Store c.read_doubtful.new.conn) (c.read_doubtful.ensures.stays clean)

pub returns-then-is_empty-clause-same : goal.returns-then-is_empty-clause-same
returns-then-is_empty-clause-same g c clean kept =
    stays_same _ (state g.S.Store c.args.conn.now) (state g.S.Store c.read_doubtful.new.conn) (c.read_doubtful.ensures.stays clean)

pub returns-then-is_down-clause-same : goal.returns-then-is_down-clause-same
returns-then-is_down-clause-same g c clean kept =
    stays_same _ (state g.S.Store c.args.conn.now) (state g.S.Store c.read_doubtful.new.conn) (c.read_doubtful.ensures.stays clean)

pub returns-in-Ok-true-clause-same : goal.returns-in-Ok-true-clause-same
returns-in-Ok-true-clause-same g c clean kept =
    same_then _ (state g.S.Store c.args.conn.now) (state g.S.Store c.read_doubtful.new.conn) (state g.S.Store c.settle_refused.new.conn)
    (stays_same _ (state g.S.Store c.args.conn.now) (state g.S.Store c.read_doubtful.new.conn)
    (c.read_doubtful.ensures.stays (c.settle_refused.ensures.clean clean))) (c.in-Ok-true.ensures.same clean (kept_ok _))

pub returns-in-Ok-false-clause-same : goal.returns-in-Ok-false-clause-same
returns-in-Ok-false-clause-same g c clean kept =
    same_then _ (state g.S.Store c.args.conn.now) (state g.S.Store c.read_doubtful.new.conn) (state g.S.Store c.settle_refused.new.conn)
    (stays_same _ (state g.S.Store c.args.conn.now) (state g.S.Store c.read_doubtful.new.conn)
    (c.read_doubtful.ensures.stays (c.settle_refused.ensures.clean clean))) (c.in-Ok-false.ensures.same clean (kept_ok _))

pub returns-in-Err-clause-same : goal.returns-in-Err-clause-same
returns-in-Err-clause-same g c clean kept =
    same_then _ (state g.S.Store c.args.conn.now) (state g.S.Store c.read_doubtful.new.conn) (state g.S.Store c.settle_refused.new.conn)
    (stays_same _ (state g.S.Store c.args.conn.now) (state g.S.Store c.read_doubtful.new.conn)
    (c.read_doubtful.ensures.stays (c.settle_refused.ensures.clean clean))) (c.in-Err.ensures.same clean (kept_as c.in-Err.fault kept))

pub returns-in_err-entries-clause-crash : goal.returns-in_err-entries-clause-crash
returns-in_err-entries-clause-crash g c clean =
    rest_leaves _ (state g.S.Store c.args.conn.now) (state g.S.Store c.read_doubtful.new.conn) (c.read_doubtful.ensures.stays clean)

pub returns-then-is_empty-clause-crash : goal.returns-then-is_empty-clause-crash
returns-then-is_empty-clause-crash g c clean =
    rest_leaves _ (state g.S.Store c.args.conn.now) (state g.S.Store c.read_doubtful.new.conn) (c.read_doubtful.ensures.stays clean)

pub returns-then-is_down-clause-crash : goal.returns-then-is_down-clause-crash
returns-then-is_down-clause-crash g c clean =
    rest_leaves _ (state g.S.Store c.args.conn.now) (state g.S.Store c.read_doubtful.new.conn) (c.read_doubtful.ensures.stays clean)

pub returns-in-Ok-true-clause-crash : goal.returns-in-Ok-true-clause-crash
returns-in-Ok-true-clause-crash g c clean =
    rest_then_leaves _ (state g.S.Store c.args.conn.now) (state g.S.Store c.read_doubtful.new.conn) (state g.S.Store c.settle_refused.new.conn)
    (c.read_doubtful.ensures.stays (c.settle_refused.ensures.clean clean)) (c.settle_refused.ensures.crash clean)

pub returns-in-Ok-false-clause-crash : goal.returns-in-Ok-false-clause-crash
returns-in-Ok-false-clause-crash g c clean =
    rest_then_leaves _ (state g.S.Store c.args.conn.now) (state g.S.Store c.read_doubtful.new.conn) (state g.S.Store c.settle_refused.new.conn)
    (c.read_doubtful.ensures.stays (c.settle_refused.ensures.clean clean)) (c.settle_refused.ensures.crash clean)

pub returns-in-Err-clause-crash : goal.returns-in-Err-clause-crash
returns-in-Err-clause-crash g c clean =
    rest_then_leaves _ (state g.S.Store c.args.conn.now) (state g.S.Store c.read_doubtful.new.conn) (state g.S.Store c.settle_refused.new.conn)
    (c.read_doubtful.ensures.stays (c.settle_refused.ensures.clean clean)) (c.settle_refused.ensures.crash clean)
