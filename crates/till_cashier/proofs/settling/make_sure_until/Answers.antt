use Rattle.sqlite.specs.Held.{state}
use Rattle.till_cashier.proofs.GoingOn.{kept_ok, kept_as, stays_same, stays_keeps, same_then, same_keeps}
use Rattle.till_work.proofs.Stops.{settled_at_till}
use Rattle.till_book.specs.Steps.{Rests}
use Rattle.till_cashier.proofs.Stops.{rest_leaves, rest_then_leaves, stays_at_till}
use Rattle.till_cashier.proofs.settling.make_sure_until.Goals as goal

pub returns-in_err-entries-clause-same : goal.returns-in_err-entries-clause-same
returns-in_err-entries-clause-same g c clean kept =
    stays_same _ (state g.S.Store c.args.conn.now) (state g.S.Store c.open_entries.new.conn) (c.open_entries.ensures.stays clean)

pub returns-in_err-entries-clause-keeps : goal.returns-in_err-entries-clause-keeps
returns-in_err-entries-clause-keeps g c clean kept mark =
    stays_keeps _ mark (state g.S.Store c.args.conn.now) (state g.S.Store c.open_entries.new.conn) (c.open_entries.ensures.stays clean)

pub returns-in-Err-clause-same : goal.returns-in-Err-clause-same
returns-in-Err-clause-same g c clean kept =
    same_then _ (state g.S.Store c.args.conn.now) (state g.S.Store c.open_entries.new.conn) (state g.S.Store c.settle_refused.new.conn)
    (stays_same _ (state g.S.Store c.args.conn.now) (state g.S.Store c.open_entries.new.conn)
    (c.open_entries.ensures.stays (c.settle_refused.ensures.clean clean)))
    (c.in-Err.ensures.same clean (kept_as c.in-Err.fault kept))

pub returns-in-Err-clause-keeps : goal.returns-in-Err-clause-keeps
returns-in-Err-clause-keeps g c clean kept mark =
    same_keeps _ mark (state g.S.Store c.args.conn.now) (state g.S.Store c.settle_refused.new.conn) (returns-in-Err-clause-same g c clean kept)

pub returns-clause-same : goal.returns-clause-same
returns-clause-same g c clean kept =
    same_then _ (state g.S.Store c.args.conn.now) (state g.S.Store c.open_entries.new.conn) (state g.S.Store c.settle_refused.new.conn)
    (stays_same _ (state g.S.Store c.args.conn.now) (state g.S.Store c.open_entries.new.conn)
    (c.open_entries.ensures.stays (c.settle_refused.ensures.clean clean)))
    (c.in-Ok.ensures.same clean (kept_ok _))

pub returns-clause-keeps : goal.returns-clause-keeps
returns-clause-keeps g c clean kept mark =
    same_keeps _ mark (state g.S.Store c.args.conn.now) (state g.S.Store c.settle_refused.new.conn) (returns-clause-same g c clean kept)

pub returns-in_err-entries-clause-crash : goal.returns-in_err-entries-clause-crash
returns-in_err-entries-clause-crash g c clean =
    rest_leaves _ (state g.S.Store c.args.conn.now) (state g.S.Store c.open_entries.new.conn) (c.open_entries.ensures.stays clean)

pub returns-clause-crash : goal.returns-clause-crash
returns-clause-crash g c clean =
    rest_then_leaves _ (state g.S.Store c.args.conn.now) (state g.S.Store c.open_entries.new.conn) (state g.S.Store c.settle_refused.new.conn)
    (c.open_entries.ensures.stays (c.settle_refused.ensures.clean clean)) (c.settle_refused.ensures.crash clean)

pub returns-in-Err-clause-crash : goal.returns-in-Err-clause-crash
returns-in-Err-clause-crash g c clean =
    rest_then_leaves _ (state g.S.Store c.args.conn.now) (state g.S.Store c.open_entries.new.conn) (state g.S.Store c.settle_refused.new.conn)
    (c.open_entries.ensures.stays (c.settle_refused.ensures.clean clean)) (c.settle_refused.ensures.crash clean)

pub returns-in_err-entries-clause-crash_keeps : goal.returns-in_err-entries-clause-crash_keeps
returns-in_err-entries-clause-crash_keeps g c clean mark =
    stays_at_till _ mark (state g.S.Store c.args.conn.now) (state g.S.Store c.open_entries.new.conn) (c.open_entries.ensures.stays clean)

pub returns-clause-crash_keeps : goal.returns-clause-crash_keeps
returns-clause-crash_keeps g c clean mark =
    settled_at_till _ mark (Rests (state g.S.Store c.args.conn.now)) (state g.S.Store c.settle_refused.new.conn) (returns-clause-crash g c clean)

pub returns-in-Err-clause-crash_keeps : goal.returns-in-Err-clause-crash_keeps
returns-in-Err-clause-crash_keeps g c clean mark =
    settled_at_till _ mark (Rests (state g.S.Store c.args.conn.now)) (state g.S.Store c.settle_refused.new.conn)
    (returns-in-Err-clause-crash g c clean)
