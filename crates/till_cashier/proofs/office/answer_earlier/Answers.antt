use Rattle.std.proofs.Common.{None}
use Rattle.sqlite.specs.Held.{state}
use Rattle.till_work.proofs.GoingOn.{tells_sends, none_sent}
use Rattle.till_cashier.proofs.GoingOn.{kept_ok, kept_before}
use Rattle.till_work.specs.Desk.{HasPlace}
use Rattle.till_work.proofs.Stops.{sent_at_any}
use Rattle.till_cashier.proofs.OfficeStops.{office_stays}
use Rattle.till_cashier.proofs.office.answer_earlier.Goals as goal

pub returns-then-place-clause-sends : goal.returns-then-place-clause-sends
returns-then-place-clause-sends g c clean kept =
    tells_sends _ None _ _ _ _ (none_sent _ c.args.place.now (state g.S.Store c.args.conn.now))

pub returns-then-is_down-clause-sends : goal.returns-then-is_down-clause-sends
returns-then-is_down-clause-sends g c clean kept =
    tells_sends _ None _ _ _ _ (none_sent _ c.args.place.now (state g.S.Store c.args.conn.now))

pub returns-in-Err-clause-sends : goal.returns-in-Err-clause-sends
returns-in-Err-clause-sends g c clean kept =
    c.in-Err.ensures.sends clean (kept_before c.in-Err.fault c.earlier_fault.result c.earlier_fault.ensures kept)

pub returns-clause-sends : goal.returns-clause-sends
returns-clause-sends g c clean kept = c.in-Ok.ensures.sends clean (kept_ok _)

pub returns-then-place-clause-crash : goal.returns-then-place-clause-crash
returns-then-place-clause-crash g c clean =
    office_stays _ c.args.place.now (state g.S.Store c.args.conn.now)

pub returns-then-is_down-clause-crash : goal.returns-then-is_down-clause-crash
returns-then-is_down-clause-crash g c clean =
    office_stays _ c.args.place.now (state g.S.Store c.args.conn.now)

pub returns-in-Err-clause-crash : goal.returns-in-Err-clause-crash
returns-in-Err-clause-crash g c clean =
    sent_at_any _ (HasPlace c.args.place.now (state g.S.Store c.args.conn.now)) (state g.S.Store c.send_all.new.conn) (c.send_all.ensures.crash clean)

pub returns-clause-crash : goal.returns-clause-crash
returns-clause-crash g c clean =
    sent_at_any _ (HasPlace c.args.place.now (state g.S.Store c.args.conn.now)) (state g.S.Store c.send_all.new.conn) (c.send_all.ensures.crash clean)
