use Rattle.sqlite.specs.Held.{state}
use Rattle.till_work.proofs.GoingOn.{sends_goes, sends_grows, sends_stays, rests_stays}
use Rattle.till_cashier.proofs.GoingOn.{kept_ok, kept_as, goes_stays, grows_stays}
use Rattle.till_cashier.proofs.Doing.{sends_all, all_stays}
use Rattle.till_cashier.proofs.Adding.{sends_no_entry, no_entry_stays}
use Rattle.till_work.proofs.Stops.{sends_leaves}
use Rattle.std.specs.Prelude.{string_bytes}
use Rattle.till_requests.specs.Zones.{offset_of}
use Rattle.till_work.specs.Exchanged.{IsExchanged}
use Rattle.till_cashier.proofs.Printing.{if_ok_so}
use Rattle.till_cashier.proofs.Showing.{sent_shown}
use Rattle.till_cashier.proofs.sendings.send.Goals as goal

pub returns-in-Err-clause-keeps : goal.returns-in-Err-clause-keeps
returns-in-Err-clause-keeps g c clean kept mark =
    sends_goes _ mark c.args.place.now c.send_all.new.place (state g.S.Store c.args.conn.now) (state g.S.Store c.send_all.new.conn)
    (c.in-Err.ensures.sends clean (kept_as c.in-Err.fault kept))

pub returns-clause-keeps : goal.returns-clause-keeps
returns-clause-keeps g c clean kept mark =
    goes_stays _ mark c.args.place.now c.send_all.new.place (state g.S.Store c.args.conn.now)
    (state g.S.Store c.send_all.new.conn) (state g.S.Store c.entries_after.new.conn)
    (sends_goes _ mark c.args.place.now c.send_all.new.place (state g.S.Store c.args.conn.now) (state g.S.Store c.send_all.new.conn)
    (c.in-Ok.ensures.sends (c.entries_after.ensures.clean clean) (kept_ok _))) (c.entries_after.ensures.stays clean)

pub returns-in-Err-clause-grows : goal.returns-in-Err-clause-grows
returns-in-Err-clause-grows g c clean kept =
    sends_grows _ c.args.place.now c.send_all.new.place (state g.S.Store c.args.conn.now) (state g.S.Store c.send_all.new.conn)
    (c.in-Err.ensures.sends clean (kept_as c.in-Err.fault kept))

pub returns-clause-grows : goal.returns-clause-grows
returns-clause-grows g c clean kept =
    grows_stays _ c.args.place.now c.send_all.new.place (state g.S.Store c.args.conn.now)
    (state g.S.Store c.send_all.new.conn) (state g.S.Store c.entries_after.new.conn)
    (sends_grows _ c.args.place.now c.send_all.new.place (state g.S.Store c.args.conn.now) (state g.S.Store c.send_all.new.conn)
    (c.in-Ok.ensures.sends (c.entries_after.ensures.clean clean) (kept_ok _))) (c.entries_after.ensures.stays clean)

pub returns-clause-sent : goal.returns-clause-sent
returns-clause-sent g c clean =
    all_stays _ c.entries_after.result c.args.place.now c.send_all.new.place (state g.S.Store c.args.conn.now)
    (state g.S.Store c.send_all.new.conn) (state g.S.Store c.entries_after.new.conn)
    (sends_all _ c.args.place.now c.send_all.new.place (state g.S.Store c.args.conn.now) (state g.S.Store c.send_all.new.conn)
    (c.in-Ok.ensures.sends (c.entries_after.ensures.clean clean) (kept_ok _)) c.in-Ok.ensures.all) (c.entries_after.ensures.stays clean)

pub returns-in-Err-clause-adds : goal.returns-in-Err-clause-adds
returns-in-Err-clause-adds g c clean kept mark =
    sends_no_entry _ mark c.args.place.now c.send_all.new.place (state g.S.Store c.args.conn.now) (state g.S.Store c.send_all.new.conn)
    (c.in-Err.ensures.sends clean (kept_as c.in-Err.fault kept))

pub returns-clause-adds : goal.returns-clause-adds
returns-clause-adds g c clean kept mark =
    no_entry_stays mark c.args.place.now c.send_all.new.place (state g.S.Store c.args.conn.now)
    (state g.S.Store c.send_all.new.conn) (state g.S.Store c.entries_after.new.conn)
    (sends_no_entry _ mark c.args.place.now c.send_all.new.place (state g.S.Store c.args.conn.now) (state g.S.Store c.send_all.new.conn)
    (c.in-Ok.ensures.sends (c.entries_after.ensures.clean clean) (kept_ok _))) (c.entries_after.ensures.stays clean)

pub returns-clause-crash : goal.returns-clause-crash
returns-clause-crash g c clean =
    sends_leaves _ c.args.place.now c.send_all.new.place (state g.S.Store c.args.conn.now) (state g.S.Store c.entries_after.new.conn)
    (sends_stays _ c.args.place.now c.send_all.new.place c.send_all.new.place (state g.S.Store c.args.conn.now)
    (state g.S.Store c.send_all.new.conn) (state g.S.Store c.entries_after.new.conn)
    (c.in-Ok.ensures.sends (c.entries_after.ensures.clean clean) (kept_ok _))
    (rests_stays c.send_all.new.place (state g.S.Store c.send_all.new.conn) (state g.S.Store c.entries_after.new.conn) (c.entries_after.ensures.stays clean)))

pub returns-clause-says : goal.returns-clause-says
returns-clause-says g c clean =
    let looked = c.entries_after.ensures.clean clean in
    if_ok_so c.entries_after.result _ _ (c.entries_after.ensures.says clean)
    (λ said shows. sent_shown (IsExchanged (g.V.Server.opens c.args.desk.now.server.now) g.V.Reader.Read.remaining g.V.Writer.Write.contents)
    c.args.desk.now.wall (offset_of c.args.desk.now.settings.now.zone) c.args.desk.now.settings.now.staff
    c.args.place.now c.send_all.new.place (state g.S.Store c.args.conn.now) (state g.S.Store c.send_all.new.conn)
    (state g.S.Store c.entries_after.new.conn) (string_bytes said.text)
    (sends_all _ c.args.place.now c.send_all.new.place (state g.S.Store c.args.conn.now) (state g.S.Store c.send_all.new.conn)
    (c.in-Ok.ensures.sends looked (kept_ok _)) c.in-Ok.ensures.all)
    (c.entries_after.ensures.stays clean) shows)
