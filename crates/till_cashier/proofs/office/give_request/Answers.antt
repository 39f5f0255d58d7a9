use Rattle.std.proofs.Common.{◌+◌, refl}
use Rattle.sqlite.specs.Held.{state}
use Rattle.till_work.proofs.GoingOn.{entry_grows}
use Rattle.till_cashier.proofs.GoingOn.{kept_ok, kept_as, desk_kept}
use Rattle.till_cashier.proofs.InTurn.{same_none, none_turn, entry_turn, entry_sent, gives_one}
use Rattle.till_cashier.proofs.Stops.{entered_leaves, grows_then_leaves}
use Rattle.till_cashier.proofs.office.give_request.Goals as goal

pub returns-in-Err-clause-turn : goal.returns-in-Err-clause-turn
returns-in-Err-clause-turn g c clean kept mark token words n says answered journal has key =
    none_turn mark token words _ c.args.place.now c.enter_request.new.place (state g.S.Store c.args.conn.now) (state g.S.Store c.enter_request.new.conn)
    (same_none _ c.args.place.now c.enter_request.new.place (state g.S.Store c.args.conn.now) (state g.S.Store c.enter_request.new.conn)
    (c.in-Err.ensures.stays clean (desk_kept _ c.in-Err.fault c.from.ensures kept))) journal has

pub returns-then-is_down-clause-turn : goal.returns-then-is_down-clause-turn
returns-then-is_down-clause-turn g c clean kept mark token words n says answered journal has key =
    entry_turn mark token words _ (c.args.place.now.entries + 1) n c.args.request.now c.args.place.now c.enter_request.new.place
    (state g.S.Store c.args.conn.now) (state g.S.Store c.enter_request.new.conn) refl
    c.in-Ok.ensures.counted (c.in-Ok.ensures.entered clean) says answered journal has key

pub returns-in-Ok-Some-clause-turn : goal.returns-in-Ok-Some-clause-turn
returns-in-Ok-Some-clause-turn g c clean kept mark token words n says answered journal has key =
    entry_sent mark token words _ (c.args.place.now.entries + 1) n c.args.request.now c.args.place.now c.enter_request.new.place c.send_all.new.place
    (state g.S.Store c.args.conn.now) (state g.S.Store c.enter_request.new.conn) (state g.S.Store c.send_all.new.conn) refl
    c.in-Ok.ensures.counted (c.in-Ok.ensures.entered (c.send_all.ensures.clean clean)) says answered
    (c.in-Ok-Some.ensures.sends clean (kept_ok _)) journal has key

pub returns-in-Ok-None-clause-turn : goal.returns-in-Ok-None-clause-turn
returns-in-Ok-None-clause-turn g c clean kept mark token words n says answered journal has key =
    entry_sent mark token words _ (c.args.place.now.entries + 1) n c.args.request.now c.args.place.now c.enter_request.new.place c.send_all.new.place
    (state g.S.Store c.args.conn.now) (state g.S.Store c.enter_request.new.conn) (state g.S.Store c.send_all.new.conn) refl
    c.in-Ok.ensures.counted (c.in-Ok.ensures.entered (c.send_all.ensures.clean clean)) says answered
    (c.in-Ok-None.ensures.sends clean (kept_ok _)) journal has key

pub returns-in-Err-send_all-clause-turn : goal.returns-in-Err-send_all-clause-turn
returns-in-Err-send_all-clause-turn g c clean kept mark token words n says answered journal has key =
    entry_sent mark token words _ (c.args.place.now.entries + 1) n c.args.request.now c.args.place.now c.enter_request.new.place c.send_all.new.place
    (state g.S.Store c.args.conn.now) (state g.S.Store c.enter_request.new.conn) (state g.S.Store c.send_all.new.conn) refl
    c.in-Ok.ensures.counted (c.in-Ok.ensures.entered (c.send_all.ensures.clean clean)) says answered
    (c.in-Err-send_all.ensures.sends clean (kept_as c.in-Err-send_all.fault kept)) journal has key

pub returns-in-Ok-Some-clause-given : goal.returns-in-Ok-Some-clause-given
returns-in-Ok-Some-clause-given g c clean answered =
    gives_one _ c.args.request.now c.in-Ok-Some.answer c.args.place.now c.enter_request.new.place c.send_all.new.place
    (state g.S.Store c.args.conn.now) (state g.S.Store c.enter_request.new.conn) (state g.S.Store c.send_all.new.conn)
    (c.in-Ok.ensures.entered (c.send_all.ensures.clean clean)) c.in-Ok.ensures.counted
    (rw c.in-Ok-Some.field-0-is at (c.in-Ok-Some.ensures.told clean)) answered c.in-Ok-Some.ensures.all

pub returns-in-Err-clause-crash : goal.returns-in-Err-clause-crash
returns-in-Err-clause-crash g c clean =
    entered_leaves _ (c.args.place.now.entries + 1) c.args.request.now c.args.place.now
    (state g.S.Store c.args.conn.now) (state g.S.Store c.enter_request.new.conn) refl clean c.enter_request.ensures.crash

pub returns-then-is_down-clause-crash : goal.returns-then-is_down-clause-crash
returns-then-is_down-clause-crash g c clean =
    entered_leaves _ (c.args.place.now.entries + 1) c.args.request.now c.args.place.now
    (state g.S.Store c.args.conn.now) (state g.S.Store c.enter_request.new.conn) refl clean c.enter_request.ensures.crash

pub returns-in-Ok-Some-clause-crash : goal.returns-in-Ok-Some-clause-crash
returns-in-Ok-Some-clause-crash g c clean =
    grows_then_leaves _ c.args.place.now c.enter_request.new.place (state g.S.Store c.args.conn.now)
    (state g.S.Store c.enter_request.new.conn) (state g.S.Store c.send_all.new.conn)
    (entry_grows _ (c.args.place.now.entries + 1) c.args.request.now c.args.place.now c.enter_request.new.place
    (state g.S.Store c.args.conn.now) (state g.S.Store c.enter_request.new.conn) refl
    c.in-Ok.ensures.counted (c.in-Ok.ensures.entered (c.send_all.ensures.clean clean)))
    (c.send_all.ensures.crash clean)

pub returns-in-Ok-None-clause-crash : goal.returns-in-Ok-None-clause-crash
returns-in-Ok-None-clause-crash g c clean =
    grows_then_leaves _ c.args.place.now c.enter_request.new.place (state g.S.Store c.args.conn.now)
    (state g.S.Store c.enter_request.new.conn) (state g.S.Store c.send_all.new.conn)
    (entry_grows _ (c.args.place.now.entries + 1) c.args.request.now c.args.place.now c.enter_request.new.place
    (state g.S.Store c.args.conn.now) (state g.S.Store c.enter_request.new.conn) refl
    c.in-Ok.ensures.counted (c.in-Ok.ensures.entered (c.send_all.ensures.clean clean)))
    (c.send_all.ensures.crash clean)

pub returns-in-Err-send_all-clause-crash : goal.returns-in-Err-send_all-clause-crash
returns-in-Err-send_all-clause-crash g c clean =
    grows_then_leaves _ c.args.place.now c.enter_request.new.place (state g.S.Store c.args.conn.now)
    (state g.S.Store c.enter_request.new.conn) (state g.S.Store c.send_all.new.conn)
    (entry_grows _ (c.args.place.now.entries + 1) c.args.request.now c.args.place.now c.enter_request.new.place
    (state g.S.Store c.args.conn.now) (state g.S.Store c.enter_request.new.conn) refl
    c.in-Ok.ensures.counted (c.in-Ok.ensures.entered (c.send_all.ensures.clean clean)))
    (c.send_all.ensures.crash clean)
