use Rattle.std.proofs.Common.{ℕ, List, sym, subst, arith, map}
use Rattle.std.specs.Prelude.{string_bytes}
use Rattle.sqlite.specs.Held.{state}
use Rattle.till_cashier.specs.Office.{SaysUnder}
use Rattle.till_cashier.proofs.InTurn.{used_if}
use Rattle.till_cashier.proofs.OfficeStops.{office_stays, office_read, read_then}
use Rattle.till_cashier.proofs.InTurn.{answered_if}
use Rattle.till_cashier.proofs.office.give_keyed.Goals as goal

pub returns-in-Ok-clause-turn : goal.returns-in-Ok-clause-turn
returns-in-Ok-clause-turn g c clean kept journal has =
    let read = c.give_request.ensures.clean clean in
    let mark = c.args.desk.now.settings.now.mark in
    let token = c.args.desk.now.settings.now.token in
    let words = map string_bytes c.args.words.now in
    let number = c.in_ok-number.number in
    c.give_request.ensures.turn clean kept mark token words number
    (subst (λ (it : List ℕ). SaysUnder mark token words number it) (sym c.as_slice.ensures.value) c.in-Ok.ensures.says)
    (omega (arith, c.if-place.false)) journal
    (record { rests = c.read_open_key.ensures.stays read journal has.rests; entries = has.entries; replies = has.replies })
    (c.in_ok-number.ensures.key read journal has.rests)

pub returns-in-Ok-clause-used : goal.returns-in-Ok-clause-used
returns-in-Ok-clause-used g c clean =
    let read = c.give_request.ensures.clean clean in
    let mark = c.args.desk.now.settings.now.mark in
    let token = c.args.desk.now.settings.now.token in
    let words = map string_bytes c.args.words.now in
    let number = c.in_ok-number.number in
    used_if mark token words _ number c.as_slice.result.now c.args.place.now c.give_request.new.place (state g.S.Store c.args.conn.now)
    (state g.S.Store c.read_open_key.new.conn) (state g.S.Store c.give_request.new.conn) c.give_request.result
    (subst (λ (it : List ℕ). SaysUnder mark token words number it) (sym c.as_slice.ensures.value) c.in-Ok.ensures.says)
    (omega (arith, c.if-place.false)) (c.read_open_key.ensures.stays read) (c.in_ok-number.ensures.key read)
    (c.give_request.ensures.given clean (omega (arith, c.if-place.false)))

pub returns-then-place-clause-crash : goal.returns-then-place-clause-crash
returns-then-place-clause-crash g c clean =
    office_stays _ c.args.place.now (state g.S.Store c.args.conn.now)

pub returns-in_err-number-clause-crash : goal.returns-in_err-number-clause-crash
returns-in_err-number-clause-crash g c clean =
    office_read _ c.args.place.now (state g.S.Store c.args.conn.now) (state g.S.Store c.read_open_key.new.conn) (c.read_open_key.ensures.stays clean)

pub returns-in-Ok-clause-crash : goal.returns-in-Ok-clause-crash
returns-in-Ok-clause-crash g c clean =
    read_then _ c.args.place.now (state g.S.Store c.args.conn.now) (state g.S.Store c.read_open_key.new.conn) (state g.S.Store c.give_request.new.conn)
    (c.read_open_key.ensures.stays (c.give_request.ensures.clean clean)) (c.give_request.ensures.crash clean)

pub returns-clause-crash : goal.returns-clause-crash
returns-clause-crash g c clean =
    office_read _ c.args.place.now (state g.S.Store c.args.conn.now) (state g.S.Store c.read_open_key.new.conn) (c.read_open_key.ensures.stays clean)

pub returns-in-Ok-clause-answered : goal.returns-in-Ok-clause-answered
returns-in-Ok-clause-answered g c clean =
    let read = c.give_request.ensures.clean clean in
    let mark = c.args.desk.now.settings.now.mark in
    let token = c.args.desk.now.settings.now.token in
    let words = map string_bytes c.args.words.now in
    let number = c.in_ok-number.number in
    answered_if _ mark token words number c.as_slice.result.now c.args.place.now c.give_request.new.place (state g.S.Store c.args.conn.now)
    (state g.S.Store c.read_open_key.new.conn) (state g.S.Store c.give_request.new.conn) c.give_request.result
    (subst (λ (it : List ℕ). SaysUnder mark token words number it) (sym c.as_slice.ensures.value) c.in-Ok.ensures.says)
    (omega (arith, c.if-place.false)) (c.read_open_key.ensures.stays read) (c.in_ok-number.ensures.key read)
    (c.give_request.ensures.given clean (omega (arith, c.if-place.false)))
