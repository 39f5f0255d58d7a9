use Rattle.std.proofs.Common.{◌∙◌, sym, map}
use Rattle.std.specs.Prelude.{string_bytes}
use Rattle.sqlite.specs.Held.{state}
use Rattle.till_cashier.proofs.GoingOn.{kept_ok, kept_as}
use Rattle.till_cashier.proofs.InTurn.{settles_none, none_turn, turn_none, turn_after, used_turn}
use Rattle.till_cashier.proofs.InTurn.{turn_grows}
use Rattle.till_cashier.proofs.OfficeStops.{none_grows, grown_then, settling_left}
use Rattle.till_client.specs.Replies.{seen_answer}
use Rattle.till_cashier.proofs.InTurn.{answered_after, answered_none, used_answered}
use Rattle.till_cashier.proofs.Printing.{if_ok_so}
use Rattle.till_cashier.proofs.office.give_words.Goals as goal

pub returns-in-Err-clause-turn : goal.returns-in-Err-clause-turn
returns-in-Err-clause-turn g c clean kept =
    none_turn c.args.desk.now.settings.now.mark c.args.desk.now.settings.now.token (map string_bytes c.args.words.now) _ c.args.place.now c.args.place.now
    (state g.S.Store c.args.conn.now) (state g.S.Store c.settle_earlier.new.conn)
    (settles_none _ c.args.place.now (state g.S.Store c.args.conn.now) (state g.S.Store c.settle_earlier.new.conn)
    (c.in-Err.ensures.same clean (kept_as c.in-Err.fault kept)))

pub returns-in-Err-give_keyed-clause-turn : goal.returns-in-Err-give_keyed-clause-turn
returns-in-Err-give_keyed-clause-turn g c clean kept =
    turn_after c.args.desk.now.settings.now.mark c.args.desk.now.settings.now.token (map string_bytes c.args.words.now) _ c.args.place.now c.args.place.now
    c.give_keyed.new.place (state g.S.Store c.args.conn.now) (state g.S.Store c.settle_earlier.new.conn) (state g.S.Store c.give_keyed.new.conn)
    (settles_none _ c.args.place.now (state g.S.Store c.args.conn.now) (state g.S.Store c.settle_earlier.new.conn)
    (c.in-Ok.ensures.same (c.give_keyed.ensures.clean clean) (kept_ok _)))
    (c.in-Err-give_keyed.ensures.turn clean (kept_as c.in-Err-give_keyed.fault kept))

pub returns-then-not-is_key_used-clause-turn : goal.returns-then-not-is_key_used-clause-turn
returns-then-not-is_key_used-clause-turn g c clean kept =
    turn_after c.args.desk.now.settings.now.mark c.args.desk.now.settings.now.token (map string_bytes c.args.words.now) _ c.args.place.now c.args.place.now
    c.give_keyed.new.place (state g.S.Store c.args.conn.now) (state g.S.Store c.settle_earlier.new.conn) (state g.S.Store c.give_keyed.new.conn)
    (settles_none _ c.args.place.now (state g.S.Store c.args.conn.now) (state g.S.Store c.settle_earlier.new.conn)
    (c.in-Ok.ensures.same (c.give_keyed.ensures.clean clean) (kept_ok _)))
    (c.in-Ok-give_keyed.ensures.turn clean (kept_ok _))

pub returns-in-Err-settle_earlier-clause-turn : goal.returns-in-Err-settle_earlier-clause-turn
returns-in-Err-settle_earlier-clause-turn g c clean kept =
    let given = c.settle_earlier-2.ensures.clean clean in
    turn_none c.args.desk.now.settings.now.mark c.args.desk.now.settings.now.token (map string_bytes c.args.words.now) _ c.args.place.now
    c.give_keyed.new.place c.give_keyed.new.place (state g.S.Store c.args.conn.now) (state g.S.Store c.give_keyed.new.conn)
    (state g.S.Store c.settle_earlier-2.new.conn)
    (turn_after c.args.desk.now.settings.now.mark c.args.desk.now.settings.now.token (map string_bytes c.args.words.now) _ c.args.place.now c.args.place.now
    c.give_keyed.new.place (state g.S.Store c.args.conn.now) (state g.S.Store c.settle_earlier.new.conn) (state g.S.Store c.give_keyed.new.conn)
    (settles_none _ c.args.place.now (state g.S.Store c.args.conn.now) (state g.S.Store c.settle_earlier.new.conn)
    (c.in-Ok.ensures.same (c.give_keyed.ensures.clean given) (kept_ok _)))
    (c.in-Ok-give_keyed.ensures.turn given (kept_ok _)))
    (settles_none _ c.give_keyed.new.place (state g.S.Store c.give_keyed.new.conn) (state g.S.Store c.settle_earlier-2.new.conn)
    (c.in-Err-settle_earlier.ensures.same clean (kept_as c.in-Err-settle_earlier.fault kept)))

pub returns-then-as_str-before-clause-turn : goal.returns-then-as_str-before-clause-turn
returns-then-as_str-before-clause-turn g c clean kept =
    let given = c.settle_earlier-2.ensures.clean clean in
    turn_none c.args.desk.now.settings.now.mark c.args.desk.now.settings.now.token (map string_bytes c.args.words.now) _ c.args.place.now
    c.give_keyed.new.place c.give_keyed.new.place (state g.S.Store c.args.conn.now) (state g.S.Store c.give_keyed.new.conn)
    (state g.S.Store c.settle_earlier-2.new.conn)
    (turn_after c.args.desk.now.settings.now.mark c.args.desk.now.settings.now.token (map string_bytes c.args.words.now) _ c.args.place.now c.args.place.now
    c.give_keyed.new.place (state g.S.Store c.args.conn.now) (state g.S.Store c.settle_earlier.new.conn) (state g.S.Store c.give_keyed.new.conn)
    (settles_none _ c.args.place.now (state g.S.Store c.args.conn.now) (state g.S.Store c.settle_earlier.new.conn)
    (c.in-Ok.ensures.same (c.give_keyed.ensures.clean given) (kept_ok _)))
    (c.in-Ok-give_keyed.ensures.turn given (kept_ok _)))
    (settles_none _ c.give_keyed.new.place (state g.S.Store c.give_keyed.new.conn) (state g.S.Store c.settle_earlier-2.new.conn)
    (c.in-Ok-settle_earlier.ensures.same clean (kept_ok _)))

pub returns-clause-turn : goal.returns-clause-turn
returns-clause-turn g c clean kept =
    let settled = c.give_keyed-2.ensures.clean clean in
    let given = c.settle_earlier-2.ensures.clean settled in
    turn_after c.args.desk.now.settings.now.mark c.args.desk.now.settings.now.token (map string_bytes c.args.words.now) _ c.args.place.now c.args.place.now
    c.give_keyed-2.new.place (state g.S.Store c.args.conn.now) (state g.S.Store c.settle_earlier.new.conn) (state g.S.Store c.give_keyed-2.new.conn)
    (settles_none _ c.args.place.now (state g.S.Store c.args.conn.now) (state g.S.Store c.settle_earlier.new.conn)
    (c.in-Ok.ensures.same (c.give_keyed.ensures.clean given) (kept_ok _)))
    (used_turn c.args.desk.now.settings.now.mark c.args.desk.now.settings.now.token (map string_bytes c.args.words.now) _ c.args.place.now
    c.give_keyed.new.place c.give_keyed-2.new.place (state g.S.Store c.settle_earlier.new.conn) (state g.S.Store c.give_keyed.new.conn)
    (state g.S.Store c.give_keyed-2.new.conn)
    (c.in-Ok-give_keyed.ensures.used given (sym c.is_key_used.ensures ∙ c.if-not-is_key_used.false))
    (turn_after c.args.desk.now.settings.now.mark c.args.desk.now.settings.now.token (map string_bytes c.args.words.now) _ c.give_keyed.new.place
    c.give_keyed.new.place c.give_keyed-2.new.place (state g.S.Store c.give_keyed.new.conn) (state g.S.Store c.settle_earlier-2.new.conn)
    (state g.S.Store c.give_keyed-2.new.conn)
    (settles_none _ c.give_keyed.new.place (state g.S.Store c.give_keyed.new.conn) (state g.S.Store c.settle_earlier-2.new.conn)
    (c.in-Ok-settle_earlier.ensures.same settled (kept_ok _)))
    (c.give_keyed-2.ensures.turn clean kept)))

pub returns-in-Err-clause-crash : goal.returns-in-Err-clause-crash
returns-in-Err-clause-crash g c clean =
    settling_left _ c.args.place.now (state g.S.Store c.args.conn.now) (state g.S.Store c.settle_earlier.new.conn) (c.settle_earlier.ensures.crash clean)

pub returns-in-Err-give_keyed-clause-crash : goal.returns-in-Err-give_keyed-clause-crash
returns-in-Err-give_keyed-clause-crash g c clean =
    grown_then _ c.args.place.now c.args.place.now (state g.S.Store c.args.conn.now)
    (state g.S.Store c.settle_earlier.new.conn) (state g.S.Store c.give_keyed.new.conn)
    (none_grows _ c.args.place.now c.args.place.now (state g.S.Store c.args.conn.now) (state g.S.Store c.settle_earlier.new.conn)
    (settles_none _ c.args.place.now (state g.S.Store c.args.conn.now) (state g.S.Store c.settle_earlier.new.conn)
    (c.in-Ok.ensures.same (c.give_keyed.ensures.clean clean) (kept_ok _))))
    (c.give_keyed.ensures.crash clean)

pub returns-then-not-is_key_used-clause-crash : goal.returns-then-not-is_key_used-clause-crash
returns-then-not-is_key_used-clause-crash g c clean =
    grown_then _ c.args.place.now c.args.place.now (state g.S.Store c.args.conn.now)
    (state g.S.Store c.settle_earlier.new.conn) (state g.S.Store c.give_keyed.new.conn)
    (none_grows _ c.args.place.now c.args.place.now (state g.S.Store c.args.conn.now) (state g.S.Store c.settle_earlier.new.conn)
    (settles_none _ c.args.place.now (state g.S.Store c.args.conn.now) (state g.S.Store c.settle_earlier.new.conn)
    (c.in-Ok.ensures.same (c.give_keyed.ensures.clean clean) (kept_ok _))))
    (c.give_keyed.ensures.crash clean)

pub returns-in-Err-settle_earlier-clause-crash : goal.returns-in-Err-settle_earlier-clause-crash
returns-in-Err-settle_earlier-clause-crash g c clean =
    let given = c.settle_earlier-2.ensures.clean clean in
    grown_then _ c.args.place.now c.args.place.now (state g.S.Store c.args.conn.now)
    (state g.S.Store c.settle_earlier.new.conn) (state g.S.Store c.settle_earlier-2.new.conn)
    (none_grows _ c.args.place.now c.args.place.now (state g.S.Store c.args.conn.now) (state g.S.Store c.settle_earlier.new.conn)
    (settles_none _ c.args.place.now (state g.S.Store c.args.conn.now) (state g.S.Store c.settle_earlier.new.conn)
    (c.in-Ok.ensures.same (c.give_keyed.ensures.clean given) (kept_ok _))))
    (grown_then _ c.args.place.now c.give_keyed.new.place (state g.S.Store c.settle_earlier.new.conn)
    (state g.S.Store c.give_keyed.new.conn) (state g.S.Store c.settle_earlier-2.new.conn)
    (turn_grows c.args.desk.now.settings.now.mark c.args.desk.now.settings.now.token
    (map string_bytes c.args.words.now) _ c.args.place.now c.give_keyed.new.place (state g.S.Store c.settle_earlier.new.conn)
    (state g.S.Store c.give_keyed.new.conn) (c.in-Ok-give_keyed.ensures.turn (given) (kept_ok _)))
    (settling_left _ c.give_keyed.new.place (state g.S.Store c.give_keyed.new.conn)
    (state g.S.Store c.settle_earlier-2.new.conn) (c.settle_earlier-2.ensures.crash clean)))

pub returns-then-as_str-before-clause-crash : goal.returns-then-as_str-before-clause-crash
returns-then-as_str-before-clause-crash g c clean =
    let given = c.settle_earlier-2.ensures.clean clean in
    grown_then _ c.args.place.now c.args.place.now (state g.S.Store c.args.conn.now)
    (state g.S.Store c.settle_earlier.new.conn) (state g.S.Store c.settle_earlier-2.new.conn)
    (none_grows _ c.args.place.now c.args.place.now (state g.S.Store c.args.conn.now) (state g.S.Store c.settle_earlier.new.conn)
    (settles_none _ c.args.place.now (state g.S.Store c.args.conn.now) (state g.S.Store c.settle_earlier.new.conn)
    (c.in-Ok.ensures.same (c.give_keyed.ensures.clean given) (kept_ok _))))
    (grown_then _ c.args.place.now c.give_keyed.new.place (state g.S.Store c.settle_earlier.new.conn)
    (state g.S.Store c.give_keyed.new.conn) (state g.S.Store c.settle_earlier-2.new.conn)
    (turn_grows c.args.desk.now.settings.now.mark c.args.desk.now.settings.now.token
    (map string_bytes c.args.words.now) _ c.args.place.now c.give_keyed.new.place (state g.S.Store c.settle_earlier.new.conn)
    (state g.S.Store c.give_keyed.new.conn) (c.in-Ok-give_keyed.ensures.turn (given) (kept_ok _)))
    (settling_left _ c.give_keyed.new.place (state g.S.Store c.give_keyed.new.conn)
    (state g.S.Store c.settle_earlier-2.new.conn) (c.settle_earlier-2.ensures.crash clean)))

pub returns-clause-crash : goal.returns-clause-crash
returns-clause-crash g c clean =
    let settled = c.give_keyed-2.ensures.clean clean in
    let given = c.settle_earlier-2.ensures.clean settled in
    grown_then _ c.args.place.now c.args.place.now (state g.S.Store c.args.conn.now)
    (state g.S.Store c.settle_earlier.new.conn) (state g.S.Store c.give_keyed-2.new.conn)
    (none_grows _ c.args.place.now c.args.place.now (state g.S.Store c.args.conn.now) (state g.S.Store c.settle_earlier.new.conn)
    (settles_none _ c.args.place.now (state g.S.Store c.args.conn.now) (state g.S.Store c.settle_earlier.new.conn)
    (c.in-Ok.ensures.same (c.give_keyed.ensures.clean given) (kept_ok _))))
    (grown_then _ c.args.place.now c.give_keyed.new.place (state g.S.Store c.settle_earlier.new.conn)
    (state g.S.Store c.give_keyed.new.conn) (state g.S.Store c.give_keyed-2.new.conn)
    (turn_grows c.args.desk.now.settings.now.mark c.args.desk.now.settings.now.token
    (map string_bytes c.args.words.now) _ c.args.place.now c.give_keyed.new.place (state g.S.Store c.settle_earlier.new.conn)
    (state g.S.Store c.give_keyed.new.conn) (c.in-Ok-give_keyed.ensures.turn (given) (kept_ok _)))
    (grown_then _ c.give_keyed.new.place c.give_keyed.new.place (state g.S.Store c.give_keyed.new.conn)
    (state g.S.Store c.settle_earlier-2.new.conn) (state g.S.Store c.give_keyed-2.new.conn)
    (none_grows _ c.give_keyed.new.place c.give_keyed.new.place (state g.S.Store c.give_keyed.new.conn) (state g.S.Store c.settle_earlier-2.new.conn)
    (settles_none _ c.give_keyed.new.place (state g.S.Store c.give_keyed.new.conn)
    (state g.S.Store c.settle_earlier-2.new.conn) (c.in-Ok-settle_earlier.ensures.same settled (kept_ok _))))
    (c.give_keyed-2.ensures.crash clean)))

-- ---- the last reply

pub returns-then-not-is_key_used-clause-answered : goal.returns-then-not-is_key_used-clause-answered
returns-then-not-is_key_used-clause-answered g c clean =
    answered_after _ c.args.desk.now.settings.now.mark c.args.desk.now.settings.now.token
    (map string_bytes c.args.words.now) (seen_answer c.in-Ok-give_keyed.answer)
    c.args.place.now c.args.place.now c.give_keyed.new.place
    (state g.S.Store c.args.conn.now) (state g.S.Store c.settle_earlier.new.conn) (state g.S.Store c.give_keyed.new.conn)
    (settles_none _ c.args.place.now (state g.S.Store c.args.conn.now) (state g.S.Store c.settle_earlier.new.conn)
    (c.in-Ok.ensures.same (c.give_keyed.ensures.clean clean) (kept_ok _)))
    (c.in-Ok-give_keyed.ensures.answered clean)

pub returns-then-as_str-before-clause-answered : goal.returns-then-as_str-before-clause-answered
returns-then-as_str-before-clause-answered g c clean =
    let given = c.settle_earlier-2.ensures.clean clean in
    answered_none _ c.args.desk.now.settings.now.mark c.args.desk.now.settings.now.token
    (map string_bytes c.args.words.now) (seen_answer c.in-Ok-give_keyed.answer)
    c.args.place.now c.give_keyed.new.place c.give_keyed.new.place
    (state g.S.Store c.args.conn.now) (state g.S.Store c.give_keyed.new.conn) (state g.S.Store c.settle_earlier-2.new.conn)
    (answered_after _ c.args.desk.now.settings.now.mark c.args.desk.now.settings.now.token
    (map string_bytes c.args.words.now) (seen_answer c.in-Ok-give_keyed.answer)
    c.args.place.now c.args.place.now c.give_keyed.new.place
    (state g.S.Store c.args.conn.now) (state g.S.Store c.settle_earlier.new.conn) (state g.S.Store c.give_keyed.new.conn)
    (settles_none _ c.args.place.now (state g.S.Store c.args.conn.now) (state g.S.Store c.settle_earlier.new.conn)
    (c.in-Ok.ensures.same (c.give_keyed.ensures.clean given) (kept_ok _)))
    (c.in-Ok-give_keyed.ensures.answered given))
    (settles_none _ c.give_keyed.new.place (state g.S.Store c.give_keyed.new.conn) (state g.S.Store c.settle_earlier-2.new.conn)
    (c.in-Ok-settle_earlier.ensures.same clean (kept_ok _)))

pub returns-clause-answered : goal.returns-clause-answered
returns-clause-answered g c clean =
    let settled = c.give_keyed-2.ensures.clean clean in
    let given = c.settle_earlier-2.ensures.clean settled in
    if_ok_so c.give_keyed-2.result _ _ (c.give_keyed-2.ensures.answered clean)
    (λ answer answered.
    answered_after _ c.args.desk.now.settings.now.mark c.args.desk.now.settings.now.token (map string_bytes c.args.words.now) (seen_answer answer)
    c.args.place.now c.args.place.now c.give_keyed-2.new.place
    (state g.S.Store c.args.conn.now) (state g.S.Store c.settle_earlier.new.conn) (state g.S.Store c.give_keyed-2.new.conn)
    (settles_none _ c.args.place.now (state g.S.Store c.args.conn.now) (state g.S.Store c.settle_earlier.new.conn)
    (c.in-Ok.ensures.same (c.give_keyed.ensures.clean given) (kept_ok _)))
    (used_answered _ c.args.desk.now.settings.now.mark c.args.desk.now.settings.now.token (map string_bytes c.args.words.now) (seen_answer answer)
    c.args.place.now c.give_keyed.new.place c.give_keyed-2.new.place
    (state g.S.Store c.settle_earlier.new.conn) (state g.S.Store c.give_keyed.new.conn) (state g.S.Store c.give_keyed-2.new.conn)
    (c.in-Ok-give_keyed.ensures.used given (sym c.is_key_used.ensures ∙ c.if-not-is_key_used.false))
    (answered_after _ c.args.desk.now.settings.now.mark c.args.desk.now.settings.now.token (map string_bytes c.args.words.now) (seen_answer answer)
    c.give_keyed.new.place c.give_keyed.new.place c.give_keyed-2.new.place
    (state g.S.Store c.give_keyed.new.conn) (state g.S.Store c.settle_earlier-2.new.conn) (state g.S.Store c.give_keyed-2.new.conn)
    (settles_none _ c.give_keyed.new.place (state g.S.Store c.give_keyed.new.conn) (state g.S.Store c.settle_earlier-2.new.conn)
    (c.in-Ok-settle_earlier.ensures.same settled (kept_ok _)))
    answered)))
