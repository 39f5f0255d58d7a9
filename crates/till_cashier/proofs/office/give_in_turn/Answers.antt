use Rattle.std.proofs.Common.{map}
use Rattle.std.specs.Prelude.{string_bytes}
use Rattle.sqlite.specs.Held.{state}
use Rattle.till_cashier.proofs.GoingOn.{kept_ok, kept_as, kept_by}
use Rattle.till_cashier.proofs.InTurn.{none_then, stays_none, sends_none, none_turn, turn_after}
use Rattle.till_cashier.proofs.OfficeStops.{none_grows, grown_then, office_read, read_then}
use Rattle.std.proofs.Common.{inl, inr}
use Rattle.till_client.specs.Replies.{seen_answer}
use Rattle.till_cashier.proofs.InTurn.{answered_after}
use Rattle.till_cashier.proofs.Printing.{if_ok_so}
use Rattle.till_cashier.proofs.office.give_in_turn.Goals as goal

pub returns-in-Err-clause-turn : goal.returns-in-Err-clause-turn
returns-in-Err-clause-turn g c clean kept =
    none_turn c.args.desk.now.settings.now.mark c.args.desk.now.settings.now.token (map string_bytes c.args.words.now) _ c.args.place.now
    c.answer_earlier.new.place (state g.S.Store c.args.conn.now) (state g.S.Store c.answer_earlier.new.conn)
    (sends_none _ c.args.place.now c.answer_earlier.new.place (state g.S.Store c.args.conn.now) (state g.S.Store c.answer_earlier.new.conn)
    (c.in-Err.ensures.sends clean (kept_as c.in-Err.fault kept)))

pub returns-in_err-table-clause-turn : goal.returns-in_err-table-clause-turn
returns-in_err-table-clause-turn g c clean kept =
    none_turn c.args.desk.now.settings.now.mark c.args.desk.now.settings.now.token (map string_bytes c.args.words.now) _ c.args.place.now
    c.answer_earlier.new.place (state g.S.Store c.args.conn.now) (state g.S.Store c.waited.new.conn)
    (none_then _ c.args.place.now c.answer_earlier.new.place c.answer_earlier.new.place (state g.S.Store c.args.conn.now)
    (state g.S.Store c.answer_earlier.new.conn) (state g.S.Store c.waited.new.conn)
    (sends_none _ c.args.place.now c.answer_earlier.new.place (state g.S.Store c.args.conn.now) (state g.S.Store c.answer_earlier.new.conn)
    (c.in-Ok.ensures.sends (c.waited.ensures.clean clean) (kept_ok _)))
    (stays_none _ c.answer_earlier.new.place (state g.S.Store c.answer_earlier.new.conn) (state g.S.Store c.waited.new.conn) (c.waited.ensures.stays clean)))

pub returns-in-Err-give_words-clause-turn : goal.returns-in-Err-give_words-clause-turn
returns-in-Err-give_words-clause-turn g c clean kept =
    let read = c.give_words.ensures.clean clean in
    turn_after c.args.desk.now.settings.now.mark c.args.desk.now.settings.now.token (map string_bytes c.args.words.now) _ c.args.place.now
    c.answer_earlier.new.place c.give_words.new.place (state g.S.Store c.args.conn.now) (state g.S.Store c.waited.new.conn)
    (state g.S.Store c.give_words.new.conn)
    (none_then _ c.args.place.now c.answer_earlier.new.place c.answer_earlier.new.place (state g.S.Store c.args.conn.now)
    (state g.S.Store c.answer_earlier.new.conn) (state g.S.Store c.waited.new.conn)
    (sends_none _ c.args.place.now c.answer_earlier.new.place (state g.S.Store c.args.conn.now) (state g.S.Store c.answer_earlier.new.conn)
    (c.in-Ok.ensures.sends (c.waited.ensures.clean read) (kept_ok _)))
    (stays_none _ c.answer_earlier.new.place (state g.S.Store c.answer_earlier.new.conn) (state g.S.Store c.waited.new.conn) (c.waited.ensures.stays read)))
    (c.in-Err-give_words.ensures.turn clean (kept_by c.in-Err-give_words.fault c.fault_told.result c.fault_told.ensures.book kept))

pub returns-clause-turn : goal.returns-clause-turn
returns-clause-turn g c clean kept =
    let read = c.give_words.ensures.clean clean in
    turn_after c.args.desk.now.settings.now.mark c.args.desk.now.settings.now.token (map string_bytes c.args.words.now) _ c.args.place.now
    c.answer_earlier.new.place c.give_words.new.place (state g.S.Store c.args.conn.now) (state g.S.Store c.waited.new.conn)
    (state g.S.Store c.give_words.new.conn)
    (none_then _ c.args.place.now c.answer_earlier.new.place c.answer_earlier.new.place (state g.S.Store c.args.conn.now)
    (state g.S.Store c.answer_earlier.new.conn) (state g.S.Store c.waited.new.conn)
    (sends_none _ c.args.place.now c.answer_earlier.new.place (state g.S.Store c.args.conn.now) (state g.S.Store c.answer_earlier.new.conn)
    (c.in-Ok.ensures.sends (c.waited.ensures.clean read) (kept_ok _)))
    (stays_none _ c.answer_earlier.new.place (state g.S.Store c.answer_earlier.new.conn) (state g.S.Store c.waited.new.conn) (c.waited.ensures.stays read)))
    (c.in-Ok-give_words.ensures.turn clean (kept_ok _))

pub returns-in-Err-clause-crash : goal.returns-in-Err-clause-crash
returns-in-Err-clause-crash g c clean =
    c.answer_earlier.ensures.crash clean

pub returns-in_err-table-clause-crash : goal.returns-in_err-table-clause-crash
returns-in_err-table-clause-crash g c clean =
    grown_then _ c.args.place.now c.answer_earlier.new.place (state g.S.Store c.args.conn.now)
    (state g.S.Store c.answer_earlier.new.conn) (state g.S.Store c.waited.new.conn)
    (none_grows _ c.args.place.now c.answer_earlier.new.place (state g.S.Store c.args.conn.now) (state g.S.Store c.answer_earlier.new.conn)
    (sends_none _ c.args.place.now c.answer_earlier.new.place (state g.S.Store c.args.conn.now) (state g.S.Store c.answer_earlier.new.conn)
    (c.in-Ok.ensures.sends (c.waited.ensures.clean clean) (kept_ok _))))
    (office_read _ c.answer_earlier.new.place (state g.S.Store c.answer_earlier.new.conn) (state g.S.Store c.waited.new.conn) (c.waited.ensures.stays clean))

pub returns-in-Err-give_words-clause-crash : goal.returns-in-Err-give_words-clause-crash
returns-in-Err-give_words-clause-crash g c clean =
    let read = c.give_words.ensures.clean clean in
    grown_then _ c.args.place.now c.answer_earlier.new.place (state g.S.Store c.args.conn.now)
    (state g.S.Store c.answer_earlier.new.conn) (state g.S.Store c.give_words.new.conn)
    (none_grows _ c.args.place.now c.answer_earlier.new.place (state g.S.Store c.args.conn.now) (state g.S.Store c.answer_earlier.new.conn)
    (sends_none _ c.args.place.now c.answer_earlier.new.place (state g.S.Store c.args.conn.now) (state g.S.Store c.answer_earlier.new.conn)
    (c.in-Ok.ensures.sends (c.waited.ensures.clean read) (kept_ok _))))
    (read_then _ c.answer_earlier.new.place (state g.S.Store c.answer_earlier.new.conn)
    (state g.S.Store c.waited.new.conn) (state g.S.Store c.give_words.new.conn) (c.waited.ensures.stays read)
    (c.give_words.ensures.crash clean))

pub returns-clause-crash : goal.returns-clause-crash
returns-clause-crash g c clean =
    let read = c.give_words.ensures.clean clean in
    grown_then _ c.args.place.now c.answer_earlier.new.place (state g.S.Store c.args.conn.now)
    (state g.S.Store c.answer_earlier.new.conn) (state g.S.Store c.give_words.new.conn)
    (none_grows _ c.args.place.now c.answer_earlier.new.place (state g.S.Store c.args.conn.now) (state g.S.Store c.answer_earlier.new.conn)
    (sends_none _ c.args.place.now c.answer_earlier.new.place (state g.S.Store c.args.conn.now) (state g.S.Store c.answer_earlier.new.conn)
    (c.in-Ok.ensures.sends (c.waited.ensures.clean read) (kept_ok _))))
    (read_then _ c.answer_earlier.new.place (state g.S.Store c.answer_earlier.new.conn)
    (state g.S.Store c.waited.new.conn) (state g.S.Store c.give_words.new.conn) (c.waited.ensures.stays read)
    (c.give_words.ensures.crash clean))

-- ---- what is printed

pub returns-in-Err-give_words-clause-says : goal.returns-in-Err-give_words-clause-says
returns-in-Err-give_words-clause-says g c clean = if_ok_so c.fault_told.result _ _ c.fault_told.ensures.said (λ said says. inr (inl says))

pub returns-clause-says : goal.returns-clause-says
returns-clause-says g c clean =
    let read = c.give_words.ensures.clean clean in
    let answer = seen_answer c.in-Ok-give_words.answer in
    if_ok_so c.told.result _ _ c.told.ensures
    (λ said says. inr (inr (
      answer,
      answered_after _ c.args.desk.now.settings.now.mark c.args.desk.now.settings.now.token (map string_bytes c.args.words.now) answer c.args.place.now
          c.answer_earlier.new.place c.give_words.new.place (state g.S.Store c.args.conn.now) (state g.S.Store c.waited.new.conn)
          (state g.S.Store c.give_words.new.conn)
          (none_then _ c.args.place.now c.answer_earlier.new.place c.answer_earlier.new.place (state g.S.Store c.args.conn.now)
          (state g.S.Store c.answer_earlier.new.conn) (state g.S.Store c.waited.new.conn)
          (sends_none _ c.args.place.now c.answer_earlier.new.place (state g.S.Store c.args.conn.now) (state g.S.Store c.answer_earlier.new.conn)
          (c.in-Ok.ensures.sends (c.waited.ensures.clean read) (kept_ok _)))
          (stays_none _ c.answer_earlier.new.place (state g.S.Store c.answer_earlier.new.conn)
          (state g.S.Store c.waited.new.conn) (c.waited.ensures.stays read)))
          (c.in-Ok-give_words.ensures.answered clean),
      says,
    )))
