use Rattle.sql_rows.proofs.Common.{◌∙◌, List, ℕ, Some, sym, ap, arith, state, HasCleanDisk}
use Rattle.sql_rows.proofs.Stays.{survives_more}
use Rattle.till_client.specs.Replies.{seen_answer}
use Rattle.till_work.proofs.Stops.{found_unsettled, settlement_left}
use Rattle.till_work.proofs.settling.settle.Goals as goal

pub returns-in-Ok-keep-clause-crash : goal.returns-in-Ok-keep-clause-crash
returns-in-Ok-keep-clause-crash g c =
    settlement_left c.args.number (seen_answer c.in-Ok-ask.answer) (state g.S.Store c.args.conn.now)
    (state g.S.Store c.request_of.new.conn) (state g.S.Store c.keep.new.conn) _ _ _ _
    (survives_more (state g.S.Store c.args.conn.now) (state g.S.Store c.settlement_of.new.conn)
    (state g.S.Store c.request_of.new.conn) c.settlement_of.ensures.crash c.request_of.ensures.crash)
    (λ clean journal rests.
    let clean_one : HasCleanDisk (state g.S.Store c.settlement_of.new.conn) = omega (arith, clean, c.request_of.ensures.crash.clean) in
    let settled = c.in-Ok-None.ensures.found clean_one journal rests in
    let it = c.in-Ok-Some-request_of.ensures.found clean journal settled.0 in (
      it.0,
      found_unsettled c.args.number c.in-Ok-None.field-0 journal c.in-Ok-None.field-0-is settled.1,
      λ i is. (
        c.as_slice.result.now,
        sym (it.1 i is) ∙ c.in-Ok-Some-request_of.field-0-is ∙ ap (λ (l : List ℕ). Some l) (sym c.as_slice.ensures),
        c.in-Ok-ask.ensures.sent,
      ),
    ))
    c.in-Ok-ask.ensures.told (λ is. omega (arith, c.if-answer-eq503.false, is)) c.keep.ensures.crash

pub returns-clause-crash : goal.returns-clause-crash
returns-clause-crash g c =
    settlement_left c.args.number (seen_answer c.in-Ok-ask.answer) (state g.S.Store c.args.conn.now)
    (state g.S.Store c.request_of.new.conn) (state g.S.Store c.keep.new.conn) _ _ _ _
    (survives_more (state g.S.Store c.args.conn.now) (state g.S.Store c.settlement_of.new.conn)
    (state g.S.Store c.request_of.new.conn) c.settlement_of.ensures.crash c.request_of.ensures.crash)
    (λ clean journal rests.
    let clean_one : HasCleanDisk (state g.S.Store c.settlement_of.new.conn) = omega (arith, clean, c.request_of.ensures.crash.clean) in
    let settled = c.in-Ok-None.ensures.found clean_one journal rests in
    let it = c.in-Ok-Some-request_of.ensures.found clean journal settled.0 in (
      it.0,
      found_unsettled c.args.number c.in-Ok-None.field-0 journal c.in-Ok-None.field-0-is settled.1,
      λ i is. (
        c.as_slice.result.now,
        sym (it.1 i is) ∙ c.in-Ok-Some-request_of.field-0-is ∙ ap (λ (l : List ℕ). Some l) (sym c.as_slice.ensures),
        c.in-Ok-ask.ensures.sent,
      ),
    ))
    c.in-Ok-ask.ensures.told (λ is. omega (arith, c.if-answer-eq503.false, is)) c.keep.ensures.crash
