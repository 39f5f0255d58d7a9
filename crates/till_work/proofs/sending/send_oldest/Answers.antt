use Rattle.sql_rows.proofs.Common.{◌∙◌, arith, state}
use Rattle.till_client.specs.Replies.{seen_answer}
use Rattle.till_work.specs.Exchanged.{IsExchanged}
use Rattle.till_work.proofs.GoingOn.{stays_answers, stays_then, kept_if, why_before}
use Rattle.till_work.proofs.sending.send_oldest.Goals as goal

pub returns-in-Ok-clause-answered : goal.returns-in-Ok-clause-answered
returns-in-Ok-clause-answered g c clean =
    stays_answers (IsExchanged (g.V.Server.opens c.args.server.now) g.V.Reader.Read.remaining g.V.Writer.Write.contents)
    (seen_answer c.in-Ok.answer) c.args.place.now c.rounds.place c.send_once.new.place (state g.S.Store c.args.conn.now) (state g.S.Store c.rounds.conn)
    (state g.S.Store c.send_once.new.conn) (c.rounds.invariant.2 (c.send_once.ensures.clean clean)) (c.in-Ok.ensures.answered clean)

pub rounds-preserved : goal.rounds-preserved
rounds-preserved g c =
    let it = c.in-Err.it in (
      c.send_once.ensures.ended,
      (λ clean. c.rounds.invariant.1 (c.send_once.ensures.clean clean)),
      (λ clean.
          stays_then c.args.place.now c.rounds.place c.send_once.new.place (state g.S.Store c.args.conn.now)
          (state g.S.Store c.rounds.conn) (state g.S.Store c.send_once.new.conn)
          (c.rounds.invariant.2 (c.send_once.ensures.clean clean)) (c.in-Err.ensures.stays clean (kept_if it (c.may_pass.ensures cc)))),
      c.in-Err.ensures.uncounted ∙ c.rounds.invariant.3,
      (λ _ clean.
          why_before (g.V.Server.refuses c.args.server.now) (g.V.Server.opens c.args.server.now) g.V.Writer.Write.contents it c.args.place.now c.rounds.place
          (state g.S.Store c.args.conn.now) (state g.S.Store c.rounds.conn) c.rounds.invariant.3
          (c.rounds.invariant.2 (c.send_once.ensures.clean clean)) (c.in-Err.ensures.why clean)),
    )

pub returns-clause-stays : goal.returns-clause-stays
returns-clause-stays g c clean kept = c.rounds.invariant.2 clean

pub returns-clause-why : goal.returns-clause-why
returns-clause-why g c clean = c.rounds.invariant.4 (omega arith) clean
