use Rattle.sql_rows.proofs.Common.{◌∙◌, ◌+◌, ap, refl, state}
use Rattle.till_work.specs.Exchanged.{IsExchanged}
use Rattle.till_work.specs.declared.place.Place.{Place}
use Rattle.till_work.proofs.GoingOn.{none_sent, tells_sends, tells_one, sends_stays, kept_as, kept_if, why_then}
use Rattle.till_work.proofs.Stops.{sends_then_leaves}
use Rattle.till_work.proofs.sending.send_waiting.Goals as goal

pub entries-init : goal.entries-init
entries-init g c = (
  c.requires,
  (λ clean. clean),
  (λ clean.
      none_sent (IsExchanged (g.V.Server.opens c.args.server.now) g.V.Reader.Read.remaining g.V.Writer.Write.contents) c.args.place.now
      (state g.S.Store c.args.conn.now)),
  refl,
  refl,
)

pub returns-in-Err-clause-sends : goal.returns-in-Err-clause-sends
returns-in-Err-clause-sends g c clean kept =
    sends_stays (IsExchanged (g.V.Server.opens c.args.server.now) g.V.Reader.Read.remaining g.V.Writer.Write.contents) c.args.place.now c.entries.place
    c.send_oldest.new.place (state g.S.Store c.args.conn.now) (state g.S.Store c.entries.conn) (state g.S.Store c.send_oldest.new.conn)
    (tells_sends (IsExchanged (g.V.Server.opens c.args.server.now) g.V.Reader.Read.remaining g.V.Writer.Write.contents)
    c.entries.last c.args.place.now c.entries.place (state g.S.Store c.args.conn.now) (state g.S.Store c.entries.conn)
    (c.entries.invariant.2 (c.send_oldest.ensures.clean clean)))
    (c.in-Err.ensures.stays clean (kept_as c.in-Err.fault kept))

pub entries-preserved : goal.entries-preserved
entries-preserved g c =
    let counted = c.in-Ok.ensures.counted in (
      c.send_oldest.ensures.ended,
      (λ clean. c.entries.invariant.1 (c.send_oldest.ensures.clean clean)),
      (λ clean.
          tells_one (IsExchanged (g.V.Server.opens c.args.server.now) g.V.Reader.Read.remaining g.V.Writer.Write.contents) c.entries.last c.in-Ok.answer
          c.args.place.now c.entries.place c.send_oldest.new.place (state g.S.Store c.args.conn.now) (state g.S.Store c.entries.conn)
          (state g.S.Store c.send_oldest.new.conn) (c.entries.invariant.2 (c.send_oldest.ensures.clean clean)) (c.in-Ok.ensures.answered clean)),
      ap (λ (p : Place). p.entries) counted ∙ c.entries.invariant.3,
      ap (λ (p : Place). p.replies) counted ∙ ap (λ n. n + 1) c.entries.invariant.4,
    )

pub returns-clause-sends : goal.returns-clause-sends
returns-clause-sends g c clean kept =
    tells_sends (IsExchanged (g.V.Server.opens c.args.server.now) g.V.Reader.Read.remaining g.V.Writer.Write.contents) c.entries.last
    c.args.place.now c.entries.place (state g.S.Store c.args.conn.now) (state g.S.Store c.entries.conn) (c.entries.invariant.2 clean)

pub returns-in-Err-clause-why : goal.returns-in-Err-clause-why
returns-in-Err-clause-why g c clean =
    why_then (g.V.Server.refuses c.args.server.now) (g.V.Server.opens c.args.server.now) g.V.Writer.Write.contents
    (IsExchanged (g.V.Server.opens c.args.server.now) g.V.Reader.Read.remaining g.V.Writer.Write.contents) c.entries.last c.in-Err.fault
    c.args.place.now c.entries.place c.send_oldest.new.place (state g.S.Store c.args.conn.now)
    (state g.S.Store c.entries.conn) (state g.S.Store c.send_oldest.new.conn)
    (c.entries.invariant.2 (c.send_oldest.ensures.clean clean))
    (λ other. c.in-Err.ensures.stays clean (kept_if c.in-Err.fault other)) c.in-Err.ensures.uncounted (c.in-Err.ensures.why clean)

pub returns-in-Err-clause-crash : goal.returns-in-Err-clause-crash
returns-in-Err-clause-crash g c clean =
    sends_then_leaves (IsExchanged (g.V.Server.opens c.args.server.now) g.V.Reader.Read.remaining g.V.Writer.Write.contents)
    c.args.place.now c.entries.place (state g.S.Store c.args.conn.now) (state g.S.Store c.entries.conn) (state g.S.Store c.send_oldest.new.conn)
    (tells_sends (IsExchanged (g.V.Server.opens c.args.server.now) g.V.Reader.Read.remaining g.V.Writer.Write.contents)
    c.entries.last c.args.place.now c.entries.place (state g.S.Store c.args.conn.now) (state g.S.Store c.entries.conn)
    (c.entries.invariant.2 (c.send_oldest.ensures.clean clean)))
    (c.send_oldest.ensures.crash clean)
