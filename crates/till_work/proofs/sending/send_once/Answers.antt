use Rattle.sql_rows.proofs.Common.{◌≡◌, ◌+◌, refl, rules, state}
use Rattle.till_work.proofs.GoingOn.{delivers_one, none_stays, failing_stays, kept_other, why_none, why_failed}
use Rattle.till_work.proofs.sending.send_once.Goals as goal

pub returns-in-Ok-Some-clause-answered : goal.returns-in-Ok-Some-clause-answered
returns-in-Ok-Some-clause-answered g c clean =
    let counted : c.in-Some.number ≡ c.args.place.now.replies + 1 = search rules in
    delivers_one (g.V.Server.opens c.args.server.now) g.V.Reader.Read.remaining g.V.Writer.Write.contents
    c.in-Some.number c.in-Ok-Some.answer c.args.place.now _ (state g.S.Store c.args.conn.now)
    (state g.S.Store c.deliver.new.conn) c.in-Ok.reader c.deliver.new.reader c.in-Ok.writer c.deliver.new.writer counted refl c.in-Ok.ensures.opened
    (rw c.in-Ok-Some.field-0-is at (c.in-Ok-Some.ensures.delivers clean))

pub returns-in-Ok-None-clause-stays : goal.returns-in-Ok-None-clause-stays
returns-in-Ok-None-clause-stays g c clean kept =
    let counted : c.in-Some.number ≡ c.args.place.now.replies + 1 = search rules in
    none_stays c.in-Some.number c.args.place.now (state g.S.Store c.args.conn.now) (state g.S.Store c.deliver.new.conn) _ _ _ _ counted
    (rw c.in-Ok-None.field-0-is at (c.in-Ok-None.ensures.delivers clean))

pub returns-clause-stays : goal.returns-clause-stays
returns-clause-stays g c clean kept =
    let counted : c.in-Some.number ≡ c.args.place.now.replies + 1 = search rules in
    failing_stays c.in-Some.number c.in-Err.fault c.args.place.now (state g.S.Store c.args.conn.now) (state g.S.Store c.deliver.new.conn) _ _ counted
    (c.in-Err.ensures.fault clean) (kept_other c.in-Err.fault kept)

pub returns-in-Ok-None-clause-why : goal.returns-in-Ok-None-clause-why
returns-in-Ok-None-clause-why g c clean =
    let counted : c.in-Some.number ≡ c.args.place.now.replies + 1 = search rules in
    why_none (g.V.Server.refuses c.args.server.now) (g.V.Server.opens c.args.server.now)
    g.V.Writer.Write.contents c.in-Some.number c.args.place.now (state g.S.Store c.args.conn.now)
    (state g.S.Store c.deliver.new.conn) _ _ _ _ counted (rw c.in-Ok-None.field-0-is at (c.in-Ok-None.ensures.delivers clean))

pub returns-clause-why : goal.returns-clause-why
returns-clause-why g c clean =
    let counted : c.in-Some.number ≡ c.args.place.now.replies + 1 = search rules in
    why_failed (g.V.Server.refuses c.args.server.now)
    (g.V.Server.opens c.args.server.now) g.V.Writer.Write.contents c.in-Some.number c.in-Err.fault c.args.place.now
    (state g.S.Store c.args.conn.now) (state g.S.Store c.deliver.new.conn) c.in-Ok.reader c.in-Ok.writer c.deliver.new.writer counted c.in-Ok.ensures.opened
    (c.in-Err.ensures.fault clean)
