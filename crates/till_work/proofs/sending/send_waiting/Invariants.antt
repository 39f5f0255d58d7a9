use Rattle.sql_rows.proofs.Common.{◌≡◌, false, state, HasCleanDisk}
use Rattle.till_work.specs.Exchanged.{IsExchanged}
use Rattle.till_work.specs.Desk.{ReturnsLast}
use Rattle.till_work.proofs.sending.send_waiting.Given as goal

abbrev pub invariant-entries : goal.invariant-entries
invariant-entries g l =
    (l.conn.in_transaction ≡ false)
    × (HasCleanDisk (state g.S.Store l.conn) → HasCleanDisk (state g.S.Store l.initial.conn))
    × (HasCleanDisk (state g.S.Store l.conn)
    → ReturnsLast (IsExchanged (g.V.Server.opens l.server) g.V.Reader.Read.remaining g.V.Writer.Write.contents) l.last l.initial.place
    (state g.S.Store l.initial.conn) l.place (state g.S.Store l.conn))
    × (l.place.entries ≡ l.initial.place.entries)
    × (l.place.replies ≡ l.sent)
