use Rattle.sql_rows.proofs.Common.{◌≡◌, ◌<◌, false, state, HasCleanDisk}
use Rattle.till_work.specs.Desk.{Stays, FailsToExchange}
use Rattle.till_work.proofs.sending.send_oldest.Given as goal

abbrev pub invariant-rounds : goal.invariant-rounds
invariant-rounds g l =
    (l.conn.in_transaction ≡ false)
    × (HasCleanDisk (state g.S.Store l.conn) → HasCleanDisk (state g.S.Store l.initial.conn))
    × (HasCleanDisk (state g.S.Store l.conn) → Stays l.initial.place (state g.S.Store l.initial.conn) l.place (state g.S.Store l.conn))
    × (l.place ≡ l.initial.place)
    × (0 < l.round → HasCleanDisk (state g.S.Store l.conn)
    → FailsToExchange (g.V.Server.refuses l.server) (g.V.Server.opens l.server) g.V.Writer.Write.contents l.initial.place
    (state g.S.Store l.initial.conn) l.fault)
