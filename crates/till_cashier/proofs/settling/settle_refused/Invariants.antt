use Rattle.sql_rows.proofs.Common.{◌≡◌, false, state, HasCleanDisk}
use Rattle.till_work.specs.Exchanged.{IsExchanged}
use Rattle.till_cashier.specs.Word.{EntersNothing}
use Rattle.till_cashier.proofs.settling.settle_refused.Given as goal

abbrev pub invariant-entries : goal.invariant-entries
invariant-entries g l =
    (l.conn.in_transaction ≡ false)
    × (HasCleanDisk (state g.S.Store l.conn) → HasCleanDisk (state g.S.Store l.initial.conn))
    × (HasCleanDisk (state g.S.Store l.conn)
    → EntersNothing (IsExchanged (g.V.Server.opens l.desk.server.now) g.V.Reader.Read.remaining g.V.Writer.Write.contents)
    (state g.S.Store l.initial.conn) (state g.S.Store l.conn))
