use Rattle.sql_rows.proofs.Common.{◌≡◌, false, state, HasCleanDisk}
use Rattle.std.proofs.Common.{map, take}
use Rattle.std.specs.List.{All}
use Rattle.till_book.specs.Steps.{Stays}
use Rattle.till_cashier.specs.Asking.{IsAnswered, IsLookedUp}
use Rattle.till_cashier.specs.Late.{IsOutOf, TablesLate, seen_late}
use Rattle.till_cashier.proofs.overdue.table_of.Given as goal

abbrev pub invariant-lates : goal.invariant-lates
invariant-lates g l =
    let asks = IsLookedUp (IsAnswered (g.V.Server.opens l.desk.server.now) g.V.Reader.Read.remaining g.V.Writer.Write.contents) l.desk.settings.now.token in
    (l.conn.in_transaction ≡ false)
    × (HasCleanDisk (state g.S.Store l.conn) → HasCleanDisk (state g.S.Store l.initial.conn))
    × (HasCleanDisk (state g.S.Store l.conn) → Stays (state g.S.Store l.initial.conn) (state g.S.Store l.conn))
    × (HasCleanDisk (state g.S.Store l.conn) → All (IsOutOf asks) l.outs
    → TablesLate asks (state g.S.Store l.initial.conn) l.desk.sheet.now (map seen_late (take l.at l.lates)) l.table)
