use Rattle.sql_rows.proofs.Common.{◌≡◌, false, state, HasCleanDisk}
use Rattle.till_work.specs.Exchanged.{IsExchanged}
use Rattle.till_work.specs.Desk.{GoesOn}
use Rattle.till_cashier.specs.Adding.{AddsFirst}
use Rattle.till_cashier.specs.Again.{GivesBook}
use Rattle.till_cashier.specs.Clock.{local_clock}
use Rattle.till_cashier.proofs.again.give_each.Given as goal

abbrev pub invariant-givings : goal.invariant-givings
invariant-givings g l =
    let tells = IsExchanged (g.V.Server.opens l.desk.server.now) g.V.Reader.Read.remaining g.V.Writer.Write.contents in
    (l.conn.in_transaction ≡ false)
    × (HasCleanDisk (state g.S.Store l.conn) → HasCleanDisk (state g.S.Store l.initial.conn))
    × (HasCleanDisk (state g.S.Store l.conn)
    → GoesOn tells l.desk.settings.now.mark l.initial.book.place (state g.S.Store l.initial.conn) l.book.place (state g.S.Store l.conn))
    × (HasCleanDisk (state g.S.Store l.conn)
    → GivesBook tells (local_clock (g.K.WallClock.shows l.desk.clock.now) l.desk.settings.now.zone) l.desk.settings.now.mark l.desk.settings.now.token
    l.desk.settings.now.staff l.it-index l.acts l.initial.book.place (state g.S.Store l.initial.conn) l.book.place (state g.S.Store l.conn))
    × (HasCleanDisk (state g.S.Store l.conn)
    → AddsFirst (local_clock (g.K.WallClock.shows l.desk.clock.now) l.desk.settings.now.zone) l.desk.settings.now.mark l.desk.settings.now.token
    l.it-index l.acts l.initial.book.place (state g.S.Store l.initial.conn) l.book.place (state g.S.Store l.conn))
