use Rattle.sql_rows.proofs.Common.{◌≡◌, false, state, HasCleanDisk}
use Rattle.shop_types.specs.Seen.{seen_act}
use Rattle.till_client.specs.Replies.{seen_answer}
use Rattle.till_work.specs.Exchanged.{IsExchanged}
use Rattle.till_work.specs.Desk.{GoesOn}
use Rattle.till_cashier.specs.Clock.{local_clock}
use Rattle.till_cashier.specs.declared.commands.EntryReply.{EntryReply}
use Rattle.till_cashier.specs.Faults.{giver_of}
use Rattle.till_cashier.proofs.Giving.{SoFar}
use Rattle.till_cashier.proofs.commands.give.Given as goal

abbrev pub invariant-tries : goal.invariant-tries
invariant-tries g l =
    let tells = IsExchanged (g.V.Server.opens l.desk.server.now) g.V.Reader.Read.remaining g.V.Writer.Write.contents in
    (l.conn.in_transaction ≡ false)
    × (HasCleanDisk (state g.S.Store l.conn) → HasCleanDisk (state g.S.Store l.initial.conn))
    × (HasCleanDisk (state g.S.Store l.conn)
    → GoesOn tells l.desk.settings.now.mark l.initial.book.place (state g.S.Store l.initial.conn) l.book.place (state g.S.Store l.conn))
    × (HasCleanDisk (state g.S.Store l.conn)
    → SoFar tells (local_clock (g.K.WallClock.shows l.desk.clock.now) l.desk.settings.now.zone) l.desk.settings.now.mark l.desk.settings.now.token
    (giver_of l.desk.settings.now.staff l.desk.staff) (seen_act l.act) (λ (it : EntryReply). seen_answer it.answer) l.told
    l.initial.book.place (state g.S.Store l.initial.conn) l.book.place (state g.S.Store l.conn))
