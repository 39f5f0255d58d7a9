use Rattle.sqlite.specs.Files.{file_state}
use Rattle.sql_files.proofs.Keeping.{crashed_one}
use Rattle.till_files.proofs.Results.{ok_then}
use Rattle.till_work.specs.Exchanged.{IsExchanged}
use Rattle.till_work.specs.Entering.{IsTillsBook}
use Rattle.till_work.specs.Stops.{IsAny, IsLater}
use Rattle.till_cashier.specs.Clock.{local_clock}
use Rattle.till_cashier.specs.Faults.{giver_of}
use Rattle.till_cashier.proofs.Reopened.{opens, opens_word}
use Rattle.till_cashier.proofs.stopping.do_word_over_a_stop.Goals as goal

pub returns-clause-ended : goal.returns-clause-ended
returns-clause-ended g c = ok_then c.open_book.result c.open_book.ensures.opened (λ again it. it.ended)

pub returns-clause-honest : goal.returns-clause-honest
returns-clause-honest g c = ok_then c.open_book.result c.open_book.ensures.opened (λ again it clean.
    c.do_word-stopped.ensures.clean (c.close_book.ensures.clean (c.crashed.ensures.clean (it.honest clean))))

pub returns-clause-keeps : goal.returns-clause-keeps
returns-clause-keeps g c = ok_then c.open_book.result c.open_book.ensures.opened (λ again it clean branch.
    let honest = it.honest clean in
    let after = c.close_book.ensures.clean (c.crashed.ensures.clean honest) in
    opens g.D.Disk c.crashed.result again it g.met.D.Disk.seen_may_stay clean (file_state c.args.conn) (file_state c.do_word-stopped.new.conn)
    (crashed_one g.D.Disk c.close_book.result c.crashed.result (file_state c.do_word-stopped.new.conn).may_leave
    c.crashed.ensures.left c.crashed.ensures.clean c.close_book.ensures.left honest)
    (IsTillsBook c.args.desk.now.settings.now.mark)
    (IsLater (IsExchanged (g.V.Server.opens c.args.desk.now.server.now) g.V.Reader.Read.remaining g.V.Writer.Write.contents))
    (c.do_word-stopped.ensures.crash after branch))

pub returns-clause-office : goal.returns-clause-office
returns-clause-office g c = ok_then c.open_book.result c.open_book.ensures.opened (λ again it clean office.
    let honest = it.honest clean in
    let after = c.close_book.ensures.clean (c.crashed.ensures.clean honest) in
    opens g.D.Disk c.crashed.result again it g.met.D.Disk.seen_may_stay clean (file_state c.args.conn) (file_state c.do_word-stopped.new.conn)
    (crashed_one g.D.Disk c.close_book.result c.crashed.result (file_state c.do_word-stopped.new.conn).may_leave
    c.crashed.ensures.left c.crashed.ensures.clean c.close_book.ensures.left honest)
    IsAny (IsLater (IsExchanged (g.V.Server.opens c.args.desk.now.server.now) g.V.Reader.Read.remaining g.V.Writer.Write.contents))
    (c.do_word-stopped.ensures.crash_office after office))

pub returns-clause-enters : goal.returns-clause-enters
returns-clause-enters g c = ok_then c.open_book.result c.open_book.ensures.opened (λ again it clean.
    let honest = it.honest clean in
    let after = c.close_book.ensures.clean (c.crashed.ensures.clean honest) in
    opens_word g.D.Disk c.crashed.result again it g.met.D.Disk.seen_may_stay clean (file_state c.args.conn) (file_state c.do_word-stopped.new.conn)
    (crashed_one g.D.Disk c.close_book.result c.crashed.result (file_state c.do_word-stopped.new.conn).may_leave
    c.crashed.ensures.left c.crashed.ensures.clean c.close_book.ensures.left honest)
    (IsExchanged (g.V.Server.opens c.args.desk.now.server.now) g.V.Reader.Read.remaining g.V.Writer.Write.contents)
    (local_clock (g.K.WallClock.shows c.args.desk.now.clock.now) c.args.desk.now.settings.now.zone)
    c.args.desk.now.settings.now.mark c.args.desk.now.settings.now.token
    (giver_of c.args.desk.now.settings.now.staff c.args.desk.now.staff) c.args.desk.now.sheet.now c.args.act
    (c.do_word-stopped.ensures.crash_enters after))
