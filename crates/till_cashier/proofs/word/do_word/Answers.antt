use Rattle.std.proofs.Common.{string_bytes, ◌≡◌, ◌⊎◌, ◌∙◌, Result, Ok, Err, IfErr, IsErrAnd, inl, inr, refl, subst, sym}
use Rattle.sqlite.specs.Held.{state}
use Rattle.till_cashier.specs.declared.fault.TillFault.{TillFault}
use Rattle.till_cashier.specs.declared.fault.TillFault.TheVariants.{OtherBook}
use Rattle.till_cashier.specs.Faults.{IsReading, others_fault}
use Rattle.till_cashier.proofs.GoingOn.{read_keeps, read_grows, stays_keeps, stays_grows, stays_both}
use Rattle.till_cashier.proofs.Doing.{on_ok, ok_then, word_done}
use Rattle.till_cashier.specs.Clock.{local_clock}
use Rattle.till_cashier.specs.Faults.{giver_of}
use Rattle.till_cashier.specs.Today.{IsOnWall}
use Rattle.till_cashier.proofs.Adding.{stays_word, word_enters}
use Rattle.till_cashier.proofs.Marks.{own_book, other_book}
use Rattle.till_work.specs.Exchanged.{IsExchanged}
use Rattle.till_requests.specs.Zones.{offset_of}
use Rattle.till_cashier.specs.Clock.{local_clock}
use Rattle.till_cashier.proofs.Dates.{dated_book}
use Rattle.till_cashier.proofs.Repeating.{if_ok_then, word_repeated}
use Rattle.till_cashier.specs.Asking.{IsAnswered}
use Rattle.till_cashier.proofs.Printing.{if_ok_so, word_says}
use Rattle.till_work.specs.Desk.{HasPlace}
use Rattle.till_cashier.proofs.Stops.{read_leaves, plan_at_till, plan_at_office, stays_at_till, stays_at_any, stays_left, word_left}
use Rattle.till_cashier.proofs.Showing.{word_shows}
use Rattle.till_cashier.proofs.word.do_word.Goals as goal

pub returns-in_err-book-clause-keeps : goal.returns-in_err-book-clause-keeps
returns-in_err-book-clause-keeps g c clean kept branch =
    stays_keeps _ c.args.desk.now.settings.now.mark (state g.S.Store c.args.conn.now) (state g.S.Store c.read.new.conn) (c.read.ensures.stays clean)

pub returns-in_err-plan-clause-keeps : goal.returns-in_err-plan-clause-keeps
returns-in_err-plan-clause-keeps g c clean kept branch =
    stays_keeps _ c.args.desk.now.settings.now.mark (state g.S.Store c.args.conn.now) (state g.S.Store c.plan_of.new.conn)
    (stays_both (state g.S.Store c.args.conn.now) (state g.S.Store c.read.new.conn)
    (state g.S.Store c.plan_of.new.conn) (c.read.ensures.stays (c.plan_of.ensures.clean clean))
    (c.plan_of.ensures.stays clean))

pub returns-clause-keeps : goal.returns-clause-keeps
returns-clause-keeps g c clean kept branch =
    let planned = c.carry_out.ensures.clean clean in
    let read = c.plan_of.ensures.clean planned in
    read_keeps _ c.args.desk.now.settings.now.mark c.in_ok-book.book.place c.carry_out.new.book.place
    (state g.S.Store c.args.conn.now) (state g.S.Store c.plan_of.new.conn)
    (state g.S.Store c.carry_out.new.conn) (c.in_ok-book.ensures.place read)
    (stays_both (state g.S.Store c.args.conn.now) (state g.S.Store c.read.new.conn)
    (state g.S.Store c.plan_of.new.conn) (c.read.ensures.stays read) (c.plan_of.ensures.stays planned))
    (c.carry_out.ensures.keeps clean kept branch c.in_ok-plan.ensures.planned)

pub returns-in_err-book-clause-office : goal.returns-in_err-book-clause-office
returns-in_err-book-clause-office g c clean kept office =
    stays_grows _ (state g.S.Store c.args.conn.now) (state g.S.Store c.read.new.conn) (c.read.ensures.stays clean)

pub returns-in_err-plan-clause-office : goal.returns-in_err-plan-clause-office
returns-in_err-plan-clause-office g c clean kept office =
    stays_grows _ (state g.S.Store c.args.conn.now) (state g.S.Store c.plan_of.new.conn)
    (stays_both (state g.S.Store c.args.conn.now) (state g.S.Store c.read.new.conn)
    (state g.S.Store c.plan_of.new.conn) (c.read.ensures.stays (c.plan_of.ensures.clean clean))
    (c.plan_of.ensures.stays clean))

pub returns-clause-office : goal.returns-clause-office
returns-clause-office g c clean kept office =
    let planned = c.carry_out.ensures.clean clean in
    let read = c.plan_of.ensures.clean planned in
    read_grows _ c.in_ok-book.book.place c.carry_out.new.book.place (state g.S.Store c.args.conn.now) (state g.S.Store c.plan_of.new.conn)
    (state g.S.Store c.carry_out.new.conn) (c.in_ok-book.ensures.place read)
    (stays_both (state g.S.Store c.args.conn.now) (state g.S.Store c.read.new.conn)
    (state g.S.Store c.plan_of.new.conn) (c.read.ensures.stays read) (c.plan_of.ensures.stays planned))
    (c.carry_out.ensures.grows clean kept office c.in_ok-plan.ensures.planned)

-- the reading's fault is returned
read_on : {A : Type 0} (result : Result A TillFault) (fault wanted : TillFault) → IsErrAnd result (λ told. told ≡ fault) → IsReading fault
    → IfErr result (λ told. IsReading told ⊎ (told ≡ wanted))
read_on (Ok said) fault wanted handed reading = absurd handed
read_on (Err told) fault wanted handed reading = inl (subst IsReading (sym handed) reading)

pub returns-in_err-book-clause-others : goal.returns-in_err-book-clause-others
returns-in_err-book-clause-others g c other =
    read_on c.from_residual.result _ (others_fault c.args.desk.now.settings.now.staff) c.from_residual.ensures.1 c.in_err-book.ensures.fault

pub returns-in_err-book-clause-foreign : goal.returns-in_err-book-clause-foreign
returns-in_err-book-clause-foreign g c clean enters for other =
    read_on c.from_residual.result _ OtherBook c.from_residual.ensures.1 c.in_err-book.ensures.fault

-- the plan's fault is returned
handed_on : {A B : Type 0} (result : Result A TillFault) (plan : Result B TillFault) (fault wanted : TillFault)
    → IsErrAnd result (λ told. told ≡ fault) → plan ≡ Err fault → plan ≡ Err wanted
    → IfErr result (λ told. IsReading told ⊎ (told ≡ wanted))
handed_on (Ok said) plan fault wanted handed was is = absurd handed
handed_on (Err told) plan fault wanted handed was is = inr (let same : fault ≡ wanted = cc in handed ∙ same)

pub returns-in_err-plan-clause-others : goal.returns-in_err-plan-clause-others
returns-in_err-plan-clause-others g c other =
    handed_on c.from_residual-in_err-plan.result _ _
    (others_fault c.args.desk.now.settings.now.staff) c.from_residual-in_err-plan.ensures.1 refl (c.in_err-plan.ensures.others other)

pub returns-in_err-plan-clause-stays : goal.returns-in_err-plan-clause-stays
returns-in_err-plan-clause-stays g c clean other =
    stays_both (state g.S.Store c.args.conn.now) (state g.S.Store c.read.new.conn)
    (state g.S.Store c.plan_of.new.conn) (c.read.ensures.stays (c.plan_of.ensures.clean clean))
    (c.plan_of.ensures.stays clean)

pub returns-clause-others : goal.returns-clause-others
returns-clause-others g c other = absurd (other c.in_ok-plan.ensures.own)

pub returns-clause-stays : goal.returns-clause-stays
returns-clause-stays g c clean other = absurd (other c.in_ok-plan.ensures.own)

pub returns-clause-done : goal.returns-clause-done
returns-clause-done g c clean =
    let planned = c.carry_out.ensures.clean clean in
    let read = c.plan_of.ensures.clean planned in
    ok_then _ (c.carry_out.ensures.done clean)
    (word_done _ _ _ _ _ c.args.desk.now.sheet.now c.args.act c.in_ok-plan.plan c.in_ok-book.book.place c.carry_out.new.book.place
    (state g.S.Store c.args.conn.now) (state g.S.Store c.read.new.conn)
    (state g.S.Store c.plan_of.new.conn) (state g.S.Store c.carry_out.new.conn)
    (c.in_ok-book.ensures.place read) (c.read.ensures.stays read) (c.plan_of.ensures.stays planned)
    (c.in_ok-plan.ensures.acts planned))

pub returns-in_err-plan-clause-foreign : goal.returns-in_err-plan-clause-foreign
returns-in_err-plan-clause-foreign g c clean enters for other =
    let read = c.plan_of.ensures.clean clean in
    let not_own =
    other_book c.args.desk.now.settings.now.mark c.in_ok-book.book.is_own (state g.S.Store c.args.conn.now) (c.in_ok-book.ensures.marked read) other in
    handed_on c.from_residual-in_err-plan.result _ _ OtherBook c.from_residual-in_err-plan.ensures.1 refl (c.in_err-plan.ensures.foreign enters for not_own)

pub returns-in_err-plan-clause-untouched : goal.returns-in_err-plan-clause-untouched
returns-in_err-plan-clause-untouched g c clean enters other =
    stays_both (state g.S.Store c.args.conn.now) (state g.S.Store c.read.new.conn)
    (state g.S.Store c.plan_of.new.conn) (c.read.ensures.stays (c.plan_of.ensures.clean clean))
    (c.plan_of.ensures.stays clean)

pub returns-clause-marked : goal.returns-clause-marked
returns-clause-marked g c clean enters =
    let read = c.plan_of.ensures.clean (c.carry_out.ensures.clean clean) in
    on_ok _
    (own_book c.args.desk.now.settings.now.mark c.in_ok-book.book.is_own (state g.S.Store c.args.conn.now)
    (c.in_ok-book.ensures.marked read) (c.in_ok-plan.ensures.marked enters))

pub returns-clause-foreign : goal.returns-clause-foreign
returns-clause-foreign g c clean enters for other =
    let read = c.plan_of.ensures.clean (c.carry_out.ensures.clean clean) in
    absurd (other (own_book c.args.desk.now.settings.now.mark c.in_ok-book.book.is_own
    (state g.S.Store c.args.conn.now) (c.in_ok-book.ensures.marked read) (c.in_ok-plan.ensures.marked enters)))

pub returns-clause-untouched : goal.returns-clause-untouched
returns-clause-untouched g c clean enters other =
    let read = c.plan_of.ensures.clean (c.carry_out.ensures.clean clean) in
    absurd (other (own_book c.args.desk.now.settings.now.mark c.in_ok-book.book.is_own
    (state g.S.Store c.args.conn.now) (c.in_ok-book.ensures.marked read) (c.in_ok-plan.ensures.marked enters)))

-- ---- no answer where one is wanted

pub returns-in_err-is_answered-clause-keeps : goal.returns-in_err-is_answered-clause-keeps
returns-in_err-is_answered-clause-keeps g c clean kept branch =
    stays_keeps _ c.args.desk.now.settings.now.mark (state g.S.Store c.args.conn.now) (state g.S.Store c.plan_of.new.conn)
    (stays_both (state g.S.Store c.args.conn.now) (state g.S.Store c.read.new.conn)
    (state g.S.Store c.plan_of.new.conn) (c.read.ensures.stays (c.plan_of.ensures.clean clean))
    (c.plan_of.ensures.stays clean))

pub returns-in_err-is_answered-clause-office : goal.returns-in_err-is_answered-clause-office
returns-in_err-is_answered-clause-office g c clean kept office =
    stays_grows _ (state g.S.Store c.args.conn.now) (state g.S.Store c.plan_of.new.conn)
    (stays_both (state g.S.Store c.args.conn.now) (state g.S.Store c.read.new.conn)
    (state g.S.Store c.plan_of.new.conn) (c.read.ensures.stays (c.plan_of.ensures.clean clean))
    (c.plan_of.ensures.stays clean))

pub returns-in_err-is_answered-clause-others : goal.returns-in_err-is_answered-clause-others
returns-in_err-is_answered-clause-others g c other = absurd (other c.in_ok-plan.ensures.own)

pub returns-in_err-is_answered-clause-stays : goal.returns-in_err-is_answered-clause-stays
returns-in_err-is_answered-clause-stays g c clean other = absurd (other c.in_ok-plan.ensures.own)

pub returns-in_err-is_answered-clause-foreign : goal.returns-in_err-is_answered-clause-foreign
returns-in_err-is_answered-clause-foreign g c clean enters for other =
    let read = c.plan_of.ensures.clean clean in
    absurd (other (own_book c.args.desk.now.settings.now.mark c.in_ok-book.book.is_own
    (state g.S.Store c.args.conn.now) (c.in_ok-book.ensures.marked read) (c.in_ok-plan.ensures.marked enters)))

pub returns-in_err-is_answered-clause-untouched : goal.returns-in_err-is_answered-clause-untouched
returns-in_err-is_answered-clause-untouched g c clean enters other =
    stays_both (state g.S.Store c.args.conn.now) (state g.S.Store c.read.new.conn)
    (state g.S.Store c.plan_of.new.conn) (c.read.ensures.stays (c.plan_of.ensures.clean clean))
    (c.plan_of.ensures.stays clean)

pub returns-in_err-plan-clause-unanswered : goal.returns-in_err-plan-clause-unanswered
returns-in_err-plan-clause-unanswered g c clean lacking =
    stays_both (state g.S.Store c.args.conn.now) (state g.S.Store c.read.new.conn)
    (state g.S.Store c.plan_of.new.conn) (c.read.ensures.stays (c.plan_of.ensures.clean clean))
    (c.plan_of.ensures.stays clean)

pub returns-in_err-is_answered-clause-unanswered : goal.returns-in_err-is_answered-clause-unanswered
returns-in_err-is_answered-clause-unanswered g c clean lacking =
    stays_both (state g.S.Store c.args.conn.now) (state g.S.Store c.read.new.conn)
    (state g.S.Store c.plan_of.new.conn) (c.read.ensures.stays (c.plan_of.ensures.clean clean))
    (c.plan_of.ensures.stays clean)

-- ---- today's date

pub returns-in_err-dated_if-clause-keeps : goal.returns-in_err-dated_if-clause-keeps
returns-in_err-dated_if-clause-keeps g c clean kept branch =
    stays_keeps _ c.args.desk.now.settings.now.mark (state g.S.Store c.args.conn.now) (state g.S.Store c.plan_of.new.conn)
    (stays_both (state g.S.Store c.args.conn.now) (state g.S.Store c.read.new.conn)
    (state g.S.Store c.plan_of.new.conn) (c.read.ensures.stays (c.plan_of.ensures.clean clean))
    (c.plan_of.ensures.stays clean))

pub returns-in_err-dated_if-clause-office : goal.returns-in_err-dated_if-clause-office
returns-in_err-dated_if-clause-office g c clean kept office =
    stays_grows _ (state g.S.Store c.args.conn.now) (state g.S.Store c.plan_of.new.conn)
    (stays_both (state g.S.Store c.args.conn.now) (state g.S.Store c.read.new.conn)
    (state g.S.Store c.plan_of.new.conn) (c.read.ensures.stays (c.plan_of.ensures.clean clean))
    (c.plan_of.ensures.stays clean))

pub returns-in_err-dated_if-clause-others : goal.returns-in_err-dated_if-clause-others
returns-in_err-dated_if-clause-others g c other = absurd (other c.in_ok-plan.ensures.own)

pub returns-in_err-dated_if-clause-stays : goal.returns-in_err-dated_if-clause-stays
returns-in_err-dated_if-clause-stays g c clean other = absurd (other c.in_ok-plan.ensures.own)

pub returns-in_err-dated_if-clause-foreign : goal.returns-in_err-dated_if-clause-foreign
returns-in_err-dated_if-clause-foreign g c clean enters for other =
    let read = c.plan_of.ensures.clean clean in
    absurd (other (own_book c.args.desk.now.settings.now.mark c.in_ok-book.book.is_own
    (state g.S.Store c.args.conn.now) (c.in_ok-book.ensures.marked read) (c.in_ok-plan.ensures.marked enters)))

pub returns-in_err-dated_if-clause-untouched : goal.returns-in_err-dated_if-clause-untouched
returns-in_err-dated_if-clause-untouched g c clean enters other =
    stays_both (state g.S.Store c.args.conn.now) (state g.S.Store c.read.new.conn)
    (state g.S.Store c.plan_of.new.conn) (c.read.ensures.stays (c.plan_of.ensures.clean clean))
    (c.plan_of.ensures.stays clean)

pub returns-in_err-dated_if-clause-unanswered : goal.returns-in_err-dated_if-clause-unanswered
returns-in_err-dated_if-clause-unanswered g c clean lacking =
    stays_both (state g.S.Store c.args.conn.now) (state g.S.Store c.read.new.conn)
    (state g.S.Store c.plan_of.new.conn) (c.read.ensures.stays (c.plan_of.ensures.clean clean))
    (c.plan_of.ensures.stays clean)

pub returns-in_err-plan-clause-undated : goal.returns-in_err-plan-clause-undated
returns-in_err-plan-clause-undated g c clean enters lacking =
    stays_both (state g.S.Store c.args.conn.now) (state g.S.Store c.read.new.conn)
    (state g.S.Store c.plan_of.new.conn) (c.read.ensures.stays (c.plan_of.ensures.clean clean))
    (c.plan_of.ensures.stays clean)

pub returns-in_err-dated_if-clause-undated : goal.returns-in_err-dated_if-clause-undated
returns-in_err-dated_if-clause-undated g c clean enters lacking =
    stays_both (state g.S.Store c.args.conn.now) (state g.S.Store c.read.new.conn)
    (state g.S.Store c.plan_of.new.conn) (c.read.ensures.stays (c.plan_of.ensures.clean clean))
    (c.plan_of.ensures.stays clean)

pub returns-in_err-is_answered-clause-undated : goal.returns-in_err-is_answered-clause-undated
returns-in_err-is_answered-clause-undated g c clean enters lacking =
    stays_both (state g.S.Store c.args.conn.now) (state g.S.Store c.read.new.conn)
    (state g.S.Store c.plan_of.new.conn) (c.read.ensures.stays (c.plan_of.ensures.clean clean))
    (c.plan_of.ensures.stays clean)

-- ---- what is entered

pub returns-in_err-book-clause-enters : goal.returns-in_err-book-clause-enters
returns-in_err-book-clause-enters g c clean kept =
    stays_word (local_clock (g.K.WallClock.shows c.args.desk.now.clock.now) c.args.desk.now.settings.now.zone)
    c.args.desk.now.settings.now.mark c.args.desk.now.settings.now.token (giver_of c.args.desk.now.settings.now.staff c.args.desk.now.staff)
    c.args.desk.now.sheet.now c.args.act (state g.S.Store c.args.conn.now) (state g.S.Store c.read.new.conn) (c.read.ensures.stays clean)

pub returns-clause-enters : goal.returns-clause-enters
returns-clause-enters g c clean kept =
    let planned = c.carry_out.ensures.clean clean in
    let read = c.plan_of.ensures.clean planned in
    word_enters (local_clock (g.K.WallClock.shows c.args.desk.now.clock.now) c.args.desk.now.settings.now.zone)
    c.args.desk.now.settings.now.mark c.args.desk.now.settings.now.token (giver_of c.args.desk.now.settings.now.staff c.args.desk.now.staff)
    c.args.desk.now.sheet.now c.args.act c.in_ok-plan.plan c.in_ok-book.book.place c.carry_out.new.book.place
    (state g.S.Store c.args.conn.now) (state g.S.Store c.read.new.conn)
    (state g.S.Store c.plan_of.new.conn) (state g.S.Store c.carry_out.new.conn)
    (c.in_ok-book.ensures.place read) (c.read.ensures.stays read) (c.plan_of.ensures.stays planned)
    (c.in_ok-plan.ensures.acts planned) (c.carry_out.ensures.enters clean kept)

pub returns-in_err-plan-clause-enters : goal.returns-in_err-plan-clause-enters
returns-in_err-plan-clause-enters g c clean kept =
    stays_word (local_clock (g.K.WallClock.shows c.args.desk.now.clock.now) c.args.desk.now.settings.now.zone)
    c.args.desk.now.settings.now.mark c.args.desk.now.settings.now.token (giver_of c.args.desk.now.settings.now.staff c.args.desk.now.staff)
    c.args.desk.now.sheet.now c.args.act (state g.S.Store c.args.conn.now) (state g.S.Store c.plan_of.new.conn)
    (stays_both (state g.S.Store c.args.conn.now) (state g.S.Store c.read.new.conn)
    (state g.S.Store c.plan_of.new.conn) (c.read.ensures.stays (c.plan_of.ensures.clean clean))
    (c.plan_of.ensures.stays clean))

pub returns-in_err-dated_if-clause-enters : goal.returns-in_err-dated_if-clause-enters
returns-in_err-dated_if-clause-enters g c clean kept =
    stays_word (local_clock (g.K.WallClock.shows c.args.desk.now.clock.now) c.args.desk.now.settings.now.zone)
    c.args.desk.now.settings.now.mark c.args.desk.now.settings.now.token (giver_of c.args.desk.now.settings.now.staff c.args.desk.now.staff)
    c.args.desk.now.sheet.now c.args.act (state g.S.Store c.args.conn.now) (state g.S.Store c.plan_of.new.conn)
    (stays_both (state g.S.Store c.args.conn.now) (state g.S.Store c.read.new.conn)
    (state g.S.Store c.plan_of.new.conn) (c.read.ensures.stays (c.plan_of.ensures.clean clean))
    (c.plan_of.ensures.stays clean))

pub returns-in_err-is_answered-clause-enters : goal.returns-in_err-is_answered-clause-enters
returns-in_err-is_answered-clause-enters g c clean kept =
    stays_word (local_clock (g.K.WallClock.shows c.args.desk.now.clock.now) c.args.desk.now.settings.now.zone)
    c.args.desk.now.settings.now.mark c.args.desk.now.settings.now.token (giver_of c.args.desk.now.settings.now.staff c.args.desk.now.staff)
    c.args.desk.now.sheet.now c.args.act (state g.S.Store c.args.conn.now) (state g.S.Store c.plan_of.new.conn)
    (stays_both (state g.S.Store c.args.conn.now) (state g.S.Store c.read.new.conn)
    (state g.S.Store c.plan_of.new.conn) (c.read.ensures.stays (c.plan_of.ensures.clean clean))
    (c.plan_of.ensures.stays clean))

pub returns-clause-dated : goal.returns-clause-dated
returns-clause-dated g c clean enters =
    let planned = c.carry_out.ensures.clean clean in
    let read = c.plan_of.ensures.clean planned in
    on_ok _
    (dated_book (local_clock (g.K.WallClock.shows c.args.desk.now.clock.now) c.args.desk.now.settings.now.zone)
    c.args.desk.now.wall (offset_of c.args.desk.now.settings.now.zone) c.args.desk.now.said_day
    c.in_ok-book.book.last c.in_ok-book.book.place (state g.S.Store c.args.conn.now)
    (c.in_ok-book.ensures.place read) (c.in_ok-book.ensures.moment read) (c.in_ok-dated_if.ensures (c.enters_acts-enters.ensures ∙ enters)))

pub returns-clause-undated : goal.returns-clause-undated
returns-clause-undated g c clean enters lacking =
    let planned = c.carry_out.ensures.clean clean in
    let read = c.plan_of.ensures.clean planned in
    absurd (lacking
    (dated_book (local_clock (g.K.WallClock.shows c.args.desk.now.clock.now) c.args.desk.now.settings.now.zone)
    c.args.desk.now.wall (offset_of c.args.desk.now.settings.now.zone) c.args.desk.now.said_day
    c.in_ok-book.book.last c.in_ok-book.book.place (state g.S.Store c.args.conn.now)
    (c.in_ok-book.ensures.place read) (c.in_ok-book.ensures.moment read) (c.in_ok-dated_if.ensures (c.enters_acts-enters.ensures ∙ enters))))

-- ---- acts that are given once more

pub returns-clause-again : goal.returns-clause-again
returns-clause-again g c clean =
    let planned = c.carry_out.ensures.clean clean in
    let read = c.plan_of.ensures.clean planned in
    if_ok_then c.carry_out.result _ (c.carry_out.ensures.again clean)
    (word_repeated (IsExchanged (g.V.Server.opens c.args.desk.now.server.now) g.V.Reader.Read.remaining g.V.Writer.Write.contents)
    (local_clock (g.K.WallClock.shows c.args.desk.now.clock.now) c.args.desk.now.settings.now.zone)
    c.args.desk.now.settings.now.mark c.args.desk.now.settings.now.token c.args.desk.now.settings.now.staff
    c.args.desk.now.sheet.now c.args.act c.in_ok-plan.plan c.in_ok-book.book.place c.carry_out.new.book.place
    (state g.S.Store c.args.conn.now) (state g.S.Store c.read.new.conn)
    (state g.S.Store c.plan_of.new.conn) (state g.S.Store c.carry_out.new.conn)
    (c.in_ok-book.ensures.place read) (c.read.ensures.stays read) (c.plan_of.ensures.stays planned)
    (c.in_ok-plan.ensures.acts planned))

-- ---- what is printed

pub returns-clause-says : goal.returns-clause-says
returns-clause-says g c clean =
    let planned = c.carry_out.ensures.clean clean in
    let read = c.plan_of.ensures.clean planned in
    if_ok_so c.carry_out.result _ _ (c.carry_out.ensures.says clean)
    (λ said. word_says (IsExchanged (g.V.Server.opens c.args.desk.now.server.now) g.V.Reader.Read.remaining g.V.Writer.Write.contents)
    (IsAnswered (g.V.Server.opens c.args.desk.now.server.now) g.V.Reader.Read.remaining g.V.Writer.Write.contents)
    (local_clock (g.K.WallClock.shows c.args.desk.now.clock.now) c.args.desk.now.settings.now.zone)
    (IsOnWall c.args.desk.now.wall (offset_of c.args.desk.now.settings.now.zone))
    c.args.desk.now.settings.now.mark c.args.desk.now.settings.now.token (giver_of c.args.desk.now.settings.now.staff c.args.desk.now.staff)
    c.args.desk.now.is_json c.args.desk.now.sheet.now c.in_ok-book.book.last c.args.act c.in_ok-plan.plan c.in_ok-book.book.place
    c.carry_out.new.book.place (state g.S.Store c.args.conn.now) (state g.S.Store c.read.new.conn)
    (state g.S.Store c.plan_of.new.conn) (state g.S.Store c.carry_out.new.conn) (string_bytes said.text) said.status
    (c.in_ok-book.ensures.place read) (c.in_ok-book.ensures.moment read) (c.read.ensures.stays read) (c.plan_of.ensures.stays planned)
    (c.in_ok-plan.ensures.acts planned))

-- ---- a stop

pub returns-in_err-book-clause-crash : goal.returns-in_err-book-clause-crash
returns-in_err-book-clause-crash g c clean branch =
    stays_at_till _ c.args.desk.now.settings.now.mark (state g.S.Store c.args.conn.now) (state g.S.Store c.read.new.conn)
    (c.read.ensures.stays clean)

pub returns-in_err-book-clause-crash_office : goal.returns-in_err-book-clause-crash_office
returns-in_err-book-clause-crash_office g c clean office =
    stays_at_any _ (state g.S.Store c.args.conn.now) (state g.S.Store c.read.new.conn)
    (c.read.ensures.stays clean)

pub returns-in_err-book-clause-crash_enters : goal.returns-in_err-book-clause-crash_enters
returns-in_err-book-clause-crash_enters g c clean =
    stays_left (IsExchanged (g.V.Server.opens c.args.desk.now.server.now) g.V.Reader.Read.remaining g.V.Writer.Write.contents)
    (local_clock (g.K.WallClock.shows c.args.desk.now.clock.now) c.args.desk.now.settings.now.zone)
    c.args.desk.now.settings.now.mark c.args.desk.now.settings.now.token (giver_of c.args.desk.now.settings.now.staff c.args.desk.now.staff)
    c.args.desk.now.sheet.now c.args.act (state g.S.Store c.args.conn.now) (state g.S.Store c.read.new.conn)
    (c.read.ensures.stays clean)

pub returns-in_err-plan-clause-crash : goal.returns-in_err-plan-clause-crash
returns-in_err-plan-clause-crash g c clean branch =
    stays_at_till _ c.args.desk.now.settings.now.mark (state g.S.Store c.args.conn.now) (state g.S.Store c.plan_of.new.conn)
    (stays_both (state g.S.Store c.args.conn.now) (state g.S.Store c.read.new.conn)
    (state g.S.Store c.plan_of.new.conn) (c.read.ensures.stays (c.plan_of.ensures.clean clean))
    (c.plan_of.ensures.stays clean))

pub returns-in_err-plan-clause-crash_office : goal.returns-in_err-plan-clause-crash_office
returns-in_err-plan-clause-crash_office g c clean office =
    stays_at_any _ (state g.S.Store c.args.conn.now) (state g.S.Store c.plan_of.new.conn)
    (stays_both (state g.S.Store c.args.conn.now) (state g.S.Store c.read.new.conn)
    (state g.S.Store c.plan_of.new.conn) (c.read.ensures.stays (c.plan_of.ensures.clean clean))
    (c.plan_of.ensures.stays clean))

pub returns-in_err-plan-clause-crash_enters : goal.returns-in_err-plan-clause-crash_enters
returns-in_err-plan-clause-crash_enters g c clean =
    stays_left (IsExchanged (g.V.Server.opens c.args.desk.now.server.now) g.V.Reader.Read.remaining g.V.Writer.Write.contents)
    (local_clock (g.K.WallClock.shows c.args.desk.now.clock.now) c.args.desk.now.settings.now.zone)
    c.args.desk.now.settings.now.mark c.args.desk.now.settings.now.token (giver_of c.args.desk.now.settings.now.staff c.args.desk.now.staff)
    c.args.desk.now.sheet.now c.args.act (state g.S.Store c.args.conn.now) (state g.S.Store c.plan_of.new.conn)
    (stays_both (state g.S.Store c.args.conn.now) (state g.S.Store c.read.new.conn)
    (state g.S.Store c.plan_of.new.conn) (c.read.ensures.stays (c.plan_of.ensures.clean clean))
    (c.plan_of.ensures.stays clean))

pub returns-in_err-dated_if-clause-crash : goal.returns-in_err-dated_if-clause-crash
returns-in_err-dated_if-clause-crash g c clean branch =
    stays_at_till _ c.args.desk.now.settings.now.mark (state g.S.Store c.args.conn.now) (state g.S.Store c.plan_of.new.conn)
    (stays_both (state g.S.Store c.args.conn.now) (state g.S.Store c.read.new.conn)
    (state g.S.Store c.plan_of.new.conn) (c.read.ensures.stays (c.plan_of.ensures.clean clean))
    (c.plan_of.ensures.stays clean))

pub returns-in_err-dated_if-clause-crash_office : goal.returns-in_err-dated_if-clause-crash_office
returns-in_err-dated_if-clause-crash_office g c clean office =
    stays_at_any _ (state g.S.Store c.args.conn.now) (state g.S.Store c.plan_of.new.conn)
    (stays_both (state g.S.Store c.args.conn.now) (state g.S.Store c.read.new.conn)
    (state g.S.Store c.plan_of.new.conn) (c.read.ensures.stays (c.plan_of.ensures.clean clean))
    (c.plan_of.ensures.stays clean))

pub returns-in_err-dated_if-clause-crash_enters : goal.returns-in_err-dated_if-clause-crash_enters
returns-in_err-dated_if-clause-crash_enters g c clean =
    stays_left (IsExchanged (g.V.Server.opens c.args.desk.now.server.now) g.V.Reader.Read.remaining g.V.Writer.Write.contents)
    (local_clock (g.K.WallClock.shows c.args.desk.now.clock.now) c.args.desk.now.settings.now.zone)
    c.args.desk.now.settings.now.mark c.args.desk.now.settings.now.token (giver_of c.args.desk.now.settings.now.staff c.args.desk.now.staff)
    c.args.desk.now.sheet.now c.args.act (state g.S.Store c.args.conn.now) (state g.S.Store c.plan_of.new.conn)
    (stays_both (state g.S.Store c.args.conn.now) (state g.S.Store c.read.new.conn)
    (state g.S.Store c.plan_of.new.conn) (c.read.ensures.stays (c.plan_of.ensures.clean clean))
    (c.plan_of.ensures.stays clean))

pub returns-in_err-is_answered-clause-crash : goal.returns-in_err-is_answered-clause-crash
returns-in_err-is_answered-clause-crash g c clean branch =
    stays_at_till _ c.args.desk.now.settings.now.mark (state g.S.Store c.args.conn.now) (state g.S.Store c.plan_of.new.conn)
    (stays_both (state g.S.Store c.args.conn.now) (state g.S.Store c.read.new.conn)
    (state g.S.Store c.plan_of.new.conn) (c.read.ensures.stays (c.plan_of.ensures.clean clean))
    (c.plan_of.ensures.stays clean))

pub returns-in_err-is_answered-clause-crash_office : goal.returns-in_err-is_answered-clause-crash_office
returns-in_err-is_answered-clause-crash_office g c clean office =
    stays_at_any _ (state g.S.Store c.args.conn.now) (state g.S.Store c.plan_of.new.conn)
    (stays_both (state g.S.Store c.args.conn.now) (state g.S.Store c.read.new.conn)
    (state g.S.Store c.plan_of.new.conn) (c.read.ensures.stays (c.plan_of.ensures.clean clean))
    (c.plan_of.ensures.stays clean))

pub returns-in_err-is_answered-clause-crash_enters : goal.returns-in_err-is_answered-clause-crash_enters
returns-in_err-is_answered-clause-crash_enters g c clean =
    stays_left (IsExchanged (g.V.Server.opens c.args.desk.now.server.now) g.V.Reader.Read.remaining g.V.Writer.Write.contents)
    (local_clock (g.K.WallClock.shows c.args.desk.now.clock.now) c.args.desk.now.settings.now.zone)
    c.args.desk.now.settings.now.mark c.args.desk.now.settings.now.token (giver_of c.args.desk.now.settings.now.staff c.args.desk.now.staff)
    c.args.desk.now.sheet.now c.args.act (state g.S.Store c.args.conn.now) (state g.S.Store c.plan_of.new.conn)
    (stays_both (state g.S.Store c.args.conn.now) (state g.S.Store c.read.new.conn)
    (state g.S.Store c.plan_of.new.conn) (c.read.ensures.stays (c.plan_of.ensures.clean clean))
    (c.plan_of.ensures.stays clean))

pub returns-clause-crash : goal.returns-clause-crash
returns-clause-crash g c clean branch =
    let planned = c.carry_out.ensures.clean clean in
    let read = c.plan_of.ensures.clean planned in
    read_leaves c.in_ok-book.book.place (state g.S.Store c.args.conn.now) (state g.S.Store c.plan_of.new.conn)
    (state g.S.Store c.carry_out.new.conn) (c.in_ok-book.ensures.place read)
    (stays_both (state g.S.Store c.args.conn.now) (state g.S.Store c.read.new.conn)
    (state g.S.Store c.plan_of.new.conn) (c.read.ensures.stays read) (c.plan_of.ensures.stays planned)) _ _
    (plan_at_till (IsExchanged (g.V.Server.opens c.args.desk.now.server.now) g.V.Reader.Read.remaining g.V.Writer.Write.contents)
    (local_clock (g.K.WallClock.shows c.args.desk.now.clock.now) c.args.desk.now.settings.now.zone)
    c.args.desk.now.settings.now.mark c.args.desk.now.settings.now.token (giver_of c.args.desk.now.settings.now.staff c.args.desk.now.staff)
    c.args.desk.now.settings.now.staff c.in_ok-plan.plan
    (HasPlace c.in_ok-book.book.place (state g.S.Store c.plan_of.new.conn)) (state g.S.Store c.carry_out.new.conn) branch c.in_ok-plan.ensures.planned
    (c.carry_out.ensures.crash clean))

pub returns-clause-crash_office : goal.returns-clause-crash_office
returns-clause-crash_office g c clean office =
    let planned = c.carry_out.ensures.clean clean in
    let read = c.plan_of.ensures.clean planned in
    read_leaves c.in_ok-book.book.place (state g.S.Store c.args.conn.now) (state g.S.Store c.plan_of.new.conn)
    (state g.S.Store c.carry_out.new.conn) (c.in_ok-book.ensures.place read)
    (stays_both (state g.S.Store c.args.conn.now) (state g.S.Store c.read.new.conn)
    (state g.S.Store c.plan_of.new.conn) (c.read.ensures.stays read) (c.plan_of.ensures.stays planned)) _ _
    (plan_at_office (IsExchanged (g.V.Server.opens c.args.desk.now.server.now) g.V.Reader.Read.remaining g.V.Writer.Write.contents)
    (local_clock (g.K.WallClock.shows c.args.desk.now.clock.now) c.args.desk.now.settings.now.zone)
    c.args.desk.now.settings.now.mark c.args.desk.now.settings.now.token (giver_of c.args.desk.now.settings.now.staff c.args.desk.now.staff)
    c.args.desk.now.settings.now.staff c.in_ok-plan.plan
    (HasPlace c.in_ok-book.book.place (state g.S.Store c.plan_of.new.conn)) (state g.S.Store c.carry_out.new.conn) office c.in_ok-plan.ensures.planned
    (c.carry_out.ensures.crash clean))

pub returns-clause-crash_enters : goal.returns-clause-crash_enters
returns-clause-crash_enters g c clean =
    let planned = c.carry_out.ensures.clean clean in
    let read = c.plan_of.ensures.clean planned in
    word_left (IsExchanged (g.V.Server.opens c.args.desk.now.server.now) g.V.Reader.Read.remaining g.V.Writer.Write.contents)
    (local_clock (g.K.WallClock.shows c.args.desk.now.clock.now) c.args.desk.now.settings.now.zone)
    c.args.desk.now.settings.now.mark c.args.desk.now.settings.now.token (giver_of c.args.desk.now.settings.now.staff c.args.desk.now.staff)
    c.args.desk.now.sheet.now c.args.act c.in_ok-plan.plan c.in_ok-book.book.place (state g.S.Store c.args.conn.now)
    (state g.S.Store c.read.new.conn) (state g.S.Store c.plan_of.new.conn) (state g.S.Store c.carry_out.new.conn)
    (c.in_ok-book.ensures.place read) (c.read.ensures.stays read) (c.plan_of.ensures.stays planned)
    (c.in_ok-plan.ensures.acts planned) (c.carry_out.ensures.crash clean)

-- ---- the book is shown

pub returns-clause-shows : goal.returns-clause-shows
returns-clause-shows g c clean =
    let planned = c.carry_out.ensures.clean clean in
    let read = c.plan_of.ensures.clean planned in
    if_ok_so c.carry_out.result _ _ (c.carry_out.ensures.shows clean)
    (λ said. word_shows (IsExchanged (g.V.Server.opens c.args.desk.now.server.now) g.V.Reader.Read.remaining g.V.Writer.Write.contents)
    c.args.desk.now.wall (offset_of c.args.desk.now.settings.now.zone) c.args.desk.now.settings.now.staff
    (local_clock (g.K.WallClock.shows c.args.desk.now.clock.now) c.args.desk.now.settings.now.zone)
    c.args.desk.now.settings.now.mark c.args.desk.now.settings.now.token
    c.args.desk.now.is_json
    c.args.desk.now.sheet.now c.args.act c.in_ok-plan.plan c.in_ok-book.book.place
    c.carry_out.new.book.place (state g.S.Store c.args.conn.now) (state g.S.Store c.read.new.conn)
    (state g.S.Store c.plan_of.new.conn) (state g.S.Store c.carry_out.new.conn) (string_bytes said.text) said.status
    (c.in_ok-book.ensures.place read) (c.read.ensures.stays read) (c.plan_of.ensures.stays planned)
    (c.in_ok-plan.ensures.acts planned))
