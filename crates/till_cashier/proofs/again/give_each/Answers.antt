use Rattle.std.proofs.Common.{◌≡◌, ◌∙◌, ◌+◌, ℕ, Some, ap, sym, subst, length, arith}
use Rattle.std.proofs.lemmas.Option.{slice_get-get_or}
use Rattle.sqlite.specs.Held.{state}
use Rattle.till_cashier.specs.declared.refused.Repeat.{Repeat}
use Rattle.till_work.proofs.GoingOn.{goes_then}
use Rattle.till_work.specs.Exchanged.{IsExchanged}
use Rattle.till_cashier.specs.Again.{GivesBook}
use Rattle.till_cashier.specs.Clock.{local_clock}
use Rattle.till_cashier.proofs.Adding.{repeats_next}
use Rattle.till_cashier.proofs.GoingOn.{kept_ok}
use Rattle.till_cashier.proofs.Repeating.{book_next, stopped_kept, stopped_then}
use Rattle.till_cashier.proofs.Stops.{goes_leaves, goes_then_leaves}
use Rattle.till_cashier.proofs.again.give_each.Goals as goal

pub givings-preserved : goal.givings-preserved
givings-preserved g c = (
  c.give_again.ensures.ended,
  (λ clean. c.givings.invariant.1 (c.give_again.ensures.clean clean)),
  (λ clean.
      goes_then _ c.args.desk.now.settings.now.mark c.args.book.now.place c.givings.book.place c.give_again.new.book.place
      (state g.S.Store c.args.conn.now) (state g.S.Store c.givings.conn)
      (state g.S.Store c.give_again.new.conn) (c.givings.invariant.2 (c.give_again.ensures.clean clean)) (c.in-Ok.ensures.keeps clean (kept_ok _))),
  (λ clean.
      book_next _ _ _ _ _ _ _ _ c.args.book.now.place c.givings.book.place c.give_again.new.book.place
      (state g.S.Store c.args.conn.now) (state g.S.Store c.givings.conn)
      (state g.S.Store c.give_again.new.conn) (c.givings.invariant.3 (c.give_again.ensures.clean clean))
      (slice_get-get_or c.args.acts.now c.givings.it-index c.it-item.result c.givings-test.true ∙ ap (λ (it : Repeat). Some it) (sym c.it-item.is))
      (c.in-Ok.ensures.given clean)),
  (λ clean.
      repeats_next _ c.args.desk.now.settings.now.mark c.args.desk.now.settings.now.token c.args.desk.now.settings.now.staff c.givings.it-index
      c.args.acts.now c.it-item.result c.args.book.now.place c.givings.book.place c.give_again.new.book.place
      (state g.S.Store c.args.conn.now) (state g.S.Store c.givings.conn) (state g.S.Store c.give_again.new.conn)
      (c.givings.invariant.4 (c.give_again.ensures.clean clean))
      (slice_get-get_or c.args.acts.now c.givings.it-index c.it-item.result c.givings-test.true ∙ ap (λ (it : Repeat). Some it) (sym c.it-item.is))
      (c.in-Ok.ensures.adds clean (kept_ok _))),
)

pub returns-in-Err-clause-adds : goal.returns-in-Err-clause-adds
returns-in-Err-clause-adds g c clean kept = (
  c.givings.it-index + 1,
  repeats_next _ c.args.desk.now.settings.now.mark c.args.desk.now.settings.now.token c.args.desk.now.settings.now.staff c.givings.it-index
      c.args.acts.now c.it-item.result c.args.book.now.place c.givings.book.place c.give_again.new.book.place
      (state g.S.Store c.args.conn.now) (state g.S.Store c.givings.conn) (state g.S.Store c.give_again.new.conn)
      (c.givings.invariant.4 (c.give_again.ensures.clean clean))
      (slice_get-get_or c.args.acts.now c.givings.it-index c.it-item.result c.givings-test.true ∙ ap (λ (it : Repeat). Some it) (sym c.it-item.is))
      (c.in-Err.ensures.adds clean (stopped_kept c.stopped_by.result c.in-Err.fault c.stopped_by.ensures.book kept)),
)

pub returns-clause-adds : goal.returns-clause-adds
returns-clause-adds g c clean kept = (c.givings.it-index, c.givings.invariant.4 clean)

pub returns-in-Err-clause-given : goal.returns-in-Err-clause-given
returns-in-Err-clause-given g c clean = stopped_then _ c.stopped_by.result c.in-Err.fault c.stopped_by.ensures.other

pub returns-in-Err-clause-keeps : goal.returns-in-Err-clause-keeps
returns-in-Err-clause-keeps g c clean kept =
    goes_then _ c.args.desk.now.settings.now.mark c.args.book.now.place c.givings.book.place c.give_again.new.book.place
    (state g.S.Store c.args.conn.now) (state g.S.Store c.givings.conn)
    (state g.S.Store c.give_again.new.conn) (c.givings.invariant.2 (c.give_again.ensures.clean clean))
    (c.in-Err.ensures.keeps clean (stopped_kept c.stopped_by.result c.in-Err.fault c.stopped_by.ensures.book kept))

pub returns-in-Err-clause-crash : goal.returns-in-Err-clause-crash
returns-in-Err-clause-crash g c clean =
    goes_then_leaves _ c.args.desk.now.settings.now.mark c.args.book.now.place c.givings.book.place
    (state g.S.Store c.args.conn.now) (state g.S.Store c.givings.conn) (state g.S.Store c.give_again.new.conn)
    (c.givings.invariant.2 (c.give_again.ensures.clean clean)) (c.give_again.ensures.crash clean)

pub returns-clause-crash : goal.returns-clause-crash
returns-clause-crash g c clean =
    goes_leaves _ c.args.desk.now.settings.now.mark c.args.book.now.place c.givings.book.place
    (state g.S.Store c.args.conn.now) (state g.S.Store c.givings.conn) (c.givings.invariant.2 clean)

pub returns-clause-given : goal.returns-clause-given
returns-clause-given g c clean none =
    let all : c.givings.it-index ≡ length c.args.acts.now = omega (arith, c.givings-test.false, c.givings.auto.it-index-end) in
    subst (λ (n : ℕ). GivesBook (IsExchanged (g.V.Server.opens c.args.desk.now.server.now) g.V.Reader.Read.remaining g.V.Writer.Write.contents)
    (local_clock (g.K.WallClock.shows c.args.desk.now.clock.now) c.args.desk.now.settings.now.zone) c.args.desk.now.settings.now.mark
    c.args.desk.now.settings.now.token c.args.desk.now.settings.now.staff n c.args.acts.now c.args.book.now.place (state g.S.Store c.args.conn.now)
    c.givings.book.place (state g.S.Store c.givings.conn)) all (c.givings.invariant.3 clean)
