use Rattle.sqlite.specs.Held.{state}
use Rattle.shop_types.specs.Seen.{seen_act}
use Rattle.till_client.specs.Replies.{seen_answer}
use Rattle.till_cashier.specs.declared.commands.EntryReply.{EntryReply}
use Rattle.till_work.proofs.GoingOn.{goes_then, stays_goes}
use Rattle.till_cashier.proofs.GoingOn.{kept_ok}
use Rattle.till_cashier.specs.Clock.{local_clock}
use Rattle.till_cashier.specs.Faults.{giver_of}
use Rattle.till_cashier.proofs.Giving.{gives_so_far, gave}
use Rattle.till_cashier.proofs.Refusing.{so_far_adds, all_tries_add}
use Rattle.till_cashier.proofs.Stops.{so_far_leaves, all_tries_leave}
use Rattle.till_cashier.proofs.commands.give.Goals as goal

pub returns-in-Err-clause-keeps : goal.returns-in-Err-clause-keeps
returns-in-Err-clause-keeps g c clean kept =
    goes_then _ c.args.desk.now.settings.now.mark c.args.book.now.place c.tries.book.place c.give_once.new.book.place
    (state g.S.Store c.args.conn.now) (state g.S.Store c.tries.conn)
    (state g.S.Store c.give_once.new.conn) (c.tries.invariant.2 (c.give_once.ensures.clean clean)) (c.in-Err.ensures.keeps clean kept)

pub returns-then-not-is_back-clause-given : goal.returns-then-not-is_back-clause-given
returns-then-not-is_back-clause-given g c clean =
    gives_so_far _ _ _ _ _ _ (λ (it : EntryReply). seen_answer it.answer) c.tries.told _ c.args.book.now.place
    c.tries.book.place c.give_once.new.book.place (state g.S.Store c.args.conn.now)
    (state g.S.Store c.tries.conn) (state g.S.Store c.give_once.new.conn) (c.tries.invariant.3 (c.give_once.ensures.clean clean)) (c.in-Ok.ensures.tried clean)

pub returns-then-not-is_back-clause-keeps : goal.returns-then-not-is_back-clause-keeps
returns-then-not-is_back-clause-keeps g c clean kept =
    goes_then _ c.args.desk.now.settings.now.mark c.args.book.now.place c.tries.book.place c.give_once.new.book.place
    (state g.S.Store c.args.conn.now) (state g.S.Store c.tries.conn)
    (state g.S.Store c.give_once.new.conn) (c.tries.invariant.2 (c.give_once.ensures.clean clean)) (c.in-Ok.ensures.keeps clean (kept_ok _))

pub tries-preserved : goal.tries-preserved
tries-preserved g c = (
  c.give_once.ensures.ended,
  (λ clean. c.tries.invariant.1 (c.give_once.ensures.clean clean)),
  (λ clean.
      goes_then _ c.args.desk.now.settings.now.mark c.args.book.now.place c.tries.book.place c.give_once.new.book.place
      (state g.S.Store c.args.conn.now) (state g.S.Store c.tries.conn)
      (state g.S.Store c.give_once.new.conn) (c.tries.invariant.2 (c.give_once.ensures.clean clean)) (c.in-Ok.ensures.keeps clean (kept_ok _))),
  (λ clean. (
    gives_so_far _ _ _ _ _ _ (λ (it : EntryReply). seen_answer it.answer) c.tries.told _ c.args.book.now.place
        c.tries.book.place c.give_once.new.book.place (state g.S.Store c.args.conn.now)
        (state g.S.Store c.tries.conn) (state g.S.Store c.give_once.new.conn)
        (c.tries.invariant.3 (c.give_once.ensures.clean clean)) (c.in-Ok.ensures.tried clean),
    c.is_back.ensures c.if-not-is_back.false,
  )),
)

pub returns-clause-given : goal.returns-clause-given
returns-clause-given g c clean =
    gave _ _ _ _ _ _ (λ (it : EntryReply). seen_answer it.answer) c.tries.told c.args.book.now.place c.tries.book.place
    (state g.S.Store c.args.conn.now) (state g.S.Store c.tries.conn)
    (c.tries.invariant.3 clean)

pub returns-clause-keeps : goal.returns-clause-keeps
returns-clause-keeps g c clean kept = c.tries.invariant.2 clean

pub tries-init : goal.tries-init
tries-init g c = (
  c.requires,
  (λ clean. clean),
  (λ clean.
      stays_goes _ c.args.desk.now.settings.now.mark c.args.book.now.place c.args.book.now.place (state g.S.Store c.args.conn.now)
      (state g.S.Store c.args.conn.now) (λ journal has. has)),
  (λ clean. (λ journal has. has)),
)

pub returns-in-Err-clause-adds : goal.returns-in-Err-clause-adds
returns-in-Err-clause-adds g c clean kept =
    so_far_adds _ (local_clock (g.K.WallClock.shows c.args.desk.now.clock.now) c.args.desk.now.settings.now.zone) c.args.desk.now.settings.now.mark
    c.args.desk.now.settings.now.token (giver_of c.args.desk.now.settings.now.staff c.args.desk.now.staff) (seen_act c.args.act.now)
    (λ (it : EntryReply). seen_answer it.answer) c.tries.told c.args.book.now.place c.tries.book.place c.give_once.new.book.place
    (state g.S.Store c.args.conn.now)
    (state g.S.Store c.tries.conn) (state g.S.Store c.give_once.new.conn) (c.tries.invariant.3 (c.give_once.ensures.clean clean))
    (c.in-Err.ensures.adds clean kept)

pub returns-then-not-is_back-clause-adds : goal.returns-then-not-is_back-clause-adds
returns-then-not-is_back-clause-adds g c clean kept =
    so_far_adds _ (local_clock (g.K.WallClock.shows c.args.desk.now.clock.now) c.args.desk.now.settings.now.zone) c.args.desk.now.settings.now.mark
    c.args.desk.now.settings.now.token (giver_of c.args.desk.now.settings.now.staff c.args.desk.now.staff) (seen_act c.args.act.now)
    (λ (it : EntryReply). seen_answer it.answer) c.tries.told c.args.book.now.place c.tries.book.place c.give_once.new.book.place
    (state g.S.Store c.args.conn.now)
    (state g.S.Store c.tries.conn) (state g.S.Store c.give_once.new.conn) (c.tries.invariant.3 (c.give_once.ensures.clean clean))
    (c.in-Ok.ensures.adds clean (kept_ok _))

pub returns-clause-adds : goal.returns-clause-adds
returns-clause-adds g c clean kept =
    all_tries_add _ (local_clock (g.K.WallClock.shows c.args.desk.now.clock.now) c.args.desk.now.settings.now.zone) c.args.desk.now.settings.now.mark
    c.args.desk.now.settings.now.token (giver_of c.args.desk.now.settings.now.staff c.args.desk.now.staff) (seen_act c.args.act.now)
    (λ (it : EntryReply). seen_answer it.answer) c.tries.told c.args.book.now.place c.tries.book.place (state g.S.Store c.args.conn.now)
    (state g.S.Store c.tries.conn)
    (c.tries.invariant.3 clean)

pub returns-in-Err-clause-crash : goal.returns-in-Err-clause-crash
returns-in-Err-clause-crash g c clean =
    so_far_leaves _ (local_clock (g.K.WallClock.shows c.args.desk.now.clock.now) c.args.desk.now.settings.now.zone) c.args.desk.now.settings.now.token
    (giver_of c.args.desk.now.settings.now.staff c.args.desk.now.staff) (seen_act c.args.act.now) c.args.desk.now.settings.now.mark
    (λ (it : EntryReply). seen_answer it.answer) c.tries.told c.args.book.now.place c.tries.book.place
    (state g.S.Store c.args.conn.now) (state g.S.Store c.tries.conn) (state g.S.Store c.give_once.new.conn)
    (c.tries.invariant.3 (c.give_once.ensures.clean clean)) (c.give_once.ensures.crash clean)

pub returns-then-not-is_back-clause-crash : goal.returns-then-not-is_back-clause-crash
returns-then-not-is_back-clause-crash g c clean =
    so_far_leaves _ (local_clock (g.K.WallClock.shows c.args.desk.now.clock.now) c.args.desk.now.settings.now.zone) c.args.desk.now.settings.now.token
    (giver_of c.args.desk.now.settings.now.staff c.args.desk.now.staff) (seen_act c.args.act.now) c.args.desk.now.settings.now.mark
    (λ (it : EntryReply). seen_answer it.answer) c.tries.told c.args.book.now.place c.tries.book.place
    (state g.S.Store c.args.conn.now) (state g.S.Store c.tries.conn) (state g.S.Store c.give_once.new.conn)
    (c.tries.invariant.3 (c.give_once.ensures.clean clean)) (c.give_once.ensures.crash clean)

pub returns-clause-crash : goal.returns-clause-crash
returns-clause-crash g c clean =
    all_tries_leave _ (local_clock (g.K.WallClock.shows c.args.desk.now.clock.now) c.args.desk.now.settings.now.zone) c.args.desk.now.settings.now.token
    (giver_of c.args.desk.now.settings.now.staff c.args.desk.now.staff) (seen_act c.args.act.now) c.args.desk.now.settings.now.mark
    (λ (it : EntryReply). seen_answer it.answer) c.tries.told c.args.book.now.place c.tries.book.place
    (state g.S.Store c.args.conn.now) (state g.S.Store c.tries.conn) (c.tries.invariant.3 clean)
