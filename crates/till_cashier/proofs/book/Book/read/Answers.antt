use Rattle.std.proofs.Common.{refl}
use Rattle.sqlite.specs.Held.{state}
use Rattle.till_cashier.proofs.GoingOn.{place_of}
use Rattle.till_cashier.proofs.LastMoment.{tells_moment}
use Rattle.till_cashier.proofs.Marks.{tells_mark, knows_own}
use Rattle.till_cashier.proofs.book.Book.read.Goals as goal

pub returns-clause-place : goal.returns-clause-place
returns-clause-place g c clean =
    place_of c.in-Ok.end _ (state g.S.Store c.args.conn.now) (state g.S.Store c.read_end.new.conn) refl refl (c.in-Ok.ensures.found clean)

pub returns-clause-marked : goal.returns-clause-marked
returns-clause-marked g c clean =
    tells_mark c.args.mark.now _ c.in-Ok.end (state g.S.Store c.args.conn.now)
    (state g.S.Store c.read_end.new.conn) c.in_ok-at.ensures.marked (c.in-Ok.ensures.found clean)

pub returns-clause-moment : goal.returns-clause-moment
returns-clause-moment g c clean =
    tells_moment _ c.in-Ok.end (state g.S.Store c.args.conn.now)
    (state g.S.Store c.read_end.new.conn) c.in_ok-at.ensures.moment (c.in-Ok.ensures.found clean)

pub returns-clause-own : goal.returns-clause-own
returns-clause-own g c clean = knows_own c.args.mark.now _ (state g.S.Store c.args.conn.now) (returns-clause-marked g c clean)
