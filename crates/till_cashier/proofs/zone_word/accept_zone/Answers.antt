use Rattle.std.proofs.Math.Logic.{⊎_map}
use Rattle.sqlite.specs.Held.{state}
use Rattle.shop_model.specs.Calendar.{seconds_of}
use Rattle.till_cashier.proofs.LastMoment.{passes_last}
use Rattle.till_cashier.proofs.zone_word.accept_zone.Goals as goal

pub returns-clause-later : goal.returns-clause-later
returns-clause-later g c clean =
    ⊎_map
    (λ same. same)
    (passes_last c.in_ok-book.book.last (seconds_of c.in_ok-now.now) (state g.S.Store c.args.conn.now) (c.in_ok-book.ensures.moment clean))
    c.in_ok-goes_on.ensures.passed
