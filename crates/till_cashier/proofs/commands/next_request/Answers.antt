use Rattle.std.proofs.Common.{refl, sym, ◌∙◌}
use Rattle.shop_types.specs.Seen.{seen_act}
use Rattle.till_model.specs.Numbered.{key_of}
use Rattle.till_cashier.specs.Clock.{local_clock}
use Rattle.till_cashier.proofs.Giving.{dated_within}
use Rattle.till_cashier.proofs.commands.next_request.Goals as goal

pub returns : goal.returns
returns g c = (
  c.in_ok-staff.staff,
  sym c.giver.ensures.given ∙ c.in_ok-staff.was,
  (
    record {
      key = key_of c.args.desk.now.settings.now.mark c.in_ok-number.number;
      staff = c.in_ok-staff.staff;
      moment = c.in_ok-at.at;
      act = seen_act c.args.act.now;
    },
    record {
      says = c.in_ok-request.ensures;
      by = refl;
      does = refl;
      dated =
          dated_within (local_clock (g.K.WallClock.shows c.args.desk.now.clock.now) c.args.desk.now.settings.now.zone)
          c.args.book.now.last c.args.ahead c.in_ok-at.at c.in_ok-at.ensures;
    },
  ),
)
