use Rattle.shop_model.proofs.Common.{◌≡◌, ◌∙◌, ◌+◌, ◌*◌, ap, arith, FitsSigned, w32, to_z, of_z, unsigned_abs, to_z-of_z, Moment}
use Rattle.jiff_core.proofs.SignedLemmas.{signed_arith}
use Rattle.shop_model.specs.Calendar.{day_of, seconds_of}
use Rattle.shop_types.proofs.moment.Moment.seconds.Goals as goal

pub returns : goal.returns
unfolding seconds_of
returns c =
    let fits : FitsSigned w32 c.day-day.result = omega (arith, signed_arith, c.day-day.ensures.value) in
    let clock = λ (m : Moment). m.hour * 3600 + (m.minute * 60 + m.second) in
    let day : unsigned_abs (to_z w32 (of_z w32 c.day-day.result)) ≡ day_of c.args.self =
    ap unsigned_abs (to_z-of_z w32 c.day-day.result fits ∙ c.day-day.ensures.value) in
    λ i. day i * 86400 + ap clock c.self.view_is i
