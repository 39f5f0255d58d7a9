use Rattle.shop_model.proofs.Common.{◌≡◌, ◌∙◌, ap, subst, arith, pos, FitsSigned, w8, w16, w32, to_z-of_z, to_z_pos, Moment, IsMoment}
use Rattle.jiff_core.proofs.SignedLemmas.{signed_arith}
use Rattle.jiff_core.proofs.CalendarLemmas.{days_in_month_bounds}
use Rattle.jiff_core.specs.Calendar.{days_from_civil}
use Rattle.shop_model.specs.Calendar.{day_of}
use Rattle.shop_types.proofs.CalendarLemmas.{days_from_civil-day_of}
use Rattle.shop_types.proofs.moment.Moment.day.Goals as goal

day_is : (c : goal.After-to_unix_epoch_day) → c.to_unix_epoch_day.result ≡ pos (day_of c.args.self)
day_is c =
    let parts = rw c.unwrap-date.ensures at c.new.ensures.value in
    let y : c.unwrap-date.result.year ≡ pos c.self.inside.year = parts.0 ∙ to_z_pos w16 c.self.inside.year (omega arith) in
    let mp : pos c.unwrap-date.result.month ≡ pos c.self.inside.month = parts.1 ∙ to_z_pos w8 c.self.inside.month (omega arith) in
    let dp : pos c.unwrap-date.result.day ≡ pos c.self.inside.day =
    parts.2 ∙ to_z_pos w8 c.self.inside.day (omega (arith, days_in_month_bounds (pos c.self.inside.year) c.self.inside.month)) in
    let m : c.unwrap-date.result.month ≡ c.self.inside.month = cc in
    let d : c.unwrap-date.result.day ≡ c.self.inside.day = cc in
    let same : days_from_civil c.unwrap-date.result.year c.unwrap-date.result.month c.unwrap-date.result.day
    ≡ days_from_civil (pos c.self.inside.year) c.self.inside.month c.self.inside.day =
    λ i. days_from_civil (y i) (m i) (d i) in
    let valid : IsMoment c.args.self = subst IsMoment c.self.view_is c.self.invariant in
    c.to_unix_epoch_day.ensures.value ∙ rw c.to_plain.ensures (same ∙ ap (λ (a : Moment). days_from_civil (pos a.year) a.month a.day) c.self.view_is)
    ∙ days_from_civil-day_of c.args.self valid

pub returns-clause-value : goal.returns-clause-value
returns-clause-value c =
    let fits : FitsSigned w32 c.to_unix_epoch_day.result = omega (arith, signed_arith) in
    rw (to_z-of_z w32 c.to_unix_epoch_day.result fits) (day_is c)
