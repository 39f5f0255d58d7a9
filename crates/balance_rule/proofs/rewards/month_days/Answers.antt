use Rattle.shop_types.proofs.Common.{◌≡◌, ◌∙◌, FitsSigned, w8, w16, w32, pos, arith, to_z-of_z, to_z_pos}
use Rattle.jiff_core.proofs.SignedLemmas.{signed_arith}
use Rattle.balance_rule.proofs.MonthLemmas.{IsMonth, month_days_are}
use Rattle.balance_rule.proofs.rewards.month_days.Goals as goal

pub returns : goal.returns
returns c =
    let parts = rw c.unwrap-first.ensures at c.new.ensures.value in
    let y : c.unwrap-first.result.year ≡ pos c.args.year = parts.0 ∙ to_z_pos w16 c.args.year (omega arith) in
    let m : pos c.unwrap-first.result.month ≡ pos c.args.month = parts.1 ∙ to_z_pos w8 c.args.month (omega arith) in
    let is : IsMonth c.args.year c.args.month = record {
      year_low = c.requires.year_low;
      year_high = c.requires.year_high;
      month_low = c.requires.month_low;
      month_high = c.requires.month_high;
    } in
    let days = month_days_are c.args.year c.args.month c.unwrap-first.result c.last_of_month-last.result is y m parts.2 c.last_of_month-last.ensures in
    let first_fits : FitsSigned w32 c.to_unix_epoch_day.result = omega (arith, signed_arith) in
    let last_fits : FitsSigned w32 c.to_unix_epoch_day-2.result = omega (arith, signed_arith) in
    rw (
      to_z-of_z w32 c.to_unix_epoch_day.result first_fits,
      to_z-of_z w32 c.to_unix_epoch_day-2.result last_fits,
      c.to_unix_epoch_day.ensures.value,
      c.to_unix_epoch_day-2.ensures.value,
      c.to_plain.ensures,
      c.to_plain-2.ensures,
    )
    days
