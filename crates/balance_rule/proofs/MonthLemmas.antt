-- The first and the last day of a month are the same in jiff and in the written calendar.
use Rattle.shop_types.proofs.Common.{◌≡◌, ◌∙◌, ℕ, ℤ, pos, ◌≤◌, arith, Moment, days_in_month, month_days, days_from_civil-day_of}
use Rattle.jiff_core.proofs.CalendarLemmas.{days_in_month_bounds}
use Rattle.jiff_core.specs.Calendar.{days_from_civil, days_in_month as jiff_days_in_month}
use Rattle.jiff_core.specs.Date.{IsYmd, month_length}
use Rattle.jiff_core.specs.declared.civil.date.Date.{Date}
use Rattle.shop_model.specs.Calendar.{day_of, day_number}
use Rattle.balance_rule.specs.Rewards.{seen_days}

pub record IsMonth (year month : ℕ) : Type 0 where
  pub year_low : 1970 ≤ year
  pub year_high : year ≤ 9999
  pub month_low : 1 ≤ month
  pub month_high : month ≤ 12

day_number_is : (year month day : ℕ) → IsMonth year month → 1 ≤ day → day ≤ days_in_month year month
    → days_from_civil (pos year) month day ≡ pos (day_number year month day)
unfolding day_of
day_number_is year month day is low high =
    let m : Moment = record { year = year; month = month; day = day; hour = 0; minute = 0; second = 0 } in
    days_from_civil-day_of m (record {
      year_low = is.year_low;
      year_high = is.year_high;
      month_low = is.month_low;
      month_high = is.month_high;
      day_low = low;
      day_high = high;
      hour = omega arith;
      minute = omega arith;
      second = omega arith;
    })

-- the day number of a date of jiff
date_is : (d : Date) (year month day : ℕ) → IsMonth year month → 1 ≤ day → day ≤ days_in_month year month
    → d.year ≡ pos year → pos d.month ≡ pos month → pos d.day ≡ pos day → days_from_civil d.year d.month d.day ≡ pos (day_number year month day)
date_is d year month day is low high y mp dp =
    let m : d.month ≡ month = cc in
    let n : d.day ≡ day = cc in
    let same : days_from_civil d.year d.month d.day ≡ days_from_civil (pos year) month day = λ i. days_from_civil (y i) (m i) (n i) in
    same ∙ day_number_is year month day is low high

-- the days of a month whose first and last dates are `first` and `last`
pub month_days_are : (year month : ℕ) (first last : Date) → IsMonth year month
    → first.year ≡ pos year → pos first.month ≡ pos month → pos first.day ≡ pos 1 → IsYmd first.year (pos first.month) (pos (month_length first)) last
    → ◌≡◌ {A = ℤ × ℤ} (days_from_civil first.year first.month first.day, days_from_civil last.year last.month last.day) (seen_days (month_days year month))
month_days_are year month first last is y mp dp ends =
    let m : first.month ≡ month = cc in
    let days : pos (month_length first) ≡ pos (days_in_month year month) = λ i. pos (jiff_days_in_month (y i) (m i)) in
    let bounds = days_in_month_bounds (pos year) month in
    let a = date_is first year month 1 is (omega arith) (omega (arith, bounds)) y mp dp in
    let b = date_is last year month (days_in_month year month) is (omega (arith, bounds)) (omega arith) (ends.0 ∙ y) (ends.1 ∙ mp) (ends.2 ∙ days) in
    λ i. (a i, b i)
