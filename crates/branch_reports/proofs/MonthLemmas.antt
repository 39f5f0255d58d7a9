-- The month before a moment's month is the time between the first seconds of both months.
use Rattle.shop_schema.proofs.Common.{◌≡◌, ◌∙◌, refl, sym, ap, arith, ℕ, ℤ, pos, suc, ◌+◌, ◌*◌, ◌<◌, ◌≤◌, List, [], ◌∷◌, map, filter, Bool, true, false, cond}
use Rattle.shop_schema.proofs.Common.{Option, Some, None, option_map, nat_lt, nat_le, int_le, if◌then◌else◌, AllByRecursion, nat_tests, all-filter, Moment}
use Rattle.shop_schema.proofs.Common.{is_leap_year, days_in_year, days_in_month, is_by, is_earlier, month_days, month_before, Row, is_of, of, Payment, Shop}
use Rattle.shop_schema.proofs.Common.{Books, rewarded_in, IsRow, IsPayment, IsHeld, Payments}
use Rattle.std.specs.Prelude.{◌-◌, ◌==◌, ◌&&◌, ◌||◌}
use Rattle.std.proofs.lemmas.Int.{ints}
use Rattle.shop_model.specs.Calendar.{days_of_years, days_of_months, day_number, day_of, seconds_of}
use Rattle.shop_schema.proofs.Days.{whole_year}
use Rattle.balance_rule.specs.Rewards.{seen_days}
use Rattle.branch_reports.specs.Rewards.{is_paid_in}

-- ---- the first seconds of months

abbrev pub month_start : ℕ → ℕ → Moment
month_start year month = record { year = year; month = month; day = 1; hour = 0; minute = 0; second = 0 }

start_is : (year month : ℕ) → seconds_of (month_start year month) ≡ day_number year month 1 * 86_400
unfolding seconds_of day_of
start_is year month = omega arith

some_days : (year month : ℕ) → 1 ≤ days_in_month year month
some_days year month = go (month == 2) (is_leap_year year) ((month == 4) || (month == 6) || (month == 9) || (month == 11))
  where
    go : (a b c : Bool) → 1 ≤ (if a then (if b then 29 else 28) else (if c then 30 else 31))
    go true true c = omega arith
    go true false c = omega arith
    go false b true = omega arith
    go false b false = omega arith

days_up : (year n : ℕ) → days_of_months year (suc n) ≡ days_of_months year n + days_in_month year (suc n)
unfolding days_of_months
days_up year n = refl

years_up : (n : ℕ) → days_of_years (suc n) ≡ days_of_years n + days_in_year (1970 + n)
unfolding days_of_years
years_up n = refl

-- a month begins after the last day of the month before it
next_month : (year month : ℕ) → 1 < month → day_number year month 1 ≡ day_number year (month - 1) (days_in_month year (month - 1)) + 1
unfolding day_number
next_month year month h =
    let n = month - 1 - 1 in
    let is : suc n ≡ month - 1 = omega (arith, h) in
    let up = days_up year n in
    let same : days_of_months year (suc n) ≡ days_of_months year (month - 1) = ap (days_of_months year) is in
    let days : days_in_month year (suc n) ≡ days_in_month year (month - 1) = ap (days_in_month year) is in
    let some = some_days year (month - 1) in
    omega (arith, up, same, days, some)

-- a year begins after the last day of the year before it
next_year : (year : ℕ) → 1970 < year → day_number year 1 1 ≡ day_number (year - 1) 12 (days_in_month (year - 1) 12) + 1
unfolding day_number days_of_months
next_year year h =
    let n = year - 1 - 1970 in
    let is : suc n ≡ year - 1970 = omega (arith, h) in
    let back : 1970 + n ≡ year - 1 = omega (arith, h) in
    let up = years_up n in
    let same : days_of_years (suc n) ≡ days_of_years (year - 1970) = ap days_of_years is in
    let days : days_in_year (1970 + n) ≡ days_in_year (year - 1) = ap days_in_year back in
    let whole = whole_year (year - 1) in
    omega (arith, up, same, days, whole)

abbrev Bounds : ℕ × ℕ → Moment → Moment → Type 0
Bounds days start end = (seconds_of start ≡ days.0 * 86_400) × (seconds_of end ≡ (days.1 + 1) * 86_400)

bounds_of : (days : ℕ × ℕ) (y m year month : ℕ) → days ≡ month_days y m
    → day_number year month 1 ≡ day_number y m (days_in_month y m) + 1 → Bounds days (month_start y m) (month_start year month)
bounds_of days y m year month is next = (
  start_is y m ∙ ap (λ (it : ℕ × ℕ). it.0 * 86_400) (sym is),
  start_is year month ∙ ap (λ (n : ℕ). n * 86_400) (next ∙ ap (λ (it : ℕ × ℕ). it.1 + 1) (sym is)),
)

pub bounds_within : (at : Moment) (days : ℕ × ℕ) → 1 < at.month → month_before at ≡ Some days
    → Bounds days (month_start at.year (at.month - 1)) (month_start at.year at.month)
bounds_within at days h is =
    let test : nat_lt 1 at.month ≡ true = grind (arith, nat_tests) in
    let found : Some (month_days at.year (at.month - 1)) ≡ Some days = rw test at is in
    let same : days ≡ month_days at.year (at.month - 1) = cc in
    bounds_of days at.year (at.month - 1) at.year at.month same (next_month at.year at.month h)

pub bounds_before : (at : Moment) (days : ℕ × ℕ) → at.month ≡ 1 → 1970 < at.year
    → month_before at ≡ Some days → Bounds days (month_start (at.year - 1) 12) (month_start at.year at.month)
bounds_before at days first h is =
    let test : nat_lt 1 at.month ≡ false = grind (arith, nat_tests) in
    let also : nat_lt 1970 at.year ≡ true = grind (arith, nat_tests) in
    let found : Some (month_days (at.year - 1) 12) ≡ Some days = rw (test, also) at is in
    let same : days ≡ month_days (at.year - 1) 12 = cc in
    bounds_of days (at.year - 1) 12 at.year at.month same (ap (λ (m : ℕ). day_number at.year m 1) first ∙ next_year at.year h)

-- ---- payments between them

from_day : (d day r : ℕ) → r < 86_400 → nat_le (d * 86_400) (day * 86_400 + r) ≡ int_le (pos d) (pos day)
from_day d day r h = grind (arith, ints, nat_tests)

to_day : (d day r : ℕ) → r < 86_400 → nat_lt (day * 86_400 + r) ((d + 1) * 86_400) ≡ int_le (pos day) (pos d)
to_day d day r h = grind (arith, ints, nat_tests)

module _ (month : ℤ × ℤ) (days : ℕ × ℕ) (start end : Moment) (are : month ≡ seen_days days) (bounds : Bounds days start end) where
  abbrev by_time : Payment → Bool
  by_time it = is_by start it.paid && is_earlier it.paid end

  in_days : (it : Payment) → IsPayment it → by_time it ≡ is_paid_in month it
  unfolding seconds_of
  in_days it is =
      let time = it.paid.hour * 3600 + (it.paid.minute * 60 + it.paid.second) in
      let few : time < 86_400 = omega (arith, is.paid.hour, is.paid.minute, is.paid.second) in
      let low = ap (λ (n : ℕ). nat_le n (day_of it.paid * 86_400 + time)) bounds.0 ∙ from_day days.0 (day_of it.paid) time few in
      let high = ap (λ (n : ℕ). nat_lt (day_of it.paid * 86_400 + time) n) bounds.1 ∙ to_day days.1 (day_of it.paid) time few in
      (λ i. low i && high i) ∙ ap (λ (m : ℤ × ℤ). is_paid_in m it) (sym are)

  same_days : (own : List (Row Payment)) → AllByRecursion (IsRow IsPayment) own
      → filter by_time (map (λ (row : Row Payment). row.it) own) ≡ filter (is_paid_in month) (map (λ (row : Row Payment). row.it) own)
  same_days [] all = refl
  same_days (row ∷ own) all =
      let rest = same_days own all.1 in
      let first = in_days row.it all.0.2 in
      λ i. cond (first i) (row.it ∷ rest i) (rest i)

-- what is read between those seconds are the payments of the month
pub of_the_month : (b : ℕ) (month : ℤ × ℤ) (days : Option (ℕ × ℕ)) (start end : Moment) → Some month ≡ option_map seen_days days
    → ((it : ℕ × ℕ) → days ≡ Some it → (seconds_of start ≡ it.0 * 86_400) × (seconds_of end ≡ (it.1 + 1) * 86_400)) → (books : Books) → IsHeld books
    → filter (λ (it : Payment). is_by start it.paid && is_earlier it.paid end) (of b books.payments) ≡ filter (is_paid_in month) (of b books.payments)
of_the_month b month None start end are bounds books held = cc
of_the_month b month (Some days) start end are bounds books held =
    let same : month ≡ seen_days days = cc in
    same_days month days start end same (bounds days refl) (filter (is_of b) books.payments)
    (all-filter (IsRow IsPayment) (is_of b) books.payments (held.values.rows Payments))

pub no_month : (days : Option (ℕ × ℕ)) (shop : Shop) (purchases cents : ℕ) → None ≡ option_map seen_days days → [] ≡ rewarded_in days shop purchases cents
no_month None shop purchases cents none = refl
no_month (Some days) shop purchases cents none = cc
