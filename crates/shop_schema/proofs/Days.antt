-- Days are numbered in the order of year, month and day.
use Rattle.shop_schema.proofs.Common.{◌≡◌, inl, inr, refl, ap, arith, ℕ, zero, suc, ◌+◌, ◌<◌, ◌≤◌, cases_Bool, Moment, IsMoment, is_leap_year, days_in_year}
use Rattle.shop_schema.proofs.Common.{days_in_month, same_if, differ_if}
use Rattle.std.specs.Prelude.{◌-◌, ◌==◌}
use Rattle.shop_model.specs.Calendar.{days_of_years, days_of_months, day_number, day_of}

-- an earlier year is over where a later one begins
years_up : (m n : ℕ) → m < n → days_of_years m + days_in_year (1970 + m) ≤ days_of_years n
unfolding days_of_years
years_up m zero h = absurd (omega (arith, h))
years_up m (suc n) h = elim (cases_Bool (m == n)) [
  | inl same ↦
      let is : m ≡ n = same_if m n same in
      let last : days_of_years m + days_in_year (1970 + m) ≡ days_of_years n + days_in_year (1970 + n) =
      ap (λ (k : ℕ). days_of_years k + days_in_year (1970 + k)) is in
      omega (arith, last)
  | inr other ↦
      let isnt = differ_if m n other in
      let up = years_up m n (omega (arith, h, isnt)) in
      omega (arith, up)
]

-- an earlier month of a year is over where a later one begins
months_up : (year m n : ℕ) → m < n → days_of_months year m + days_in_month year (suc m) ≤ days_of_months year n
unfolding days_of_months
months_up year m zero h = absurd (omega (arith, h))
months_up year m (suc n) h = elim (cases_Bool (m == n)) [
  | inl same ↦
      let is : m ≡ n = same_if m n same in
      let last : days_of_months year m + days_in_month year (suc m) ≡ days_of_months year n + days_in_month year (suc n) =
      ap (λ (k : ℕ). days_of_months year k + days_in_month year (suc k)) is in
      omega (arith, last)
  | inr other ↦
      let isnt = differ_if m n other in
      let up = months_up year m n (omega (arith, h, isnt)) in
      omega (arith, up)
]

-- a year is its twelve months
pub whole_year : (year : ℕ) → days_of_months year 12 ≡ days_in_year year
unfolding days_of_months
whole_year year = elim (cases_Bool (is_leap_year year)) [
  | inl leap ↦ rw leap refl
  | inr common ↦ rw common refl
]

-- a month's first day, and the days up to it
from_first : (year month : ℕ) → 1 ≤ month → days_in_month year (suc (month - 1)) ≡ days_in_month year month
from_first year month low =
    let same : suc (month - 1) ≡ month = omega (arith, low) in
    ap (days_in_month year) same

in_year : (m : Moment) → IsMoment m → days_of_months m.year (m.month - 1) + (m.day - 1) < days_in_year m.year
in_year m is =
    let up = months_up m.year (m.month - 1) 12 (omega (arith, is.month_low, is.month_high)) in
    let same = from_first m.year m.month is.month_low in
    let year = whole_year m.year in
    omega (arith, up, same, year, is.day_low, is.day_high)

pub later_year : (a b : Moment) → IsMoment a → IsMoment b → a.year < b.year → day_of a < day_of b
unfolding day_of day_number
later_year a b is its h =
    let up = years_up (a.year - 1970) (b.year - 1970) (omega (arith, h, is.year_low)) in
    let same : 1970 + (a.year - 1970) ≡ a.year = omega (arith, is.year_low) in
    let year = ap days_in_year same in
    let within = in_year a is in
    omega (arith, up, year, within)

pub later_month : (a b : Moment) → IsMoment a → IsMoment b → a.year ≡ b.year → a.month < b.month → day_of a < day_of b
unfolding day_of day_number
later_month a b is its year h =
    let up = months_up a.year (a.month - 1) (b.month - 1) (omega (arith, h, is.month_low)) in
    let same = from_first a.year a.month is.month_low in
    let years : days_of_years (a.year - 1970) ≡ days_of_years (b.year - 1970) = ap (λ (y : ℕ). days_of_years (y - 1970)) year in
    let months : days_of_months a.year (b.month - 1) ≡ days_of_months b.year (b.month - 1) = ap (λ (y : ℕ). days_of_months y (b.month - 1)) year in
    omega (arith, up, same, years, months, is.day_low, is.day_high)

pub same_days : (a b : Moment) → a.year ≡ b.year → a.month ≡ b.month → day_of a + (b.day - 1) ≡ day_of b + (a.day - 1)
unfolding day_of day_number
same_days a b year month =
    let years : days_of_years (a.year - 1970) ≡ days_of_years (b.year - 1970) = ap (λ (y : ℕ). days_of_years (y - 1970)) year in
    let months : days_of_months a.year (a.month - 1) ≡ days_of_months b.year (b.month - 1) = λ i. days_of_months (year i) (month i - 1) in
    omega (arith, years, months)
