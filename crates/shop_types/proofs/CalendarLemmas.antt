-- Our calendar and jiff's calendar give each day the same number.
use Rattle.shop_model.proofs.Common.{◌≡◌, ◌∙◌, refl, sym, ap, arith, ℕ, zero, suc, ℤ, pos, ◌+◌, ◌-◌, ◌≤◌, negsuc, Moment, IsMoment, days_in_month}
use Rattle.jiff_core.proofs.SignedLemmas.{signed_arith}
use Rattle.jiff_core.proofs.CalendarLemmas.{day_count-epoch, day_count-next_year, day_count-day_of_year, days_from_civil-day_count}
use borrow.Author.Differences.{up, down}
use Rattle.jiff_core.specs.Calendar.{day_count, days_from_civil}
use Rattle.jiff_core.specs.Calendar.{days_of_months as jiff_days_of_months}
use Rattle.shop_model.specs.Calendar.{day_number, day_of, days_of_months, days_of_years}

-- the first day of a year
first_days : (n : ℕ) → day_count (pos (1970 + n)) 1 1 ≡ 4371953 + days_of_years n
unfolding days_of_years
first_days zero = day_count-epoch
first_days (suc n) =
    let next = day_count-next_year (pos (1970 + n)) (pos (1970 + suc n)) (omega (arith, signed_arith)) (omega (arith, signed_arith)) in
    omega (arith, next, first_days n)

months_agree : (year n : ℕ) → jiff_days_of_months (pos year) n ≡ days_of_months year n
unfolding days_of_months jiff_days_of_months
months_agree year zero = refl
months_agree year (suc n) = ap (λ days. days + days_in_month year (suc n)) (months_agree year n)

pub day_number_is : (year month day : ℕ) → 1970 ≤ year → 1 ≤ day → day_number year month day + 4371953 ≡ day_count (pos year) month day
unfolding day_number
day_number_is year month day low first =
    let years = year - 1970 in
    let is : 1970 + years ≡ year = omega arith in
    let start : day_count (pos year) 1 1 ≡ 4371953 + days_of_years years = ap (λ y. day_count (pos y) 1 1) (sym is) ∙ first_days years in
    let months = months_agree year (month - 1) in
    let rest = day_count-day_of_year (pos year) month day first in
    omega (arith, start, months, rest)

number_of_count : (z : ℤ) (n count : ℕ) → up z + 4371953 ≡ down z + count → n + 4371953 ≡ count → z ≡ pos n
number_of_count (pos x) n count e f = let same : x ≡ n = omega arith in ap (λ k. pos k) same
number_of_count (negsuc x) n count e f = absurd (omega arith)

-- jiff's day number of a moment is ours
pub days_from_civil-day_of : (m : Moment) → IsMoment m → days_from_civil (pos m.year) m.month m.day ≡ pos (day_of m)
unfolding day_of
days_from_civil-day_of m h =
    number_of_count _ (day_number m.year m.month m.day) _ (days_from_civil-day_count (pos m.year) m.month m.day)
    (day_number_is m.year m.month m.day h.year_low h.day_low)
