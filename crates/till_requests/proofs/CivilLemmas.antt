-- A date of jiff's calendar from 1970 on, with a second of its day, is a moment, and has those seconds.
use Rattle.shop_types.proofs.Common.{◌≡◌, ◌∙◌, refl, sym, ap, subst, arith, ℕ, ℤ, pos, negsuc, ◌+◌, ◌*◌, ◌<◌, ◌≤◌, ◌≤ℤ◌, unsigned_abs, List, Option, Some}
use Rattle.shop_types.proofs.Common.{by_lt_z, Moment, IsMoment, moment_text, days_in_month, days_from_civil-day_of, IsTextOf}
use Rattle.jiff_core.specs.Calendar.{days_from_civil, day_count, days_in_month as jiff_days, IsCivilDate}
use Rattle.jiff_core.specs.Date.{epoch_day}
use Rattle.jiff_core.specs.declared.civil.date.Date.{Date}
use Rattle.jiff_core.proofs.SignedLemmas.{signed_arith}
use Rattle.jiff_core.proofs.CalendarLemmas.{day_count-epoch, day_count-lt_year, days_from_civil-day_count}
use Rattle.shop_model.specs.Calendar.{day_of, seconds_of}
use Rattle.counter_routes.proofs.MomentLemmas.{read_is}
use Rattle.till_requests.specs.Moments.{civil_of}
use borrow.Author.Differences.{up, down}

-- a day with a number from 0 on is in a year from 1970 on
late : (y : ℤ) (m d n : ℕ) → IsCivilDate y m d → days_from_civil y m d ≡ pos n → pos 1970 ≤ℤ y
late y m d n civil is =
    by_lt_z y (pos 1970)
    (λ lt. absurd (
    let count = days_from_civil-day_count y m d in
    let here : n + 4371953 ≡ day_count y m d = omega (arith, count, ap up is, ap down is) in
    omega (arith, here, day_count-epoch, day_count-lt_year y m d (pos 1970) 1 1 civil (omega arith) lt)))
    (λ le. le)

year_of : (y : ℤ) → pos 1970 ≤ℤ y → pos (unsigned_abs y) ≡ y
year_of (pos k) low = refl
year_of (negsuc k) low = absurd (omega (arith, low, signed_arith))

pub civil_is : (date : Date) (n second : ℕ) → IsCivilDate date.year date.month date.day → epoch_day date ≡ pos n → second < 86400
    → IsMoment (civil_of date second) × (seconds_of (civil_of date second) ≡ n * 86400 + second)
unfolding seconds_of
civil_is date n second civil is short =
    let low : pos 1970 ≤ℤ date.year = late date.year date.month date.day n civil is in
    let year : pos (unsigned_abs date.year) ≡ date.year = year_of date.year low in
    let long : date.day ≤ days_in_month (unsigned_abs date.year) date.month = subst (λ (y : ℤ). date.day ≤ jiff_days y date.month) (sym year) civil.2.1 in
    let moment : IsMoment (civil_of date second) = record {
      year_low = omega (arith, signed_arith);
      year_high = omega (arith, signed_arith, civil.0.1);
      month_low = civil.1.0;
      month_high = civil.1.1;
      day_low = civil.2.0;
      day_high = long;
      hour = omega arith;
      minute = omega arith;
      second = omega arith;
    } in
    let days : pos (day_of (civil_of date second)) ≡ pos n =
    sym (days_from_civil-day_of (civil_of date second) moment) ∙ ap (λ (y : ℤ). days_from_civil y date.month date.day) year ∙ is in
    let same : day_of (civil_of date second) ≡ n = ap unsigned_abs days in
    (moment, omega (arith, same))

some_same : (a b : Moment) → ◌≡◌ {A = Option Moment} (Some a) (Some b) → a ≡ b
some_same a b e = cc

-- a moment that has that text has those seconds
pub read_seconds : (date : Date) (n second : ℕ) (text : List ℕ) (m : Moment)
    → IsCivilDate date.year date.month date.day → epoch_day date ≡ pos n → second < 86400
    → moment_text (civil_of date second) ≡ text → IsTextOf text m → seconds_of m ≡ n * 86400 + second
read_seconds date n second text m civil is short written read =
    let there = civil_is date n second civil is short in
    let same : m ≡ civil_of date second =
    some_same m (civil_of date second) (read_is (Some m) text read tt ∙ sym (read_is (Some (civil_of date second)) text (there.0, written) tt)) in
    ap seconds_of same ∙ there.1
