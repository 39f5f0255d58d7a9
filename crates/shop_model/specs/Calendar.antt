-- The calendar: the Gregorian one, carried on without a gap, from 1970 to 9999. A moment is a date and a time of day to the second, in no time zone.
use Rattle.std.specs.Prelude.{ℕ, zero, suc, ◌+◌, ◌-◌, ◌*◌, ◌/◌, ◌%◌, ◌≤◌, ◌==◌, ◌&&◌, ◌||◌, nat_lt, nat_le, Bool, not, if◌then◌else◌, List, [], ◌∷◌, Option}
use Rattle.std.specs.Prelude.{Some, None}

pub record Moment : Type 0 where
  pub year : ℕ
  pub month : ℕ
  pub day : ℕ
  pub hour : ℕ
  pub minute : ℕ
  pub second : ℕ

-- every fourth year, but of the centuries only every fourth
abbrev pub is_leap_year : ℕ → Bool
is_leap_year year = (year % 4 == 0) && (not (year % 100 == 0) || (year % 400 == 0))

abbrev pub days_in_year : ℕ → ℕ
days_in_year year = if is_leap_year year then 366 else 365

-- thirty days have September, April, June and November
abbrev pub days_in_month : ℕ → ℕ → ℕ
days_in_month year month =
    if month == 2 then (if is_leap_year year then 29 else 28)
    else (if (month == 4) || (month == 6) || (month == 9) || (month == 11) then 30 else 31)

-- the days of the first n years from 1970 on
unfoldable pub days_of_years : ℕ → ℕ
days_of_years zero = 0
days_of_years (suc n) = days_of_years n + days_in_year (1970 + n)

-- the days of the first n months of a year
unfoldable pub days_of_months : ℕ → ℕ → ℕ
days_of_months year zero = 0
days_of_months year (suc n) = days_of_months year n + days_in_month year (suc n)

-- the number of a day: 0 for 1970-01-01
unfoldable pub day_number : ℕ → ℕ → ℕ → ℕ
day_number year month day = days_of_years (year - 1970) + (days_of_months year (month - 1) + (day - 1))

unfoldable pub day_of : Moment → ℕ
day_of m = day_number m.year m.month m.day

-- the seconds since 1970-01-01T00:00:00: moments are in order by their day, and then by the second of the day
unfoldable pub seconds_of : Moment → ℕ
seconds_of m = day_of m * 86400 + (m.hour * 3600 + (m.minute * 60 + m.second))

-- the order of moments: by day, then by second (our own, since a moment is civil time)
-- the first is before the second
abbrev pub is_earlier : Moment → Moment → Bool
is_earlier a b = nat_lt (seconds_of a) (seconds_of b)

-- the first is not after the second
abbrev pub is_by : Moment → Moment → Bool
is_by a b = nat_le (seconds_of a) (seconds_of b)

abbrev pub same_moment : Moment → Moment → Bool
same_moment a b = a.year == b.year && a.month == b.month && a.day == b.day && a.hour == b.hour && a.minute == b.minute && a.second == b.second

-- a date that the calendar has, from 1970 to 9999 (the range is our own), and a time of day
pub record IsMoment (m : Moment) : Type 0 where
  pub year_low : 1970 ≤ m.year
  pub year_high : m.year ≤ 9999
  pub month_low : 1 ≤ m.month
  pub month_high : m.month ≤ 12
  pub day_low : 1 ≤ m.day
  pub day_high : m.day ≤ days_in_month m.year m.month
  pub hour : m.hour ≤ 23
  pub minute : m.minute ≤ 59
  pub second : m.second ≤ 59

-- the last decimal digit of a number, as a byte
abbrev pub digit : ℕ → ℕ
digit n = 48 + n % 10

-- the 19 bytes YYYY-MM-DDTHH:MM:SS, of ISO 8601, with no zone
abbrev pub moment_text : Moment → List ℕ
moment_text m = digit (m.year / 1000) ∷ digit (m.year / 100) ∷ digit (m.year / 10) ∷ digit m.year ∷ 45
    ∷ digit (m.month / 10) ∷ digit m.month ∷ 45 ∷ digit (m.day / 10) ∷ digit m.day ∷ 84
    ∷ digit (m.hour / 10) ∷ digit m.hour ∷ 58 ∷ digit (m.minute / 10) ∷ digit m.minute ∷ 58
    ∷ digit (m.second / 10) ∷ digit m.second ∷ []

-- the numbers of the first and the last day of a month
abbrev pub month_days : ℕ → ℕ → ℕ × ℕ
month_days year month = (day_number year month 1, day_number year month (days_in_month year month))

-- the first and the last day of the calendar month before the moment's; nothing in January 1970 (our own: the manual takes the month before today)
abbrev pub month_before : Moment → Option (ℕ × ℕ)
month_before m =
    if nat_lt 1 m.month then Some (month_days m.year (m.month - 1))
    else (if nat_lt 1970 m.year then Some (month_days (m.year - 1) 12) else None)
