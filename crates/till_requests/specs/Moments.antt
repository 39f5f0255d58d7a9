-- Moments from their seconds since 1970-01-01T00:00:00.
use Rattle.std.specs.Prelude.{ℕ, ◌+◌, ◌/◌, ◌%◌, max, unsigned_abs, Option, Some, None}
use Rattle.shop_model.specs.Calendar.{Moment, seconds_of}
use Rattle.jiff_core.specs.declared.civil.date.Date.{Date}

-- the moment of that date and of that second of the day
abbrev pub civil_of : Date → ℕ → Moment
civil_of date second = record {
  year = unsigned_abs date.year;
  month = date.month;
  day = date.day;
  hour = second / 3600;
  minute = second / 60 % 60;
  second = second % 60;
}

-- 9999-12-31T23:59:59
abbrev pub last_second : ℕ
last_second = 253_402_300_799

-- the second of a new entry: `ahead` seconds after now, and at least a second after the last entry
abbrev pub next_second : Moment → Option Moment → ℕ → ℕ
next_second now None ahead = seconds_of now + ahead
next_second now (Some last) ahead = max (seconds_of now + ahead) (seconds_of last + 1)
