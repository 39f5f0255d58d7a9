-- The moment that a text writes.
use Rattle.std.specs.Prelude.{ℕ, ◌&&◌, nat_le, Bool, List, slice_range, Option, Some, None, if◌then◌else◌}
use Rattle.std.specs.Str.{bytes_eq}
use Rattle.std.specs.Str.Parse.{digits_value}
use Rattle.shop_model.specs.Calendar.{Moment, days_in_month, moment_text}

-- the parts of a date and a time of day, where YYYY-MM-DDTHH:MM:SS has them
abbrev pub moment_parts : List ℕ → Moment
moment_parts text = record {
  year = digits_value 10 (slice_range text 0 4);
  month = digits_value 10 (slice_range text 5 7);
  day = digits_value 10 (slice_range text 8 10);
  hour = digits_value 10 (slice_range text 11 13);
  minute = digits_value 10 (slice_range text 14 16);
  second = digits_value 10 (slice_range text 17 19);
}

-- a date of the calendar, from 1970 to 9999, and a time of day
abbrev pub is_moment : Moment → Bool
is_moment m =
    nat_le 1970 m.year && nat_le m.year 9999 && nat_le 1 m.month && nat_le m.month 12
    && nat_le 1 m.day && nat_le m.day (days_in_month m.year m.month)
    && nat_le m.hour 23 && nat_le m.minute 59 && nat_le m.second 59

-- the moment whose text it is; each moment has one text
unfoldable pub moment_of : List ℕ → Option Moment
moment_of text =
    if is_moment (moment_parts text) && bytes_eq (moment_text (moment_parts text)) text
    then Some (moment_parts text) else None
