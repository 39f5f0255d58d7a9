-- Moments and spans of time in words.
use Rattle.std.specs.Prelude.{ℕ, ◌/◌, ◌%◌, ◌==◌, nat_lt, ◌++◌, [], codes, decimal, if◌then◌else◌}
use Rattle.shop_model.specs.Values.{Text}
use Rattle.shop_model.specs.Calendar.{Moment}

abbrev pub month_name : ℕ → Text
month_name month =
    if month == 1 then codes "January"
    else (if month == 2 then codes "February"
    else (if month == 3 then codes "March"
    else (if month == 4 then codes "April"
    else (if month == 5 then codes "May"
    else (if month == 6 then codes "June"
    else (if month == 7 then codes "July"
    else (if month == 8 then codes "August"
    else (if month == 9 then codes "September"
    else (if month == 10 then codes "October"
    else (if month == 11 then codes "November" else codes "December"))))))))))

abbrev pub day_text : Moment → Text
day_text m = decimal m.day ++ (codes " " ++ (month_name m.month ++ (codes " " ++ decimal m.year)))

-- the hour and the minute, with two digits each
abbrev pub clock_text : Moment → Text
clock_text m = decimal (m.hour / 10) ++ (decimal (m.hour % 10) ++ (codes ":" ++ (decimal (m.minute / 10) ++ decimal (m.minute % 10))))

abbrev pub moment_text : Moment → Text
moment_text m = day_text m ++ (codes ", " ++ clock_text m)

-- ---- spans

abbrev pub plural_text : ℕ → Text
plural_text n = if n == 1 then [] else codes "s"

abbrev pub counted_text : ℕ → Text → Text
counted_text n word = decimal n ++ (codes " " ++ (word ++ plural_text n))

-- the span in the largest unit that fits at least once
abbrev pub age_text : ℕ → Text
age_text seconds =
    if nat_lt seconds 60 then counted_text seconds (codes "second")
    else (if nat_lt seconds 3_600 then counted_text (seconds / 60) (codes "minute")
    else (if nat_lt seconds 86_400 then counted_text (seconds / 3_600) (codes "hour") else counted_text (seconds / 86_400) (codes "day")))
