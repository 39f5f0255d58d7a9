-- Today's date, said by a person before a book's first entry and before one that is long after the last.
use Rattle.std.specs.Prelude.{◌≡◌, ◌==◌, ◌≤◌, ◌+◌, ◌/◌, ◌%◌, ◌++◌, ◌⊎◌, codes, ℕ, ℤ, pos, Bool, true, false, if◌then◌else◌, List, Option, None, Some}
use Rattle.std.specs.Prelude.{option_map}
use Rattle.sqlite.specs.State.{State}
use Rattle.jiff_core.specs.Timestamp.{IsTimestampNanos}
use Rattle.jiff_tz.specs.declared.timezone.TimeZone.{TimeZone}
use Rattle.jiff_tz.specs.Zone.{offset_at}
use Rattle.shop_model.specs.Calendar.{Moment, day_of, seconds_of}
use Rattle.shop_model.specs.Values.{Text, Command}
use Rattle.till_book.specs.Held.{last_or}
use Rattle.till_book.specs.Journal.{Journal}
use Rattle.till_book.specs.Saying.{Say}
use Rattle.till_book.specs.Steps.{Rests}
use Rattle.till_words.specs.declared.words.TillAct.{TillAct}
use Rattle.till_words.specs.declared.words.TillAct.TheVariants as act
use Rattle.till_shows.specs.Times.{day_text}
use Rattle.till_cashier.specs.Saying.{ended}
use Rattle.till_cashier.specs.Wall.{instant_of, wall_second, IsShown}

-- the word enters commands of a branch
abbrev pub enters_acts : TillAct → Bool
enters_acts (act.Do what) = true
enters_acts (act.ReturnCopy copy) = true
enters_acts (act.Again late) = true
enters_acts (act.Office words) = false
enters_acts act.Send = false
enters_acts (act.Init beginning) = false
enters_acts (act.Import file lot) = false
enters_acts (act.JoinIn who) = false
enters_acts (act.Look look) = false
enters_acts act.Waiting = false
enters_acts (act.Last count) = false
enters_acts act.Help = false
enters_acts (act.Zone name) = false
enters_acts (act.Day asked) = false
enters_acts (act.Today date) = false
enters_acts act.Slip = false
enters_acts act.Prompt = false

-- The clock on the wall, in that zone, shows that moment when a clock so many seconds ahead of UTC shows `now`. Of an instant or a moment that the calendar
-- lacks nothing is said.
abbrev pub IsOnWall : TimeZone → ℤ → Moment → Moment → Type 0
IsOnWall zone offset now shown =
    (offset_at zone (instant_of offset (seconds_of now)) ≡ offset → shown ≡ now)
    × (IsTimestampNanos (instant_of offset (seconds_of now)) → IsShown (wall_second zone offset (seconds_of now))
    → pos (seconds_of shown) ≡ wall_second zone offset (seconds_of now))

-- the clock on the wall showed that moment when the till's clock showed one
abbrev pub IsShownOnWall : (ℕ → Type 0) → TimeZone → ℤ → Moment → Type 0
IsShownOnWall shows zone offset shown = (now : Moment) × shows (seconds_of now) × IsOnWall zone offset now shown

-- it is the day of a moment that the clock on the wall showed
abbrev pub IsDayOnWall : (ℕ → Type 0) → TimeZone → ℤ → ℤ → Type 0
IsDayOnWall shows zone offset day = (shown : Moment) × IsShownOnWall shows zone offset shown × (day ≡ pos (day_of shown))

-- the last entry's moment of so many entries
abbrev pub last_moment : ℕ → Option Moment → Option Moment
last_moment entries last = if entries == 0 then None else last

-- there is a last entry, and its moment is at most 36 hours before
abbrev pub IsNear : Option Moment → Moment → Type 0
IsNear None now = ⊥
IsNear (Some last) now = seconds_of now ≤ seconds_of last + 129_600

-- The clock showed a moment. Then the last entry was at most 36 hours ago, or the date of the clock on the wall had been said.
abbrev pub HasDate : (ℕ → Type 0) → TimeZone → ℤ → Option ℤ → Option Moment → Type 0
HasDate shows zone offset said last =
    (now shown : Moment) × shows (seconds_of now) × IsOnWall zone offset now shown × (IsNear last now ⊎ (said ≡ Some (pos (day_of shown))))

-- so of the book's last entry; of a book that says no commands, as head office's, nothing is said
abbrev pub IsDatedBook : (ℕ → Type 0) → TimeZone → ℤ → Option ℤ → State → Type 0
IsDatedBook shows zone offset said s =
    (journal : Journal) (commands : List Command) → Rests s journal → Say journal.entries commands
    → HasDate shows zone offset said (option_map (λ (it : Command). it.moment) (last_or None commands))

-- ---- what is printed of a date

-- the day of the week; the first of January 1970 was a Thursday
abbrev pub weekday_text : Moment → Text
weekday_text at =
    let day = seconds_of at / 86_400 % 7 in
    if day == 0 then codes "Thursday"
    else (if day == 1 then codes "Friday"
    else (if day == 2 then codes "Saturday"
    else (if day == 3 then codes "Sunday"
    else (if day == 4 then codes "Monday"
    else (if day == 5 then codes "Tuesday" else codes "Wednesday")))))

abbrev pub today_text : Moment → Text
today_text at = codes "Today is " ++ (weekday_text at ++ (codes " " ++ (day_text at ++ codes ".")))

-- the text says the date of a moment that the clock on the wall showed
abbrev pub SaysToday : (ℕ → Type 0) → TimeZone → ℤ → Text → Type 0
SaysToday shows zone offset text = (shown : Moment) × IsShownOnWall shows zone offset shown × (text ≡ ended (today_text shown))
