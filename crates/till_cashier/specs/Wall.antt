-- The clock on the wall.
use Rattle.std.specs.Prelude.{ℕ, ℤ, pos, ◌+ℤ◌, ◌-ℤ◌, ◌≤ℤ◌}
use Rattle.till_requests.specs.Moments.{last_second}
use Rattle.jiff_core.specs.Timestamp.{nanos_of_seconds}
use Rattle.jiff_tz.specs.declared.timezone.TimeZone.{TimeZone}
use Rattle.jiff_tz.specs.Zone.{offset_at}

-- the instant at which a clock so many seconds ahead of UTC shows that second, in nanoseconds
abbrev pub instant_of : ℤ → ℕ → ℤ
instant_of offset second = nanos_of_seconds (pos second -ℤ offset)

-- the second that a clock `then` seconds ahead of UTC shows when one `offset` seconds ahead shows that second
abbrev pub moved_second : ℕ → ℤ → ℤ → ℤ
moved_second second offset then = pos second +ℤ (then -ℤ offset)

-- the wall's second: the entry's, and how much further ahead of UTC the wall's clock was then than the till's
abbrev pub wall_second : TimeZone → ℤ → ℕ → ℤ
wall_second zone offset second = moved_second second offset (offset_at zone (instant_of offset second))

-- a second from 1970 to 9999
abbrev pub IsShown : ℤ → Type 0
IsShown second = (pos 0 ≤ℤ second) × (second ≤ℤ pos last_second)
