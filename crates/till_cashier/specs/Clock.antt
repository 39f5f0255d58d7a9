-- The clock that dates entries.
use Rattle.std.specs.Prelude.{◌≡◌, ℕ, pos, ◌+ℤ◌, Option}
use Rattle.till_requests.specs.Zones.{offset_of}
use Rattle.till_requests.specs.declared.zones.Zone.{Zone}

-- The till's clock showed that many seconds: those that a clock of UTC showed, and the offset of the zone's standard time.
abbrev pub local_clock : (ℕ → Type 0) → Option Zone → ℕ → Type 0
local_clock shows zone n = (m : ℕ) × shows m × (pos n ≡ pos m +ℤ offset_of zone)
