-- The standard time of a zone.
use Rattle.std.specs.Prelude.{ℕ, zero, suc, ℤ, pos, ◌+ℤ◌, int_le, Option, Some, None, if◌then◌else◌}
use Rattle.jiff_tz.specs.declared.info.OffsetInfo.{OffsetInfo}
use Rattle.jiff_tz.specs.declared.timezone.TimeZone.{TimeZone}
use Rattle.jiff_tz.specs.Zone.{offset_at, next_at}

-- the smaller one of two offsets
abbrev pub smaller : ℤ → ℤ → ℤ
smaller least offset = if int_le least offset then least else offset

-- the smallest offset up to an instant, from what comes next and what the further ones give
abbrev pub least_then : (ℤ → ℤ → ℤ) → ℤ → ℤ → Option (ℤ × OffsetInfo) → ℤ
least_then further end least None = least
least_then further end least (Some next) = if int_le next.0 end then further next.0 (smaller least next.1.offset.seconds) else least

-- the smallest of an offset and those after the next transitions of the zone, up to an instant, and up to so many
unfoldable pub least_offset : ℕ → TimeZone → ℤ → ℤ → ℤ → ℤ
least_offset zero zone end at least = least
least_offset (suc n) zone end at least = least_then (least_offset n zone end) end least (next_at zone at)

-- the offset at that instant, and each offset of the 366 days after it
abbrev pub standard_offset : TimeZone → ℤ → ℤ
standard_offset zone now = least_offset 400 zone (now +ℤ pos 31_622_400_000_000_000) now (offset_at zone now)
