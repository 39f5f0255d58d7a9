-- The parts of a till's zone.
use Rattle.std.specs.Prelude.{ℕ, ℤ, pos, negsuc, ◌≤ℤ◌, ◌&&◌, Bool, List, length, nat_le}
use Rattle.std.specs.List.{list_all}

-- a byte of a zone's name: ASCII, printed, no blank
abbrev pub is_zone_byte : ℕ → Bool
is_zone_byte b = nat_le 33 b && nat_le b 126

-- a name has 1 to 60 such bytes
abbrev pub is_zone_name : List ℕ → Bool
is_zone_name bytes = nat_le 1 (length bytes) && nat_le (length bytes) 60 && list_all is_zone_byte bytes

-- less than a day either way
abbrev pub IsZoneOffset : ℤ → Type 0
IsZoneOffset seconds = (negsuc 86_398 ≤ℤ seconds) × (seconds ≤ℤ pos 86_399)
