-- A till's zone: its name, and how far its standard time is ahead of UTC.
use Rattle.std.specs.Prelude.{ℕ, ℤ, pos, List, [], ◌∷◌, ◌++◌, codes, Option, Some, None}
use Rattle.std.specs.Fmt.{signed_decimal}
use Rattle.till_requests.specs.declared.zones.Zone.{Zone}

-- how far the clock that dates entries is ahead of UTC; without a zone it is UTC
abbrev pub offset_of : Option Zone → ℤ
offset_of None = pos 0
offset_of (Some zone) = zone.offset

-- the line of the zone, with its line end; there is none without a zone
abbrev pub zone_line : Option Zone → List ℕ
zone_line None = []
zone_line (Some zone) = codes "zone " ++ zone.name ++ codes " " ++ signed_decimal zone.offset ++ 10 ∷ []
