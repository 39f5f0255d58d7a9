-- What is said of a zone that was set.
use Rattle.std.specs.Prelude.{◌≡◌, ◌++◌, Option, None, Some, codes}
use Rattle.shop_model.specs.Values.{Text}
use Rattle.till_requests.specs.declared.zones.Zone.{Zone}
use Rattle.till_cashier.specs.Saying.{ended}

-- the name of the settings' zone
abbrev pub zone_name : Option Zone → Text
zone_name None = codes "UTC"
zone_name (Some zone) = zone.name

-- the zone of that name, and some standard time
abbrev pub IsZoneText : Text → Text → Type 0
IsZoneText name text =
    (time : Text) × (text ≡ ended (codes "the till's zone is " ++ (name ++ (codes ": entries have its standard time, UTC" ++ time))))
