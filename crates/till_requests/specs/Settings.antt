-- The text of a till's settings: four lines, and a fifth one if there is a zone (our own form).
use Rattle.std.specs.Prelude.{ℕ, List, [], ◌∷◌, ◌++◌, codes, decimal, Option, Some, None}
use Rattle.till_requests.specs.declared.settings.Settings.{Settings}
use Rattle.till_requests.specs.Zones.{zone_line}

abbrev pub line_end : List ℕ
line_end = 10 ∷ []

-- the line of the member of staff, or of head office
abbrev pub staff_line : Option ℕ → List ℕ
staff_line (Some staff) = codes "staff " ++ decimal staff
staff_line None = codes "office"

abbrev pub settings_lines : Settings → List ℕ
settings_lines settings =
    codes "address " ++ settings.address ++ line_end ++ codes "token " ++ settings.token ++ line_end
    ++ staff_line settings.staff ++ line_end ++ codes "mark " ++ settings.mark ++ line_end
    ++ zone_line settings.zone
