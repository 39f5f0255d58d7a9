-- Defines what is found of the rows that a command of head office names.
use Rattle.std.specs.Prelude.{◌≡◌, map, filter, Option, option_map}
use Rattle.std.specs.Str.{bytes_eq}
use Rattle.sqlite.specs.State.{State}
use Rattle.shop_model.specs.Values.{OfficeAct, OfficeCommand}
use Rattle.shop_model.specs.Shop.{OfficeKept}
use Rattle.shop_model.specs.Books.{Books, head}
use Rattle.shop_types.specs.declared.found.KeptFound.{KeptFound}
use Rattle.shop_types.specs.Verdicts.{seen_kept}
use Rattle.shop_schema.specs.Shop.{Reads}
use Rattle.catalogue_core.specs.declared.shared.Shared.{Shared}
use Rattle.catalogue_core.specs.declared.shared.SharedRows.{SharedRows}
use Rattle.catalogue_core.specs.Shares.{ActShares, kept_for}
use Rattle.catalogue_rows.specs.declared.finding.SharedFound.{SharedFound}

-- what was found of the key is what head office has under the key
abbrev pub IsKeptFor : OfficeCommand → Option KeptFound → Books → Type 0
IsKeptFor command kept books =
    option_map seen_kept kept ≡ head (map (kept_for command) (filter (λ (k : OfficeKept). bytes_eq k.command.key command.key) books.catalogue.kept))

-- what was found of the key and of the rows, in one value
abbrev pub shared_of : Option KeptFound → SharedFound → Shared
shared_of kept found = record { kept = kept; keys = found.keys; office_token = found.office_token; rows = found.rows }

-- what was found is what the catalogue has of the rows that the act names, and the books stay
abbrev pub FindsFor : OfficeAct → SharedRows → State → State → Type 0
FindsFor act rows old new = Reads old new (λ books. ActShares books.catalogue act rows)
