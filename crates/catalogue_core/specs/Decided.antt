-- What a command of head office may be refused for.
use Rattle.std.specs.Prelude.{Bool, nat_le, List, ◌∷◌, length}
use Rattle.shop_model.specs.Values.{OfficeCommand, Rules}
use Rattle.shop_model.specs.Refusals.{Refusal, Full}
use Rattle.shop_model.specs.Shop.{Catalogue}
use Rattle.shop_model.specs.OfficeActs.{office_refusals}

-- under a new key
abbrev pub fresh_refusals : Rules → Catalogue → OfficeCommand → List (Refusal × Bool)
fresh_refusals rules catalogue command = (Full, nat_le rules.commands (length catalogue.kept)) ∷ office_refusals catalogue command.act
