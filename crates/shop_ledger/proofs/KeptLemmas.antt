-- A kept row that is looked at.
use Rattle.shop_schema.proofs.Common.{◌≡◌, refl, ℕ, List, Option, Some, None, option_map, Bor, option_copied}
use Rattle.shop_ledger.specs.declared.kept.KeptRow.{KeptRow}
use Rattle.shop_ledger.specs.Seen.{seen_kept, by_form}

-- the row that is looked at and the row itself
pub copied_told : (form : List ℕ) (o : Option (Bor KeptRow))
    → option_map (λ (row : Bor KeptRow). by_form form (seen_kept row.now)) o ≡ option_map (by_form form) (option_map seen_kept (option_copied o))
copied_told form None = refl
copied_told form (Some row) = refl
