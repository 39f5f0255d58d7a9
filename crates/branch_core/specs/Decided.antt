-- What a decision on an act says.
use Rattle.std.specs.Prelude.{◌≡◌, ℕ, Option, Some}
use Rattle.shop_model.specs.Calendar.{Moment}
use Rattle.shop_model.specs.Values.{Act, Rules}
use Rattle.shop_model.specs.Shop.{Catalogue, Shop}
use Rattle.shop_model.specs.Verdict.{first}
use Rattle.shop_model.specs.Acts.{act_refusals}
use Rattle.shop_types.specs.declared.refusal.Refusal.{Refusal}
use Rattle.shop_types.specs.Verdicts.{verdict_by}
use Rattle.branch_core.specs.declared.found.RowsFound.{RowsFound}
use Rattle.branch_core.specs.Agreed.{ActAgrees}

-- The result is the branch's first refusal of the act, or there is none. This holds for any catalogue and shop that agree with what was found.
pub record IsRefusal (b : ℕ) (act : Act) (rows : RowsFound) (result : Option Refusal) : Type 0 where
  pub is : (rules : Rules) (catalogue : Catalogue) (shop : Shop) (moment : Moment) → ActAgrees rules catalogue shop moment act rows
      → verdict_by result ≡ Some (first (act_refusals rules b catalogue shop moment act))
