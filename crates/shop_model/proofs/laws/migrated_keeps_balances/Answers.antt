use Rattle.shop_model.proofs.Migration.{keeps_balances}
use Rattle.shop_model.proofs.laws.migrated_keeps_balances.Goals as goal

pub returns : goal.returns
returns c = keeps_balances
