use Rattle.shop_schema.proofs.CellTexts.{no_features}
use Rattle.shop_schema.proofs.shop_cells.FeaturesCell.read_at.Goals as goal

pub returns-in-Err-clause-failed : goal.returns-in-Err-clause-failed
returns-in-Err-clause-failed c is it fits low = no_features _ (λ t utf8. c.in-Err.ensures.failed is t utf8 low) it
