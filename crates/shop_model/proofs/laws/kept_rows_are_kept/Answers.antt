use Rattle.shop_model.proofs.Resends.{kept_rows_kept}
use Rattle.shop_model.proofs.laws.kept_rows_are_kept.Goals as goal

pub returns : goal.returns
returns c = kept_rows_kept
