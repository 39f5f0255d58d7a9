use Rattle.till_model.proofs.Returned.{took_back}
use Rattle.till_model.proofs.laws.returns_by_copy_took_back.Goals as goal

pub returns : goal.returns
returns c = took_back
