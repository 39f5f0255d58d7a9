use Rattle.till_model.proofs.Numbered.{numbered_own}
use Rattle.till_model.proofs.laws.numbered_entries_are_own.Goals as goal

pub returns : goal.returns
returns c = numbered_own
