use Rattle.shop_ledger.proofs.Doing.{does_so}
use Rattle.consign_store.proofs.Texts.{puts_line}
use Rattle.consign_store.proofs.lines.put_line.Goals as goal

pub returns : goal.returns
returns g c = does_so c.execute.ensures.inside c.execute.ensures.ran (λ _ ran. puts_line _ _ _ ran.0 (rw c.values.ensures at ran.1))
