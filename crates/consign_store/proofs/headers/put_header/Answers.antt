use Rattle.shop_ledger.proofs.Doing.{does_so}
use Rattle.consign_store.proofs.Texts.{puts_header}
use Rattle.consign_store.proofs.headers.put_header.Goals as goal

pub returns : goal.returns
returns g c = does_so c.execute.ensures.inside c.execute.ensures.ran (λ _ ran. puts_header _ _ _ ran.0 (rw c.values.ensures at ran.1))
