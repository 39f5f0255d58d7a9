use Rattle.shop_ledger.proofs.Doing.{does_so}
use Rattle.shop_store.proofs.PutTexts.{puts_branch}
use Rattle.shop_store.proofs.puts.put_branch.Goals as goal

pub returns : goal.returns
returns g c = does_so c.execute.ensures.inside c.execute.ensures.ran (λ _ ran. puts_branch _ _ _ _ ran.0 (rw c.values.ensures at ran.1))
