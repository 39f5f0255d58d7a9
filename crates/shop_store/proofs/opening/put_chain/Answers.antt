use Rattle.shop_ledger.proofs.Doing.{does_so}
use Rattle.shop_store.proofs.PutTexts.{holds_first}
use Rattle.shop_store.proofs.opening.put_chain.Goals as goal

pub returns : goal.returns
returns g c = does_so c.execute.ensures.inside c.execute.ensures.ran (λ _ ran. holds_first _ _ c.args.token.now ran.0 (rw c.as_bytes.ensures.value at ran.1))
