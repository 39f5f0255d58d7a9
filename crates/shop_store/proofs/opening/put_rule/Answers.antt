use Rattle.shop_ledger.proofs.Doing.{does_so}
use Rattle.shop_store.proofs.PutTexts.{ruled_first}
use Rattle.shop_store.proofs.opening.put_rule.Goals as goal

pub returns : goal.returns
returns g c = does_so c.execute.ensures.inside c.execute.ensures.ran (λ _ ran. ruled_first _ _ ran.0 ran.1)
