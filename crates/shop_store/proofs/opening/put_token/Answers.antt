use Rattle.sql_rows.proofs.Chaining.{one_call}
use Rattle.shop_ledger.proofs.Doing.{first_and_last}
use Rattle.shop_store.proofs.FirstCounts.{first_agreed}
use Rattle.shop_store.proofs.opening.put_token.Goals as goal

pub returns : goal.returns
returns g c = first_and_last c.in_ok-put_rule.ensures (one_call c.in_ok-put_chain.ensures) c.put_count.ensures
    (λ ruled held _ counted shop keyed empty. first_agreed _ c.args.token.now (counted _ _ (held (ruled shop keyed empty)) tt).0)
