use Rattle.shop_ledger.proofs.Doing.{does_so}
use Rattle.consign_store.proofs.Texts.{sets_received}
use Rattle.consign_store.proofs.headers.set_received.Goals as goal

pub returns : goal.returns
returns g c =
    does_so c.execute.ensures.inside
    (rw (c.to_sql.ensures, c.get.ensures.value, c.to_sql-2.ensures, c.get-2.ensures.value, c.to_sql-3.ensures, c.get-3.ensures.value) at c.execute.ensures.ran)
    (λ _ ran. sets_received _ _ c.args.key.now.source c.args.key.now.addressee c.args.key.now.number ran.0 ran.1)
