use Rattle.shop_ledger.proofs.Doing.{does_so}
use Rattle.shop_ledger.proofs.CountPuts.{tallies_put_count}
use Rattle.shop_ledger.proofs.counts.put_count.Goals as goal

pub returns : goal.returns
returns g c =
    does_so c.execute.ensures.inside (rw (c.to_sql.ensures, c.to_sql-2.ensures, c.to_sql-3.ensures) at c.execute.ensures.ran)
    (λ _ ran. tallies_put_count _ _ (record { caller = c.args.caller; kind = c.args.kind; last = c.args.last }) ran.0 ran.1)
