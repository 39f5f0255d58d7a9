use Rattle.shop_ledger.proofs.CountTexts.{tallies_put_out}
use Rattle.shop_ledger.proofs.Doing.{does_so}
use Rattle.shop_ledger.proofs.counts.put_out.Goals as goal

pub returns : goal.returns
returns g c =
    does_so c.execute.ensures.inside
    (rw (c.to_sql.ensures, c.get.ensures.value, c.to_sql-2.ensures, c.get-2.ensures.value, c.to_sql-3.ensures, c.get-3.ensures.value) at c.execute.ensures.ran)
    (λ _ ran. tallies_put_out _ _ (record { branch = c.args.branch; copy = c.args.copy; rental = c.args.rental }) ran.0 ran.1)
