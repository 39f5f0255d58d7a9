use Rattle.shop_ledger.proofs.CountLemmas.{tallies_drop_out}
use Rattle.shop_ledger.proofs.Doing.{does_so}
use Rattle.shop_ledger.proofs.counts.drop_out.Goals as goal

pub returns : goal.returns
returns g c =
    does_so c.execute.ensures.inside
    (rw (c.to_sql.ensures, c.get.ensures.value, c.to_sql-2.ensures, c.get-2.ensures.value, c.to_sql-3.ensures, c.get-3.ensures.value) at c.execute.ensures.ran)
    (λ _ ran. tallies_drop_out _ _ c.args.branch c.args.copy c.args.rental ran.0 ran.1)
