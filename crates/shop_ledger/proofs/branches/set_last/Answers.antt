use Rattle.shop_ledger.proofs.BranchTexts.{sets_last}
use Rattle.shop_ledger.proofs.Doing.{does_so}
use Rattle.shop_ledger.proofs.branches.set_last.Goals as goal

pub returns : goal.returns
returns g c =
    does_so c.execute.ensures.inside
    (rw (c.to_sql.ensures, c.get.ensures.value, c.to_sql-2.ensures, c.as_str.ensures, c.of-last.ensures) at c.execute.ensures.ran)
    (λ _ ran. sets_last _ _ c.args.branch c.args.moment ran.0 ran.1)
