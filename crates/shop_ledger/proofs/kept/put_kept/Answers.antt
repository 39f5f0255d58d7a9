use Rattle.shop_ledger.proofs.Doing.{does_so}
use Rattle.shop_ledger.proofs.KeptTexts.{puts_owned}
use Rattle.shop_ledger.proofs.kept.put_kept.Goals as goal

pub returns : goal.returns
returns g c =
    does_so c.execute.ensures.inside
    (rw (c.to_sql.ensures, c.number.ensures.value, c.to_sql-2.ensures, c.as_str.ensures.value, c.to_sql-3.ensures, c.as_slice.ensures, c.to_sql-4.ensures)
    at c.execute.ensures.ran)
    (λ _ ran. puts_owned c.args.owner _ _ c.args.key.now c.args.form.now c.args.reply.now ran.0 ran.1)
