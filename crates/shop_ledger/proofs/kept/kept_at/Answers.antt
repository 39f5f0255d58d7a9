use Rattle.std.proofs.Common.{rules, refl}
use Rattle.shop_ledger.proofs.Doing.{does_first}
use Rattle.shop_ledger.proofs.KeptTexts.{read_owned}
use Rattle.shop_ledger.proofs.kept.kept_at.Goals as goal

pub returns : goal.returns
returns g c =
    does_first _ _ c.query_first.ensures.inside
    (rw (c.to_sql.ensures, c.number.ensures.value, c.to_sql-2.ensures, c.as_str.ensures.value) at c.query_first.ensures.shown)
    (λ rows these.
    let read = read_owned c.args.owner c.number.ensures.real _ _ c.args.key.now rows these rows refl in
    (read.0, λ row kept some says. read.1 row kept.form kept.reply some (search rules) (search rules)))
