use Rattle.shop_ledger.proofs.Doing.{does_so}
use Rattle.consign_store.specs.Seen.{seen_header}
use Rattle.consign_store.proofs.Texts.{read_header}
use Rattle.consign_store.proofs.headers.header_at.Goals as goal

pub returns : goal.returns
returns g c =
    does_so c.query_one.ensures.inside
    (rw (c.to_sql.ensures, c.get.ensures.value, c.to_sql-2.ensures, c.get-2.ensures.value, c.to_sql-3.ensures, c.get-3.ensures.value)
    at c.query_one.ensures.shown)
    (λ o it. read_header seen_header _ _ c.args.key.now.source c.args.key.now.addressee c.args.key.now.number it.0 o it.1 it.2)
