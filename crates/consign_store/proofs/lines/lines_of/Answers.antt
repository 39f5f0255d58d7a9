use Rattle.shop_ledger.proofs.Doing.{does_so}
use Rattle.consign_store.specs.Seen.{seen_line}
use Rattle.consign_store.proofs.Texts.{read_lines}
use Rattle.consign_store.proofs.lines.lines_of.Goals as goal

pub returns : goal.returns
returns g c =
    does_so c.query_all.ensures.inside
    (rw (c.to_sql.ensures, c.get.ensures.value, c.to_sql-2.ensures, c.get-2.ensures.value, c.to_sql-3.ensures, c.get-3.ensures.value)
    at c.query_all.ensures.shown)
    (λ all it. read_lines seen_line _ _ c.args.key.now.source c.args.key.now.addressee c.args.key.now.number it.0 all.items it.1 it.2)
