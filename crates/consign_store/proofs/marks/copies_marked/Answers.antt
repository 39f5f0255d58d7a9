use Rattle.shop_schema.proofs.Common.{seen_mark}
use Rattle.shop_ledger.proofs.Doing.{does_so}
use Rattle.shop_store.specs.Seen.{seen_copy_row}
use Rattle.consign_store.proofs.Texts.{read_copies}
use Rattle.consign_store.proofs.marks.copies_marked.Goals as goal

pub returns : goal.returns
returns g c =
    does_so c.query_all.ensures.inside (rw (c.to_sql.ensures, c.get.ensures.value, c.to_sql-2.ensures, c.get-2.ensures.value) at c.query_all.ensures.shown)
    (λ all it. read_copies seen_copy_row _ _ (seen_mark c.args.mark.now) it.0 all.items it.1 it.2 it.3)
