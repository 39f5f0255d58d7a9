use Rattle.shop_schema.proofs.Common.{IfOk-weaker}
use Rattle.sql_rows.proofs.QueryFaults.{err_then}
use Rattle.books_audit.proofs.ReadFaults.{whole_met}
use Rattle.books_audit.proofs.Told.{told}
use Rattle.books_audit.proofs.tables.read_whole.Goals as goal

pub returns-clause-does : goal.returns-clause-does
returns-clause-does g c = record {
  inside = c.query.ensures.inside;
  says =
      λ clean. IfOk-weaker c.query.result _ _ (λ rows shown has t means. told t c.args.text.now means _ _ rows.items has shown) (c.query.ensures.shown clean);
}

pub returns-clause-fails : goal.returns-clause-fails
returns-clause-fails g c t reads clean ready has = err_then c.query.result _ _ (c.query.ensures.told clean) (whole_met t c.args.text.now reads _ _ has ready)
