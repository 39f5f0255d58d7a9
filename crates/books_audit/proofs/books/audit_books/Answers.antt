use Rattle.shop_schema.proofs.Common.{state, inside_as}
use Rattle.books_audit.proofs.ReadFaults.{passed_on}
use Rattle.books_audit.proofs.ShopAudits.{audit_of_shop, audit_moved}
use Rattle.books_audit.proofs.books.audit_books.Goals as goal

pub returns-in-Ok-clause-does : goal.returns-in-Ok-clause-does
returns-in-Ok-clause-does g c = record {
  inside = inside_as c.in_ok-tables.ensures.does.inside;
  says = λ clean has.
      let read = c.in_ok-tables.ensures.does.says clean has in
      let audit = c.in-Ok.audit in
      let trees = (state g.S.Store c.args.tx.now.conn.now).now.trees in (
        record {
          tables = λ tables have. audit_moved trees c.in_ok-tables.tables tables read.0 have audit c.in-Ok.ensures;
          books = audit_of_shop trees c.in_ok-tables.tables read.0 audit c.in-Ok.ensures;
        },
        read.1,
      );
}

pub returns-in_err-tables-clause-fails : goal.returns-in_err-tables-clause-fails
returns-in_err-tables-clause-fails g c clean ready has =
    passed_on c.from_residual.result c.in_err-tables.field-0.0 (c.in_err-tables.ensures.fails clean ready has) c.from_residual.ensures.1
