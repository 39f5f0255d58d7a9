-- What an audit of a shop's rows says of the books for which the shop's tables stand.
use Rattle.std.specs.Prelude.{◌↔◌, IsTrue, map, length}
use Rattle.sqlite_trees.specs.Tree.{Trees}
use Rattle.sql_rows.specs.Rows.{columns_of}
use Rattle.shop_model.specs.Values.{Rules}
use Rattle.shop_model.specs.Books.{Books}
use Rattle.shop_model.specs.Sound.{IsSound, widest}
use Rattle.shop_schema.specs.Held.{AreValues}
use Rattle.shop_schema.specs.Shop.{StandsFor, shop_schema}
use Rattle.shop_types.specs.declared.audit.Audit.{Audit}
use Rattle.books_audit.specs.declared.tables.TableRows.{TableRows}
use Rattle.books_audit.specs.Audited.{CountsNothing}
use Rattle.books_audit.specs.Audits.{Counts, HaveKeys, IsAuditOf}
use Rattle.books_audit.specs.Tables.{HaveEach}

-- the rows of each table, in any order
abbrev pub HaveTables : Trees → TableRows → Type 0
HaveTables trees tables = HaveEach tables 0 (map (λ t. map (columns_of (length t.columns)) (trees t.tree)) shop_schema.tables)

-- `sound` is true exactly if the tables stand for sound books whose rows the program can hold. The counts are right for any books for which the tables stand,
-- if the rows can be held and have each key once; the books needn't be sound. If the tables stand for no such books, nothing is counted.
pub record IsAuditOfShop (trees : Trees) (audit : Audit) : Type 0 where
  pub sound : (rules : Rules) → IsTrue audit.sound ↔ ((books : Books) × StandsFor trees books × AreValues books × IsSound (widest rules) books)
  pub counts : (books : Books) → StandsFor trees books → AreValues books → HaveKeys books → Counts audit books
  pub nothing : ¬ ((books : Books) × StandsFor trees books × AreValues books × HaveKeys books) → CountsNothing audit

-- The audit is right for all rows of the tables, whatever they hold. If the tables stand for books, it is right for the books too.
pub record AuditsTables (trees : Trees) (audit : Audit) : Type 0 where
  pub tables : (tables : TableRows) → HaveTables trees tables → IsAuditOf tables audit
  pub books : IsAuditOfShop trees audit
