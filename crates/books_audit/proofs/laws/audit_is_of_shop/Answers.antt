use Rattle.books_audit.proofs.ShopAudits.{audit_of_shop, audit_moved}
use Rattle.books_audit.proofs.laws.audit_is_of_shop.Goals as goal

pub returns-clause-shop : goal.returns-clause-shop
returns-clause-shop c = audit_of_shop

pub returns-clause-order : goal.returns-clause-order
returns-clause-order c = audit_moved
