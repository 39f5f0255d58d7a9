use Rattle.shop_schema.proofs.Common.{IfOk-weaker, IsShop}
use Rattle.chain_requests.proofs.Resting.{looks}
use Rattle.chain_requests.proofs.Wells.{fails_at_rest}
use Rattle.chain_requests.proofs.auditing.read_audit.Goals as goal

pub returns-clause-told : goal.returns-clause-told
returns-clause-told g c clean =
    let look =
    looks c.args.conn.now c.audit_books-audit.ensures.does c.transaction-tx.ensures.begun
    c.transaction-tx.ensures.same_reference c.conn-1.given c.rollback.ensures.survives c.rollback.ensures.undone in
    IfOk-weaker c.audit_books-audit.result _ _ (λ audit it. record { is_open = it.0; audits = λ shop. (it.1 shop).0 }) (look.says clean)

pub returns-clause-same : goal.returns-clause-same
returns-clause-same g c =
    (looks c.args.conn.now c.audit_books-audit.ensures.does c.transaction-tx.ensures.begun
    c.transaction-tx.ensures.same_reference c.conn-1.given c.rollback.ensures.survives c.rollback.ensures.undone).rests

pub returns-clause-fails : goal.returns-clause-fails
returns-clause-fails g c =
    fails_at_rest c.args.conn.now IsShop IsShop (λ ready shop. shop) c.audit_books-audit.ensures.does c.audit_books-audit.ensures.fails
    c.transaction-tx.ensures.begun c.transaction-tx.ensures.same_reference c.conn-1.given c.rollback.ensures.survives
