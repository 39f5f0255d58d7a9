use Rattle.shop_schema.proofs.Common.{refl}
use Rattle.chain_requests.proofs.Resting.{looks, looks_found}
use Rattle.shop_schema.specs.Asked.{HoldsBooks}
use Rattle.chain_requests.specs.Wells.{RestsOnBooks}
use Rattle.chain_requests.proofs.Wells.{books_begun, fails_at_rest}
use Rattle.chain_requests.proofs.callers.find_caller.Goals as goal

pub returns-clause-found : goal.returns-clause-found
returns-clause-found g c =
    looks_found refl
    (looks c.args.conn.now c.caller_in-caller.ensures.does c.transaction-tx.ensures.begun
    c.transaction-tx.ensures.same_reference c.conn-1.given c.rollback.ensures.survives c.rollback.ensures.undone)

pub returns-clause-same : goal.returns-clause-same
returns-clause-same g c clean books rests held =
    (looks c.args.conn.now c.caller_in-caller.ensures.does c.transaction-tx.ensures.begun
    c.transaction-tx.ensures.same_reference c.conn-1.given c.rollback.ensures.survives c.rollback.ensures.undone).rests
    clean books rests

pub returns-clause-fails : goal.returns-clause-fails
returns-clause-fails g c =
    fails_at_rest c.args.conn.now RestsOnBooks HoldsBooks (books_begun g.S.Store c.args.conn.now) c.caller_in-caller.ensures.does
    c.caller_in-caller.ensures.fails c.transaction-tx.ensures.begun c.transaction-tx.ensures.same_reference c.conn-1.given c.rollback.ensures.survives
