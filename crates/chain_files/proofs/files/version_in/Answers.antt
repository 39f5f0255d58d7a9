use Rattle.sql_rows.proofs.Chaining.{only_stays}
use Rattle.chain_requests.proofs.Resting.{looks}
use Rattle.chain_files.proofs.files.version_in.Goals as goal

pub returns-clause-stays : goal.returns-clause-stays
returns-clause-stays g c =
    (looks c.args.conn.now (only_stays c.version-found.ensures.inside) c.transaction-tx.ensures.begun
    c.transaction-tx.ensures.same_reference c.conn-1.given c.rollback.ensures.survives c.rollback.ensures.undone).stays

pub returns-clause-same : goal.returns-clause-same
returns-clause-same g c =
    (looks c.args.conn.now (only_stays c.version-found.ensures.inside) c.transaction-tx.ensures.begun
    c.transaction-tx.ensures.same_reference c.conn-1.given c.rollback.ensures.survives c.rollback.ensures.undone).rests
