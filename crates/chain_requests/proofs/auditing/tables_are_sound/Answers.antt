use Rattle.sqlite.specs.Held.{state}
use Rattle.chain_requests.proofs.Audits.{tells_soundness}
use Rattle.chain_requests.proofs.Wells.{passed_on}
use Rattle.chain_requests.proofs.auditing.tables_are_sound.Goals as goal

pub returns-clause-told : goal.returns-clause-told
returns-clause-told g c clean = tells_soundness (state g.S.Store c.args.conn.now) c.in_ok-audit.audit (c.in_ok-audit.ensures.told clean)

pub returns-in_err-audit-clause-fails : goal.returns-in_err-audit-clause-fails
returns-in_err-audit-clause-fails g c clean ready shop =
    passed_on c.from_residual.result c.in_err-audit.field-0.0 (c.in_err-audit.ensures.fails clean ready shop) c.from_residual.ensures.1
