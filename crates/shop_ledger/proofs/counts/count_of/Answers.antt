use Rattle.shop_schema.proofs.Common.{sym}
use Rattle.sql_rows.proofs.QueryFaults.{err_then}
use Rattle.shop_ledger.proofs.Doing.{does_so}
use Rattle.shop_ledger.proofs.LedgerFaults.{count_met}
use Rattle.shop_ledger.proofs.OfficeCounts.{read_counted}
use Rattle.shop_ledger.proofs.counts.count_of.Goals as goal

pub returns-clause-does : goal.returns-clause-does
returns-clause-does g c =
    let one = rw (c.to_sql.ensures, c.caller.ensures.value, c.to_sql-2.ensures, c.kind.ensures) at c.count_shown.ensures.does in
    does_so one.inside one.says (λ n these. read_counted c.args.count c.caller.ensures.real _ _ these.0 these.1 these.2 n (sym these.3) these.4)

pub returns-clause-fails : goal.returns-clause-fails
returns-clause-fails g c clean ready holds =
    err_then c.count_shown.result _ _ (rw (c.to_sql.ensures, c.caller.ensures.value, c.to_sql-2.ensures, c.kind.ensures) at (c.count_shown.ensures.told clean))
    (count_met c.args.count c.caller.ensures.real _ _ ready holds)
