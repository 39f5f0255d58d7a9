use Rattle.sql_rows.proofs.Inside.{survives_nothing}
use Rattle.chain_requests.proofs.callers.caller_unless_failed.Goals as goal

pub returns-then-is_failed-clause-crash : goal.returns-then-is_failed-clause-crash
returns-then-is_failed-clause-crash g c = survives_nothing _
