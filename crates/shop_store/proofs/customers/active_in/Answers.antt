use Rattle.shop_schema.proofs.Common.{length, ap, arith, column}
use Rattle.sqlite_value.specs.Order.{Row}
use Rattle.sql_rows.proofs.QueryFaults.{err_then}
use Rattle.shop_store.proofs.customers.active_in.Goals as goal

pub returns-clause-failed : goal.returns-clause-failed
returns-clause-failed c =
    err_then c.flag_at.result _ _ c.flag_at.ensures.failed
    (λ e refuses failed shows. refuses failed shows.0 (omega (arith, ap length shows.1)) (ap (λ (r : Row). column r 0) shows.1))
