use Rattle.shop_schema.proofs.Common.{length, ap, arith, column}
use Rattle.sqlite_value.specs.Order.{Row}
use Rattle.sql_rows.proofs.QueryFaults.{err_then}
use Rattle.shop_ledger.proofs.counts.rental_in.Goals as goal

pub returns-clause-failed : goal.returns-clause-failed
returns-clause-failed c =
    err_then c.row_number_at.result _ _ c.row_number_at.ensures.failed
    (λ e refuses failed shows. refuses failed shows.0 shows.1 (omega (arith, ap length shows.2)) (ap (λ (r : Row). column r 0) shows.2))
