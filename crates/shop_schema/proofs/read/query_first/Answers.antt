use Rattle.sql_rows.proofs.Common.{inl, inr}
use Rattle.sql_rows.proofs.Found.{found_then}
use Rattle.sql_rows.proofs.QueryFaults.{err_then}
use Rattle.shop_schema.proofs.read.query_first.Goals as goal

pub returns-in-Err-clause-told : goal.returns-in-Err-clause-told
returns-in-Err-clause-told g c clean = inl (c.in-Err.ensures.told clean)

pub returns-clause-shown : goal.returns-clause-shown
returns-clause-shown g c clean =
    found_then _ _ c.first_of.result c.first_of.ensures.found
    (λ first is. (c.in-Ok.rows.items, c.in-Ok.ensures.shown clean, rw (← c.as_slice.ensures.value) is))

pub returns-clause-told : goal.returns-clause-told
returns-clause-told g c clean =
    err_then c.first_of.result _ _ c.first_of.ensures.failed
    (λ e failed. inr (c.in-Ok.rows.items, c.in-Ok.ensures.shown clean, rw (← c.as_slice.ensures.value) failed))
