use Rattle.sql_rows.proofs.Common.{◌∙◌, inl, inr}
use Rattle.sql_rows.proofs.Found.{both_found, found_then}
use Rattle.sql_rows.proofs.QueryFaults.{err_then}
use Rattle.sql_rows.proofs.stored.query_all.Goals as goal

pub returns-clause-shown : goal.returns-clause-shown
returns-clause-shown g c clean =
    found_then _ _ c.read_all.result (both_found _ _ c.read_all.result c.read_all.ensures.ok c.read_all.ensures.values)
    (λ all is. (c.in-Ok.rows.items, c.in-Ok.ensures.shown clean, is.0 ∙ c.as_slice.ensures.value, is.1))

pub returns-in-Err-clause-told : goal.returns-in-Err-clause-told
returns-in-Err-clause-told g c clean = inl (c.in-Err.ensures.told clean)

pub returns-clause-told : goal.returns-clause-told
returns-clause-told g c clean =
    err_then c.read_all.result _ _ c.read_all.ensures.failed
    (λ e failed. inr (c.in-Ok.rows.items, c.in-Ok.ensures.shown clean, rw (← c.as_slice.ensures.value) failed))
