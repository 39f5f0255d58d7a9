use Rattle.std.proofs.Common.{◌∙◌, ap, take}
use Rattle.sql_rows.proofs.Common.{inl, inr}
use Rattle.sql_rows.proofs.Found.{both_found, found_then}
use Rattle.sql_rows.proofs.QueryFaults.{err_then}
use Rattle.sql_rows.proofs.stored.query_one.Goals as goal

pub returns-clause-shown : goal.returns-clause-shown
returns-clause-shown g c clean =
    found_then _ _ c.read_one.result (both_found _ _ c.read_one.result c.read_one.ensures.ok c.read_one.ensures.value)
    (λ one is. (c.in-Ok.rows.items, c.in-Ok.ensures.shown clean, is.0 ∙ ap (take 1) c.as_slice.ensures.value, is.1))

pub returns-in-Err-clause-told : goal.returns-in-Err-clause-told
returns-in-Err-clause-told g c clean = inl (c.in-Err.ensures.told clean)

pub returns-clause-told : goal.returns-clause-told
returns-clause-told g c clean =
    err_then c.read_one.result _ _ c.read_one.ensures.failed
    (λ e failed. inr (c.in-Ok.rows.items, c.in-Ok.ensures.shown clean, rw (← c.as_slice.ensures.value) failed))
