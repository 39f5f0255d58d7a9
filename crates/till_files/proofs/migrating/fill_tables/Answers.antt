use Rattle.sql_rows.proofs.Chaining.{call, one_call, some_calls, and_then, and_more}
use Rattle.till_files.proofs.Filled.{fills}
use Rattle.till_files.proofs.migrating.fill_tables.Goals as goal

pub returns : goal.returns
returns g c =
    and_more (and_then (one_call c.in_ok-add_tables.ensures)
    (and_then (call c.in_ok-rows.ensures.inside c.in_ok-rows.ensures.bare) (some_calls c.in_ok-mark_replies.ensures)))
    c.mark_settlements.ensures
    (λ said _ last.
    fills c.in_ok-rows.rows _ _ _ _ _ _ _ _ c.as_slice-entries.ensures c.as_slice-replies.ensures c.as_slice.ensures said.0 said.1.0 said.1.1 last)
