use Rattle.sql_rows.proofs.Common.{refl, cases_Bool, inl, inr, state}
use Rattle.sql_rows.proofs.Inside.{on_ok_then}
use Rattle.sql_rows.proofs.Creates.{builds}
use Rattle.sql_rows.proofs.make.make_table.Goals as goal

pub returns-clause-made : goal.returns-clause-made
returns-clause-made g c clean = on_ok_then c.execute.result (λ ran whole rest b. builds whole _ rest _ _ ran.0 b ran.1.0) (c.execute.ensures.ran clean)

pub returns-clause-kept : goal.returns-clause-kept
returns-clause-kept g c clean = elim (cases_Bool (state g.S.Store c.args.tx.now.conn.now).in_transaction) [
  | inl inside ↦ c.execute.ensures.inside.kept clean inside
  | inr outside ↦ rw (c.execute.ensures.ended outside).1 (record { was_open = λ now. now; committed = λ _. refl })
]
