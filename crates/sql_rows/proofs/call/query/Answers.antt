use Rattle.sql_rows.proofs.Inside.{shown_stays, keeps_unqueried}
use Rattle.sql_rows.proofs.call.query.Goals as goal

pub returns-in-Ok-clause-inside : goal.returns-in-Ok-clause-inside
returns-in-Ok-clause-inside g c = record {
  same_reference = c.in-Ok.ensures.same_reference;
  survives = c.in-Ok.ensures.survives;
  kept = λ clean inside. (shown_stays _ _ _ _ _ inside (c.in-Ok.ensures.ok clean)).0;
  lives = λ clean inside. (shown_stays _ _ _ _ _ inside (c.in-Ok.ensures.ok clean)).1;
}

pub returns-in-Err-clause-inside : goal.returns-in-Err-clause-inside
returns-in-Err-clause-inside g c = record {
  same_reference = c.in-Err.ensures.same_reference;
  survives = c.in-Err.ensures.survives;
  kept = λ clean inside. keeps_unqueried _ _ _ _ _ (c.in-Err.ensures.err clean);
  lives = λ clean inside. tt;
}

pub returns-in-Err-clause-told : goal.returns-in-Err-clause-told
returns-in-Err-clause-told g c clean = (c.in-Err.error, c.fault_of.ensures, c.in-Err.ensures.err clean)
