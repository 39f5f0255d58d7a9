use Rattle.sql_rows.proofs.Inside.{ran_inside, stopped_inside, keeps_shown}
use Rattle.sql_rows.proofs.Faults.{statement_gave}
use Rattle.sql_rows.proofs.call.execute.Goals as goal

pub returns-in-Ok-clause-inside : goal.returns-in-Ok-clause-inside
returns-in-Ok-clause-inside g c = record {
  same_reference = c.execute.ensures.same_reference;
  survives = c.execute.ensures.survives;
  kept = λ clean inside. keeps_shown _ _ (rw c.in-Ok.is at (c.execute.ensures.runs clean inside)).1;
  lives = λ clean inside. (rw c.in-Ok.is at (c.execute.ensures.runs clean inside)).1;
}

pub returns-in-Ok-clause-ran : goal.returns-in-Ok-clause-ran
returns-in-Ok-clause-ran g c clean = (
  c.in-Ok.field-0,
  ran_inside g.S.Store c.args.tx.now.conn.now c.execute.new.self.conn.now _ _ c.execute.result c.execute.ensures.ended
      (c.execute.ensures.runs clean) c.in-Ok.field-0 c.in-Ok.is,
)

pub returns-in-Err-clause-inside : goal.returns-in-Err-clause-inside
returns-in-Err-clause-inside g c = record {
  same_reference = c.execute.ensures.same_reference;
  survives = c.execute.ensures.survives;
  kept = λ clean inside.
      stopped_inside g.S.Store c.args.tx.now.conn.now c.execute.new.self.conn.now _ _ c.execute.result c.execute.ensures.ended
      (c.execute.ensures.runs clean) c.in-Err.failure c.in-Err.is;
  lives = λ clean inside. tt;
}

pub returns-in-Err-clause-told : goal.returns-in-Err-clause-told
returns-in-Err-clause-told g c clean =
    let gave =
    statement_gave g.S.Store c.args.tx.now.conn.now c.execute.new.self.conn.now _ _ c.execute.result c.execute.ensures.ended
    (c.execute.ensures.runs clean) c.in-Err.failure c.in-Err.is in
    (c.in-Err.failure, c.fault_of.ensures, gave)
