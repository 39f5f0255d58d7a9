use Rattle.std.proofs.Common.{sym, ◌∙◌, inl, inr}
use Rattle.sql_rows.proofs.EachLemmas.{ends_given, going_on, fails_between, refuses_one, too_many}
use Rattle.sql_rows.proofs.each.take_all.Goals as goal

pub returns-in_default-get-clause-took : goal.returns-in_default-get-clause-took
returns-in_default-get-clause-took g c =
    ends_given g.S.Store (g.T.TakesRows.took c.args.taker.now) c.args.rows.now.conn.now
    c.rows.rows.conn.now c.advance.new.self.conn.now c.args.taker.now c.rows.taker _ c.rows.invariant.1
    c.advance.ensures.survives c.advance.ensures.mode (rw c.in_default.is at c.advance.ensures.same)
    (λ clean. rw (sym c.get.ensures, c.in_default-get.is) at ((rw c.in_default.is at c.advance.ensures.ok) clean))

pub rows-preserved : goal.rows-preserved
rows-preserved g c = (
  c.advance.ensures.same_reference ∙ c.rows.invariant.0,
  going_on g.S.Store (g.T.TakesRows.took c.args.taker.now) c.args.rows.now.conn.now
      c.rows.rows.conn.now c.advance.new.self.conn.now c.args.taker.now c.rows.taker _ c.rows.invariant.1
      c.advance.ensures.survives c.advance.ensures.mode (rw c.in_default.is at c.advance.ensures.same) _ c.take.new.self
      (λ clean. rw (sym c.get.ensures, c.in-Some.is) at ((rw c.in_default.is at c.advance.ensures.ok) clean))
      (c.in_default-take.ensures.taken c.args.taker.now),
)

pub returns-in-Err-clause-told : goal.returns-in-Err-clause-told
returns-in-Err-clause-told g c clean sql params h =
    inl (fails_between g.S.Store (g.T.TakesRows.took c.args.taker.now) c.args.rows.now.conn.now
    c.rows.rows.conn.now c.advance.new.self.conn.now c.args.taker.now c.rows.taker _ c.rows.invariant.1
    c.advance.ensures.survives c.advance.ensures.mode _ c.in-Err.error c.fault_of.ensures c.in-Err.ensures.err clean sql params h)

pub returns-in-Err-take-clause-told : goal.returns-in-Err-take-clause-told
returns-in-Err-take-clause-told g c clean sql params h =
    let it =
    refuses_one g.S.Store (g.T.TakesRows.took c.args.taker.now) c.args.rows.now.conn.now
    c.rows.rows.conn.now c.advance.new.self.conn.now c.args.taker.now c.rows.taker _ c.rows.invariant.1
    c.advance.ensures.survives c.advance.ensures.mode (rw c.in_default.is at c.advance.ensures.same) g.T.TakesRows.refuses c.in-Some.row.now
    (λ clean. rw (sym c.get.ensures, c.in-Some.is) at ((rw c.in_default.is at c.advance.ensures.ok) clean)) clean sql params h in
    inr (it.0, λ failed. inl (it.1 (c.in-Err-take.ensures.failed failed)))

pub returns-clause-told : goal.returns-clause-told
returns-clause-told g c clean sql params h =
    let it =
    too_many g.S.Store (g.T.TakesRows.took c.args.taker.now) c.args.rows.now.conn.now
    c.rows.rows.conn.now c.args.taker.now c.rows.taker _ c.rows.invariant.1 c.rows-test.false clean sql params h in
    inr (it.0, λ failed. inr it.1)
