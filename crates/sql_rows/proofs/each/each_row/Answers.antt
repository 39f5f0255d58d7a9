use Rattle.sql_rows.proofs.Common.{List, [], arith, rules, inl, OnOk, Row, state, HasCleanDisk, Survives, bound}
use Rattle.sqlite.specs.State.{Shown}
use Rattle.sql_rows.proofs.Inside.{keeps_unqueried, on_ok_then}
use Rattle.sql_rows.proofs.Stays.{survives_more}
use Rattle.sql_rows.specs.Causes.{FailsToTake}
use Rattle.sql_rows.proofs.EachLemmas.{shown_from, fails_at_start, takes_from}
use Rattle.sql_rows.proofs.QueryFaults.{err_then}
use Rattle.sql_rows.proofs.TextLemmas.{begun_query, commits_nothing}
use Rattle.sql_rows.proofs.each.each_row.Goals as goal

pub returns-in-Err-clause-same : goal.returns-in-Err-clause-same
returns-in-Err-clause-same g c =
    let old = state g.S.Store c.args.conn.now in
    let new = state g.S.Store c.query.follows.lender-at-none in
    let held = c.query.follows.holds-at-none in
    let refused = rw c.in-Err.is at held in record {
      survives = commits_nothing c.args.text.now (bound c.args.params.now) old new c.requires refused.survives;
      mode = refused.mode;
      kept = λ clean. keeps_unqueried c.args.text.now (bound c.args.params.now) _ _ c.in-Err.error (inl (refused.err clean));
      same = λ clean. tt;
    }

pub returns-clause-took : goal.returns-clause-took
returns-clause-took g c clean =
    let old = state g.S.Store c.args.conn.now in
    let text = c.args.text.now in
    let params = bound c.args.params.now in
    let begun = c.in-Ok.rows.conn.now in
    let now = c.take_all.new.rows.conn.now in
    let late : HasCleanDisk (state g.S.Store now) = search rules in
    let early : HasCleanDisk (state g.S.Store begun) = omega (arith, late, c.take_all.ensures.survives.clean) in
    let start = begun_query g.S.Store text params c.args.conn.now begun c.requires (c.in-Ok.ensures.begun early) in
    let told :
    OnOk c.take_all.result
    ((x : List Row) × Shown text params old (state g.S.Store now) x
    × (g.T.TakesRows.took c.args.taker.now c.args.taker.now [] → g.T.TakesRows.took c.args.taker.now c.take_all.new.taker x)) =
    on_ok_then c.take_all.result (λ given.
    let it = given text params c.requires start.0 in
    (it.0, shown_from text params old (state g.S.Store begun) (state g.S.Store now) it.0 c.requires start.1 it.1, it.2)) (c.take_all.ensures.took late) in
    search rules

pub returns-clause-same : goal.returns-clause-same
returns-clause-same g c =
    let old = state g.S.Store c.args.conn.now in
    let begun = state g.S.Store c.in-Ok.rows.conn.now in
    let now = state g.S.Store c.take_all.new.rows.conn.now in
    let all : Survives old now (λ _. ⊥) =
    survives_more old begun now
    (commits_nothing c.args.text.now (bound c.args.params.now) old begun c.requires c.in-Ok.ensures.survives) c.take_all.ensures.survives in
    record { survives = search rules; mode = search rules; kept = search rules; same = search rules }

pub returns-in-Err-clause-told : goal.returns-in-Err-clause-told
returns-in-Err-clause-told g c clean =
    let held = c.query.follows.holds-at-none in
    let refused = rw c.in-Err.is at held in
    inl (fails_at_start g.S.Store c.args.text.now (bound c.args.params.now) c.args.conn.now
    c.query.follows.lender-at-none _ (c.in-Err.error, c.fault_of.ensures, refused.err clean))

pub returns-clause-told : goal.returns-clause-told
returns-clause-told g c clean =
    let text = c.args.text.now in
    let params = bound c.args.params.now in
    let begun = c.in-Ok.rows.conn.now in
    let now = c.take_all.new.rows.conn.now in
    let late : HasCleanDisk (state g.S.Store now) = search rules in
    let early : HasCleanDisk (state g.S.Store begun) = omega (arith, late, c.take_all.ensures.survives.clean) in
    let start = begun_query g.S.Store text params c.args.conn.now begun c.requires (c.in-Ok.ensures.begun early) in
    let one : Survives (state g.S.Store c.args.conn.now) (state g.S.Store begun) (λ _. ⊥) =
    commits_nothing text params (state g.S.Store c.args.conn.now) (state g.S.Store begun) c.requires c.in-Ok.ensures.survives in
    let told =
    err_then c.take_all.result _
    (FailsToTake g.S.Store (g.T.TakesRows.took c.args.taker.now) g.T.TakesRows.refuses c.args.taker.now text params c.args.conn.now now)
    (c.take_all.ensures.told late)
    (λ fault failed. takes_from g.S.Store text params _ _ _ c.args.conn.now begun now fault start.1 one (failed text params start.0)) in
    search rules
