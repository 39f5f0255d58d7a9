use Rattle.shop_schema.proofs.Common.{◌≡◌, ◌∙◌, refl, sym, ap, subst, arith, Ok, Err, false≢true, Failed}
use Rattle.chain_requests.specs.Holding.{Chained}
use Rattle.chain_requests.specs.Chains.{Takes}
use Rattle.chain_requests.specs.Decisions.{FindsCaller}
use Rattle.chain_requests.specs.Wells.{RestsOnBooks, StaysWell}
use Rattle.chain_requests.proofs.Wells.{at_rest, well_same, well_after}
use Rattle.chain_requests.proofs.Requests.{found, known_already, found_and_kept}
use Rattle.chain_engine.proofs.Failing.{is_live, leaves_no_more, stays_refused, look_refused, refused_fails, refused_leaves, refused_well}
use Rattle.chain_engine.proofs.chain.Chain.caller.Goals as goal

pub returns-in-Some-clause-taken : goal.returns-in-Some-clause-taken
returns-in-Some-clause-taken g c = known_already g.S.Store c.args.self.now c.args.token.now c.in-Some.caller c.in-Some.ensures.0 c.in-Some.ensures.1

pub returns-in-Some-clause-left : goal.returns-in-Some-clause-left
returns-in-Some-clause-left g c = λ clean db may. may

pub returns-in-Some-clause-failed : goal.returns-in-Some-clause-failed
returns-in-Some-clause-failed g c was = absurd (false≢true (sym c.in-Some.ensures.0 ∙ was))

pub returns-in-Ok-clause-taken : goal.returns-in-Ok-clause-taken
returns-in-Ok-clause-taken g c =
    let inside = c.self.inside in
    let token = c.args.token.now in
    let caller = c.in-Ok.caller in
    let old : Chained _ = record { limits = inside.limits; is_failed = inside.is_failed; films = inside.films; callers = inside.callers; conn = inside.conn } in
    let mid : Chained _ = record {
      limits = inside.limits;
      is_failed = inside.is_failed;
      films = inside.films;
      callers = inside.callers;
      conn = c.caller_unless_failed.new.conn;
    } in
    let new : Chained _ = record {
      limits = inside.limits;
      is_failed = inside.is_failed;
      films = inside.films;
      callers = c.put.new.self;
      conn = c.caller_unless_failed.new.conn;
    } in
    let is : old ≡ c.args.self.now = c.self.view_is in
    let live = is_live inside.is_failed caller Failed c.in-Ok.ensures.failed in
    let taken =
    found g.S.Store old mid refl refl live token caller (λ films are. are) live
    (λ now. omega (arith, now, c.in-Ok.ensures.crash.clean)) c.in-Ok.ensures.found c.in-Ok.ensures.same in
    subst (λ x. Takes g.S.Store x new (FindsCaller token (Ok caller))) is (found_and_kept g.S.Store old mid c.put.new.self token caller c.put.ensures taken)

pub returns-in-Err-clause-taken : goal.returns-in-Err-clause-taken
returns-in-Err-clause-taken g c =
    rw c.refusal.ensures.told
    (look_refused g.S.Store _ _ _ c.caller_unless_failed.new.conn _ c.self.view_is c.refusal.ensures.failed c.in-Err.ensures.failed
    (λ now. omega (arith, now, c.in-Err.ensures.crash.clean)) c.in-Err.ensures.same)

pub returns-in-Err-clause-failed : goal.returns-in-Err-clause-failed
returns-in-Err-clause-failed g c failed =
    let it = stays_refused g.S.Store _ _ _ c.caller_unless_failed.new.conn _ c.self.view_is c.refusal.ensures.failed c.in-Err.ensures.failed failed in
    (it.0, ap Err (c.refusal.ensures.told ∙ it.1))

pub returns-in-Ok-clause-left : goal.returns-in-Ok-clause-left
returns-in-Ok-clause-left g c = leaves_no_more g.S.Store _ _ c.caller_unless_failed.new.conn _ c.self.view_is c.in-Ok.ensures.crash refl

pub returns-in-Err-clause-left : goal.returns-in-Err-clause-left
returns-in-Err-clause-left g c =
    refused_leaves g.S.Store _ _ _ c.caller_unless_failed.new.conn _ c.self.view_is c.refusal.ensures.failed c.in-Err.ensures.failed c.in-Err.ensures.crash

pub returns-in-Some-clause-fails : goal.returns-in-Some-clause-fails
returns-in-Some-clause-fails g c = c.in-Some.ensures.0

pub returns-in-Ok-clause-fails : goal.returns-in-Ok-clause-fails
returns-in-Ok-clause-fails g c = is_live c.self.inside.is_failed c.in-Ok.caller Failed c.in-Ok.ensures.failed

pub returns-in-Err-clause-fails : goal.returns-in-Err-clause-fails
returns-in-Err-clause-fails g c =
    rw c.refusal.ensures.told (refused_fails g.S.Store _ _ _ c.caller_unless_failed.new.conn _ c.self.view_is c.refusal.ensures.failed c.in-Err.ensures.failed)

pub returns-in-Some-clause-well : goal.returns-in-Some-clause-well
returns-in-Some-clause-well g c = well_same g.S.Store c.args.self.now

pub returns-in-Ok-clause-well : goal.returns-in-Ok-clause-well
returns-in-Ok-clause-well g c =
    let inside = c.self.inside in
    let old : Chained _ = record { limits = inside.limits; is_failed = inside.is_failed; films = inside.films; callers = inside.callers; conn = inside.conn } in
    let new : Chained _ = record {
      limits = inside.limits;
      is_failed = inside.is_failed;
      films = inside.films;
      callers = c.put.new.self;
      conn = c.caller_unless_failed.new.conn;
    } in
    subst (λ (x : Chained _). StaysWell g.S.Store x new) c.self.view_is (well_after g.S.Store old new c.in-Ok.ensures.crash refl)

pub returns-in-Err-clause-well : goal.returns-in-Err-clause-well
returns-in-Err-clause-well g c =
    refused_well g.S.Store _ _ _ c.self.inside.films c.caller_unless_failed.new.conn c.in-Err.fault c.self.view_is c.refusal.ensures.failed
    RestsOnBooks c.in-Err.ensures.crash
    (λ books besides at well. at_rest g.S.Store _ books besides at well.works) c.in-Err.ensures.fails
