use Rattle.shop_schema.proofs.Common.{◌≡◌, ◌∙◌, refl, ap, subst, arith, Ok, Err, state, Failed, IsShop}
use Rattle.chain_requests.specs.Holding.{Chained}
use Rattle.chain_requests.specs.Chains.{Takes}
use Rattle.chain_requests.specs.Audits.{AuditsState}
use Rattle.chain_requests.specs.Decisions.{FindsAudit}
use Rattle.chain_requests.specs.Wells.{StaysWell}
use Rattle.chain_requests.proofs.Wells.{at_shop, well_after}
use Rattle.chain_requests.proofs.Requests.{audited}
use Rattle.chain_engine.proofs.Failing.{is_live, leaves_no_more, stays_refused, look_refused, refused_fails, refused_leaves, refused_well}
use Rattle.chain_engine.proofs.chain.Chain.audit.Goals as goal

pub returns-in-Ok-clause-told : goal.returns-in-Ok-clause-told
returns-in-Ok-clause-told g c clean = subst (λ (x : Chained _). AuditsState (state g.S.Store x.conn) c.in-Ok.audit) c.self.view_is (c.in-Ok.ensures.told clean)

pub returns-in-Ok-clause-taken : goal.returns-in-Ok-clause-taken
returns-in-Ok-clause-taken g c =
    let inside = c.self.inside in
    let old : Chained _ = record { limits = inside.limits; is_failed = inside.is_failed; films = inside.films; callers = inside.callers; conn = inside.conn } in
    let new : Chained _ = record {
      limits = inside.limits;
      is_failed = inside.is_failed;
      films = inside.films;
      callers = inside.callers;
      conn = c.audit_unless_failed.new.conn;
    } in
    let is : old ≡ c.args.self.now = c.self.view_is in
    let live = is_live inside.is_failed c.in-Ok.audit Failed c.in-Ok.ensures.failed in
    subst (λ x. Takes g.S.Store x new (FindsAudit (Ok c.in-Ok.audit))) is
    (audited g.S.Store old new refl refl live c.in-Ok.audit (λ films are. are) live
    (λ now. omega (arith, now, c.in-Ok.ensures.crash.clean)) c.in-Ok.ensures.told c.in-Ok.ensures.same)

pub returns-in-Err-clause-taken : goal.returns-in-Err-clause-taken
returns-in-Err-clause-taken g c =
    rw c.refusal.ensures.told
    (look_refused g.S.Store _ _ _ c.audit_unless_failed.new.conn _ c.self.view_is c.refusal.ensures.failed c.in-Err.ensures.failed
    (λ now. omega (arith, now, c.in-Err.ensures.crash.clean)) c.in-Err.ensures.same)

pub returns-in-Err-clause-failed : goal.returns-in-Err-clause-failed
returns-in-Err-clause-failed g c failed =
    let it = stays_refused g.S.Store _ _ _ c.audit_unless_failed.new.conn _ c.self.view_is c.refusal.ensures.failed c.in-Err.ensures.failed failed in
    (it.0, ap Err (c.refusal.ensures.told ∙ it.1))

pub returns-in-Ok-clause-left : goal.returns-in-Ok-clause-left
returns-in-Ok-clause-left g c = leaves_no_more g.S.Store _ _ c.audit_unless_failed.new.conn _ c.self.view_is c.in-Ok.ensures.crash refl

pub returns-in-Err-clause-left : goal.returns-in-Err-clause-left
returns-in-Err-clause-left g c =
    refused_leaves g.S.Store _ _ _ c.audit_unless_failed.new.conn _ c.self.view_is c.refusal.ensures.failed c.in-Err.ensures.failed c.in-Err.ensures.crash

pub returns-in-Ok-clause-fails : goal.returns-in-Ok-clause-fails
returns-in-Ok-clause-fails g c = is_live c.self.inside.is_failed c.in-Ok.audit Failed c.in-Ok.ensures.failed

pub returns-in-Err-clause-fails : goal.returns-in-Err-clause-fails
returns-in-Err-clause-fails g c =
    rw c.refusal.ensures.told (refused_fails g.S.Store _ _ _ c.audit_unless_failed.new.conn _ c.self.view_is c.refusal.ensures.failed c.in-Err.ensures.failed)

pub returns-in-Ok-clause-well : goal.returns-in-Ok-clause-well
returns-in-Ok-clause-well g c =
    let inside = c.self.inside in
    let old : Chained _ = record { limits = inside.limits; is_failed = inside.is_failed; films = inside.films; callers = inside.callers; conn = inside.conn } in
    let new : Chained _ = record {
      limits = inside.limits;
      is_failed = inside.is_failed;
      films = inside.films;
      callers = inside.callers;
      conn = c.audit_unless_failed.new.conn;
    } in
    subst (λ (x : Chained _). StaysWell g.S.Store x new) c.self.view_is (well_after g.S.Store old new c.in-Ok.ensures.crash refl)

pub returns-in-Err-clause-well : goal.returns-in-Err-clause-well
returns-in-Err-clause-well g c =
    refused_well g.S.Store _ _ _ c.self.inside.films c.audit_unless_failed.new.conn c.in-Err.fault c.self.view_is c.refusal.ensures.failed
    IsShop c.in-Err.ensures.crash
    (λ books besides at well. at_shop g.S.Store _ books besides at well) c.in-Err.ensures.fails
