use Rattle.shop_schema.proofs.Common.{◌≡◌, ◌∙◌, inr, refl, sym, ap, subst, arith, false, false≢true, Catalogue, problem_answer, is_store_failure, Caller}
use Rattle.shop_schema.proofs.Common.{Request, seen_refusal, seen_reply}
use Rattle.chain_caches.specs.Callers.{AreCallers}
use Rattle.chain_caches.proofs.FilmRows.{no_rows}
use Rattle.chain_requests.specs.Holding.{Chained}
use Rattle.chain_requests.specs.Chains.{Takes, Answers}
use Rattle.chain_requests.specs.Steps.{IsHeldBy, IsKnownFor, asker, asked_of}
use Rattle.chain_requests.specs.Decisions.{refusal_for, is_final}
use Rattle.chain_requests.specs.Wells.{RestsOnBooks, StaysWell}
use Rattle.chain_requests.proofs.Wells.{at_rest, well_after}
use Rattle.chain_requests.proofs.Requests.{made, unmade}
use Rattle.chain_requests.proofs.Failures.{decision_fine}
use Rattle.chain_engine.proofs.Failing.{fails_by, same_failed, refused_well}
use Rattle.chain_engine.proofs.chain.Chain.answer_asked.Goals as goal

pub returns-in-Ok-clause-taken : goal.returns-in-Ok-clause-taken
returns-in-Ok-clause-taken g c =
    let inside = c.self.inside in
    let old : Chained _ = record { limits = inside.limits; is_failed = inside.is_failed; films = inside.films; callers = inside.callers; conn = inside.conn } in
    let new : Chained _ = record {
      limits = inside.limits;
      is_failed = inside.is_failed;
      films = c.step.new.films;
      callers = inside.callers;
      conn = c.step.new.conn;
    } in
    let is : old ≡ c.args.self.now = c.self.view_is in
    let fine : inside.is_failed ≡ false = same_failed is ∙ c.requires.fine in
    let known : (catalogue : Catalogue) → AreCallers inside.callers catalogue → IsKnownFor c.args.asked.now catalogue =
    λ catalogue callers. c.requires.known catalogue (subst (λ (x : Chained _). AreCallers x.callers catalogue) is callers) in
    let caller : Caller = asker c.args.asked.now in
    let request : Request = asked_of c.args.asked.now in
    subst (λ x. Takes g.S.Store x new (Answers caller request (seen_reply c.in-Ok.reply))) is
    (made g.S.Store old new refl refl fine caller request (IsHeldBy (IsKnownFor c.args.asked.now) inside.films)
    (λ books held films callers. (held, films, known books.catalogue callers)) c.asked_values.ensures.caller
    c.asked_values.ensures.request c.limits_fit.ensures.commands c.limits_fit.ensures.copies (seen_reply c.in-Ok.reply) fine
    (λ now. omega (arith, now, c.in-Ok.ensures.crash.clean)) c.in-Ok.ensures.made)

pub returns-in-Err-clause-taken : goal.returns-in-Err-clause-taken
returns-in-Err-clause-taken g c =
    let inside = c.self.inside in
    let old : Chained _ = record { limits = inside.limits; is_failed = inside.is_failed; films = inside.films; callers = inside.callers; conn = inside.conn } in
    let is : old ≡ c.args.self.now = c.self.view_is in
    let fine : inside.is_failed ≡ false = same_failed is ∙ c.requires.fine in
    let known : (catalogue : Catalogue) → AreCallers inside.callers catalogue → IsKnownFor c.args.asked.now catalogue =
    λ catalogue callers. c.requires.known catalogue (subst (λ (x : Chained _). AreCallers x.callers catalogue) is callers) in
    let caller : Caller = asker c.args.asked.now in
    let request : Request = asked_of c.args.asked.now in
    let new : Chained _ = record {
      limits = inside.limits;
      is_failed = is_final c.in-Err.fault;
      films = c.clear.new.self;
      callers = inside.callers;
      conn = c.step.new.conn;
    } in
    let so : new ≡ c.refusal.new.self = sym (rw fine at c.refusal.ensures.failed) in
    let tells = c.refused.ensures ∙ ap (λ r. problem_answer (seen_refusal r)) c.refusal.ensures.told in
    let taken =
    unmade g.S.Store old new refl refl fine caller request (IsHeldBy (IsKnownFor c.args.asked.now) inside.films)
    (λ books held films callers. (held, films, known books.catalogue callers)) c.asked_values.ensures.caller c.asked_values.ensures.request
    c.limits_fit.ensures.commands c.limits_fit.ensures.copies c.in-Err.fault (λ films are. no_rows _ films c.clear.ensures) refl
    (λ now. omega (arith, now, c.in-Err.ensures.crash.clean)) c.in-Err.ensures.undone in
    rw tells (subst (λ x. Takes g.S.Store c.args.self.now x (Answers caller request (problem_answer (seen_refusal (refusal_for c.in-Err.fault))))) so
    (subst (λ x. Takes g.S.Store x new (Answers caller request (problem_answer (seen_refusal (refusal_for c.in-Err.fault))))) is taken))

pub returns-in-Ok-clause-told : goal.returns-in-Ok-clause-told
returns-in-Ok-clause-told g c = c.in-Ok.ensures.decided.told

pub returns-in-Ok-clause-fails : goal.returns-in-Ok-clause-fails
returns-in-Ok-clause-fails g c =
    same_failed c.self.view_is ∙ c.requires.fine ∙ sym (decision_fine (seen_reply c.in-Ok.reply) c.in-Ok.ensures.decided.decided)

pub returns-in-Err-clause-told : goal.returns-in-Err-clause-told
returns-in-Err-clause-told g c = inr (seen_refusal c.refusal.result, c.refused.ensures)

pub returns-in-Err-clause-fails : goal.returns-in-Err-clause-fails
returns-in-Err-clause-fails g c =
    let fine : c.self.inside.is_failed ≡ false = same_failed c.self.view_is ∙ c.requires.fine in
    let tells = c.refused.ensures ∙ ap (λ r. problem_answer (seen_refusal r)) c.refusal.ensures.told in
    same_failed c.refusal.ensures.failed
    ∙ fails_by c.self.inside.is_failed c.in-Err.fault (λ was. absurd (false≢true (sym fine ∙ was))) ∙ sym (ap is_store_failure tells)

pub returns-in-Ok-clause-well : goal.returns-in-Ok-clause-well
returns-in-Ok-clause-well g c row =
    let inside = c.self.inside in
    let old : Chained _ = record { limits = inside.limits; is_failed = inside.is_failed; films = inside.films; callers = inside.callers; conn = inside.conn } in
    let new : Chained _ = record {
      limits = inside.limits;
      is_failed = inside.is_failed;
      films = c.step.new.films;
      callers = inside.callers;
      conn = c.step.new.conn;
    } in
    subst (λ (x : Chained _). StaysWell g.S.Store x new) c.self.view_is (well_after g.S.Store old new c.in-Ok.ensures.crash refl)

pub returns-in-Err-clause-well : goal.returns-in-Err-clause-well
returns-in-Err-clause-well g c row =
    refused_well g.S.Store _ _ _ c.clear.new.self c.step.new.conn c.in-Err.fault c.self.view_is c.refusal.ensures.failed RestsOnBooks c.in-Err.ensures.crash
    (λ books besides at well. at_rest g.S.Store _ books besides at well.works) (λ works. c.in-Err.ensures.fails row)
