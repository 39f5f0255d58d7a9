use Rattle.shop_schema.proofs.Common.{◌≡◌, ◌∙◌, inr, refl, sym, ap, subst, arith, false, false≢true, state, problem_answer, is_store_failure, HeadOffice}
use Rattle.shop_schema.proofs.Common.{Request, OfficeLook, seen_office_ask, seen_refusal, seen_reply}
use Rattle.chain_requests.specs.Holding.{Chained}
use Rattle.chain_requests.specs.Chains.{Takes, Answers}
use Rattle.branch_work.specs.Works.{IsHeldWith}
use Rattle.chain_requests.specs.Decisions.{refusal_for, is_final}
use Rattle.chain_requests.proofs.Requests.{came, unmade}
use Rattle.chain_requests.proofs.Asking.{office_read, office_unread}
use Rattle.chain_requests.proofs.Failures.{decision_fine}
use Rattle.chain_engine.proofs.Failing.{fails_by, same_failed}
use Rattle.chain_engine.proofs.chain.Chain.answer_office.Goals as goal

pub returns-in-Ok-clause-taken : goal.returns-in-Ok-clause-taken
returns-in-Ok-clause-taken g c =
    let inside = c.self.inside in
    let old : Chained _ = record { limits = inside.limits; is_failed = inside.is_failed; films = inside.films; callers = inside.callers; conn = inside.conn } in
    let new : Chained _ = record {
      limits = inside.limits;
      is_failed = inside.is_failed;
      films = inside.films;
      callers = inside.callers;
      conn = c.read_office.new.conn;
    } in
    let is : old ≡ c.args.self.now = c.self.view_is in
    let fine : inside.is_failed ≡ false = same_failed is ∙ c.requires in
    let request : Request = OfficeLook (seen_office_ask c.args.ask) in
    subst (λ x. Takes g.S.Store x new (Answers HeadOffice request (seen_reply c.in-Ok.reply))) is
    (came g.S.Store old new refl refl fine HeadOffice request (IsHeldWith inside.films) (λ books held films callers. (held, films)) tt tt
    c.limits_fit.ensures.commands c.limits_fit.ensures.copies (seen_reply c.in-Ok.reply) fine (λ now. omega (arith, now, c.in-Ok.ensures.crash.clean))
    (λ now.
    office_read inside.limits c.args.ask (seen_reply c.in-Ok.reply) inside.films (state g.S.Store inside.conn)
    (state g.S.Store c.read_office.new.conn) (c.in-Ok.ensures.told now) (c.in-Ok.ensures.same now)))

pub returns-in-Err-clause-taken : goal.returns-in-Err-clause-taken
returns-in-Err-clause-taken g c =
    let inside = c.self.inside in
    let old : Chained _ = record { limits = inside.limits; is_failed = inside.is_failed; films = inside.films; callers = inside.callers; conn = inside.conn } in
    let is : old ≡ c.args.self.now = c.self.view_is in
    let fine : inside.is_failed ≡ false = same_failed is ∙ c.requires in
    let request : Request = OfficeLook (seen_office_ask c.args.ask) in
    let new : Chained _ = record {
      limits = inside.limits;
      is_failed = is_final c.in-Err.fault;
      films = inside.films;
      callers = inside.callers;
      conn = c.read_office.new.conn;
    } in
    let so : new ≡ c.refusal.new.self = sym (rw fine at c.refusal.ensures.failed) in
    let tells = c.refused.ensures ∙ ap (λ r. problem_answer (seen_refusal r)) c.refusal.ensures.told in
    let taken =
    unmade g.S.Store old new refl refl fine HeadOffice request (IsHeldWith inside.films)
    (λ books held films callers. (held, films)) tt tt c.limits_fit.ensures.commands c.limits_fit.ensures.copies c.in-Err.fault
    (λ films are. are) refl (λ now. omega (arith, now, c.in-Err.ensures.crash.clean))
    (λ now.
    office_unread inside.limits c.args.ask c.in-Err.fault inside.films (state g.S.Store inside.conn)
    (state g.S.Store c.read_office.new.conn) (c.in-Err.ensures.same now))
    in
    rw tells (subst (λ x. Takes g.S.Store c.args.self.now x (Answers HeadOffice request (problem_answer (seen_refusal (refusal_for c.in-Err.fault))))) so
    (subst (λ x. Takes g.S.Store x new (Answers HeadOffice request (problem_answer (seen_refusal (refusal_for c.in-Err.fault))))) is taken))

pub returns-in-Ok-clause-told : goal.returns-in-Ok-clause-told
returns-in-Ok-clause-told g c = c.in-Ok.ensures.decided.told

pub returns-in-Ok-clause-fails : goal.returns-in-Ok-clause-fails
returns-in-Ok-clause-fails g c =
    same_failed c.self.view_is ∙ c.requires ∙ sym (decision_fine (seen_reply c.in-Ok.reply) c.in-Ok.ensures.decided.decided)

pub returns-in-Err-clause-told : goal.returns-in-Err-clause-told
returns-in-Err-clause-told g c = inr (seen_refusal c.refusal.result, c.refused.ensures)

pub returns-in-Err-clause-fails : goal.returns-in-Err-clause-fails
returns-in-Err-clause-fails g c =
    let fine : c.self.inside.is_failed ≡ false = same_failed c.self.view_is ∙ c.requires in
    let tells = c.refused.ensures ∙ ap (λ r. problem_answer (seen_refusal r)) c.refusal.ensures.told in
    same_failed c.refusal.ensures.failed
    ∙ fails_by c.self.inside.is_failed c.in-Err.fault (λ was. absurd (false≢true (sym fine ∙ was))) ∙ sym (ap is_store_failure tells)
