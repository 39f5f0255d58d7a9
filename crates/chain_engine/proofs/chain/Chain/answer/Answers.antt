use Rattle.shop_schema.proofs.Common.{◌∙◌, inr, sym, ap, Decision, NoCounter, NoRoute, StoreFailed, Sorry, is_store_failure, failed_failure, refl}
use Rattle.shop_types.specs.declared.request.Request.TheVariants as request
use Rattle.chain_requests.proofs.Looking.{no_row_look}
use Rattle.chain_requests.proofs.Wells.{well_same}
use Rattle.chain_requests.proofs.Failures.{decided_fine}
use Rattle.chain_engine.proofs.Failing.{same_failed}
use Rattle.chain_engine.proofs.chain.Chain.answer.Goals as goal

pub returns-then-self-clause-told : goal.returns-then-self-clause-told
returns-then-self-clause-told g c = inr (StoreFailed, c.refused.ensures)

pub returns-in-Nobody-clause-told : goal.returns-in-Nobody-clause-told
returns-in-Nobody-clause-told g c = inr (Decision NoCounter, c.refused-in-Nobody.ensures)

pub returns-in-Do-clause-told : goal.returns-in-Do-clause-told
returns-in-Do-clause-told g c = inr (Decision NoRoute, c.refused-in-Do.ensures)

pub returns-then-self-clause-fails : goal.returns-then-self-clause-fails
returns-then-self-clause-fails g c =
    sym (same_failed c.self.view_is) ∙ c.if-self.true ∙ sym (ap is_store_failure c.refused.ensures ∙ failed_failure)

pub returns-in-Nobody-clause-fails : goal.returns-in-Nobody-clause-fails
returns-in-Nobody-clause-fails g c =
    sym (same_failed c.self.view_is) ∙ c.if-self.false ∙ sym (ap is_store_failure c.refused-in-Nobody.ensures ∙ decided_fine (Sorry NoCounter))

pub returns-in-Do-clause-fails : goal.returns-in-Do-clause-fails
returns-in-Do-clause-fails g c =
    sym (same_failed c.self.view_is) ∙ c.if-self.false ∙ sym (ap is_store_failure c.refused-in-Do.ensures ∙ decided_fine (Sorry NoRoute))

pub returns-then-self-clause-well : goal.returns-then-self-clause-well
returns-then-self-clause-well g c row = well_same g.S.Store c.args.self.now

pub returns-in-Nobody-clause-well : goal.returns-in-Nobody-clause-well
returns-in-Nobody-clause-well g c row = well_same g.S.Store c.args.self.now

pub returns-in-Do-clause-well : goal.returns-in-Do-clause-well
returns-in-Do-clause-well g c row = well_same g.S.Store c.args.self.now

pub returns-in-Office-request-clause-well : goal.returns-in-Office-request-clause-well
returns-in-Office-request-clause-well g c row = absurd (no_row_look (request.Office c.in-Office-request.command) c.in-Office-request.is refl row)

pub returns-in-OfficeLook-clause-well : goal.returns-in-OfficeLook-clause-well
returns-in-OfficeLook-clause-well g c row = absurd (no_row_look (request.OfficeLook c.in-OfficeLook.ask) c.in-OfficeLook.is refl row)
