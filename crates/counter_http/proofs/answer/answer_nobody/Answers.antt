use Rattle.shop_types.proofs.Common.{◌∙◌, inr, sym, ap, Decision, NoCounter, StoreFailed, Sorry, is_store_failure, failed_failure}
use Rattle.chain_requests.proofs.Failures.{decided_fine}
use Rattle.chain_requests.specs.Holding.{holding}
use Rattle.counter_http.proofs.AnswerLemmas.{nobody_refused, nobody_failed}
use Rattle.counter_http.proofs.answer.answer_nobody.Goals as goal

pub returns-then-is_failed-clause-answered : goal.returns-then-is_failed-clause-answered
returns-then-is_failed-clause-answered g c books besides =
    rw c.refused.ensures (nobody_failed (holding c.args.chain.now books besides) (sym c.is_failed.ensures ∙ c.if-is_failed.true))

pub returns-else-is_failed-clause-answered : goal.returns-else-is_failed-clause-answered
returns-else-is_failed-clause-answered g c books besides =
    rw c.refused-else-is_failed.ensures (nobody_refused (holding c.args.chain.now books besides) (sym c.is_failed.ensures ∙ c.if-is_failed.false))

pub returns-then-is_failed-clause-told : goal.returns-then-is_failed-clause-told
returns-then-is_failed-clause-told g c = inr (StoreFailed, c.refused.ensures)

pub returns-else-is_failed-clause-told : goal.returns-else-is_failed-clause-told
returns-else-is_failed-clause-told g c = inr (Decision NoCounter, c.refused-else-is_failed.ensures)

pub returns-then-is_failed-clause-fails : goal.returns-then-is_failed-clause-fails
returns-then-is_failed-clause-fails g c = sym c.is_failed.ensures ∙ c.if-is_failed.true ∙ sym (ap is_store_failure c.refused.ensures ∙ failed_failure)

pub returns-else-is_failed-clause-fails : goal.returns-else-is_failed-clause-fails
returns-else-is_failed-clause-fails g c =
    sym c.is_failed.ensures ∙ c.if-is_failed.false ∙ sym (ap is_store_failure c.refused-else-is_failed.ensures ∙ decided_fine (Sorry NoCounter))
