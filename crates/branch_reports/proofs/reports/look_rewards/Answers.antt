use Rattle.shop_schema.proofs.Common.{refl, done, some_calls, shop_of, BadThreshold, Decision}
use Rattle.branch_reports.proofs.RewardLemmas.{rewards_told}
use Rattle.branch_reports.proofs.Decisions.{accepted_told, refused_told}
use Rattle.branch_reports.proofs.reports.look_rewards.Goals as goal

pub returns-clause-does : goal.returns-clause-does
returns-clause-does g c = done (some_calls c.in-Ok.ensures.does) (λ said books holds held.
    let b = c.args.branch in
    let found = said books holds held in (
      found.0,
      rewards_told b books.catalogue (shop_of b books) c.args.at c.args.purchases c.args.cents
          c.in-Ok.customers.items c.as_slice.result.now _ _ c.if-purchases-eq0.false c.if-cents-eq0.false
          c.as_slice.ensures.value found.1 c.in_ok-rewards_text.ensures c.accepted.ensures,
    ))

pub returns-clause-decided : goal.returns-clause-decided
returns-clause-decided g c = accepted_told _ _ c.accepted.ensures

pub returns-then-purchases-eq0-clause-decided : goal.returns-then-purchases-eq0-clause-decided
returns-then-purchases-eq0-clause-decided g c = refused_told _ (Decision BadThreshold) c.refused.ensures refl
