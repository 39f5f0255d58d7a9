use Rattle.shop_schema.proofs.Common.{◌∙◌, refl, subst, Decision, NoCounter, NoRoute}
use Rattle.shop_ledger.specs.Standings.{IsStanding}
use Rattle.sql_rows.proofs.Chaining.{done_inside}
use Rattle.branch_reports.proofs.Decisions.{refused_told}
use Rattle.chain_requests.proofs.answering.refuse_office.Goals as goal

pub returns-in-Some-clause-does : goal.returns-in-Some-clause-does
returns-in-Some-clause-does g c = done_inside c.in_ok-standing_at.ensures.does (λ standing books holds held.
    let found = standing books holds held in
    let stands = subst (IsStanding c.args.branch books) c.in-Some.is found.1 in
    (found.0, (c.refused.ensures ∙ rw stands.there refl, refl)))

pub returns-in-None-clause-does : goal.returns-in-None-clause-does
returns-in-None-clause-does g c = done_inside c.in_ok-standing_at.ensures.does (λ standing books holds held.
    let found = standing books holds held in
    let none = subst (IsStanding c.args.branch books) c.in-None.is found.1 in
    (found.0, (c.refused-in-None.ensures ∙ rw none refl, refl)))

pub returns-in-Some-clause-decided : goal.returns-in-Some-clause-decided
returns-in-Some-clause-decided g c = refused_told _ (Decision NoRoute) c.refused.ensures refl

pub returns-in-None-clause-decided : goal.returns-in-None-clause-decided
returns-in-None-clause-decided g c = refused_told _ (Decision NoCounter) c.refused-in-None.ensures refl
