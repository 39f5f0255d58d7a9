use Rattle.shop_schema.proofs.Common.{refl, subst, Decision, NoCounter}
use Rattle.shop_ledger.specs.Standings.{IsStanding}
use Rattle.sql_rows.proofs.Chaining.{done_inside, first_last}
use Rattle.branch_work.proofs.Doing.{nobody_done}
use Rattle.branch_reports.proofs.Decisions.{refused_told}
use Rattle.branch_work.proofs.requests.answer_command.Goals as goal

pub returns-in_default-clause-does : goal.returns-in_default-clause-does
returns-in_default-clause-does g c = done_inside c.in_ok-standing.ensures.does (λ standing books holds held.
    let found = standing books holds held.0 in
    (nobody_done c.args.limits c.args.branch books _ _ _ (subst (IsStanding c.args.branch books) c.in_default.is found.1) c.refused.ensures found.0, held.1))

pub returns-clause-does : goal.returns-clause-does
returns-clause-does g c = first_last c.in_ok-standing.ensures.does c.answer_where_found.ensures.does (λ standing it works books holds held.
    let found = standing books holds held.0 in
    works books found.0 held (subst (IsStanding c.args.branch books) c.in-Some.is found.1))

pub returns-in_default-clause-decided : goal.returns-in_default-clause-decided
returns-in_default-clause-decided g c = refused_told _ (Decision NoCounter) c.refused.ensures refl
