use Rattle.shop_schema.proofs.Common.{◌∙◌, Ok, Result, refl, ap, subst, IfOk-weaker, some_calls, and_last, office_verdict, Change, Refusal, IsVerdict}
use Rattle.shop_schema.proofs.Common.{seen_office}
use Rattle.branch_work.specs.Rules.{rules_of}
use Rattle.branch_work.proofs.Doing.{again_done, accepted_done, refused_done}
use Rattle.branch_reports.proofs.Decisions.{accepted_told}
use Rattle.chain_requests.proofs.Asking.{office_goes}
use Rattle.sql_rows.proofs.Chaining.{and_told}
use Rattle.chain_requests.proofs.office_commands.answer.Goals as goal

abbrev known : Change → Result Change Refusal
known it = Ok it

pub returns-in-Ok-Again-clause-does : goal.returns-in-Ok-Again-clause-does
returns-in-Ok-Again-clause-does g c = and_told (some_calls c.in_ok-found.ensures) c.again.ensures (λ said done told books holds held kept.
    let verdict = office_verdict (rules_of c.args.limits) books.catalogue (seen_office c.args.command.now) in
    let found = said books holds held in
    let is =
    subst (IsVerdict verdict) (c.in-Ok-Again.is ∙ ap known c.in-Ok-Again.field-0-is)
    (c.decide_office.ensures (rules_of c.args.limits) books.catalogue refl (found.1 c.args.kept kept)) in
    again_done (office_goes c.args.limits (seen_office c.args.command.now) books) done _ _ is told.0 found.0)

pub returns-in-Ok-Accepted-clause-does : goal.returns-in-Ok-Accepted-clause-does
returns-in-Ok-Accepted-clause-does g c =
    and_last (some_calls c.in_ok-found.ensures) c.add.ensures.does.inside c.add.ensures.does.says (λ said done told books holds held kept.
    let verdict = office_verdict (rules_of c.args.limits) books.catalogue (seen_office c.args.command.now) in
    let found = said books holds held in
    let is =
    subst (IsVerdict verdict) (c.in-Ok-Accepted.is ∙ ap known c.in-Ok-Accepted.field-0-is)
    (c.decide_office.ensures (rules_of c.args.limits) books.catalogue refl (found.1 c.args.kept kept)) in
    let added = told.1 books found.0 held in
    accepted_done (office_goes c.args.limits (seen_office c.args.command.now) books) done _ is added.1 told.0 added.0)

pub returns-in-Err-clause-does : goal.returns-in-Err-clause-does
returns-in-Err-clause-does g c = and_told (some_calls c.in_ok-found.ensures) c.refuse.ensures.told (λ said done told books holds held kept.
    let verdict = office_verdict (rules_of c.args.limits) books.catalogue (seen_office c.args.command.now) in
    let found = said books holds held in
    let refused =
    told.1 verdict
    (subst (IsVerdict verdict) c.in-Err.is (c.decide_office.ensures (rules_of c.args.limits) books.catalogue refl (found.1 c.args.kept kept))) in
    refused_done (office_goes c.args.limits (seen_office c.args.command.now) books) done _ refused.0 refused.1 refused.2 found.0)

pub returns-in-Ok-Again-clause-decided : goal.returns-in-Ok-Again-clause-decided
returns-in-Ok-Again-clause-decided g c = IfOk-weaker c.again.result _ _ (λ done told. accepted_told _ _ told.0) c.again.ensures

pub returns-in-Ok-Accepted-clause-decided : goal.returns-in-Ok-Accepted-clause-decided
returns-in-Ok-Accepted-clause-decided g c = IfOk-weaker c.add.result _ _ (λ done told. accepted_told _ told.0 told.1) c.add.ensures.accepted
