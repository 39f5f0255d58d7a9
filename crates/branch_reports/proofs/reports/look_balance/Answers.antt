use Rattle.shop_schema.proofs.Common.{◌∙◌, refl, sym, ap, subst, ℤ, and_then, within_of, some_calls, Customer, Rule, NoCustomer, Decision, balance, BalanceIs}
use Rattle.shop_schema.proofs.Common.{Reply}
use Rattle.shop_schema.proofs.Common.{Shows, answer_of, accepted_answer, shop_of}
use Rattle.sql_rows.proofs.Chaining.{one_call, first_done, done_inside}
use Rattle.shop_schema.specs.Asked.{HoldsBooks}
use Rattle.shop_ledger.proofs.Failing.{fails_after, finds_stay}
use Rattle.balance_rule.specs.Balance.{AreTermsOf, ArePaidBy}
use Rattle.branch_reports.proofs.Few.{few_terms, few_paid}
use Rattle.branch_reports.proofs.Given.{given_none, given_some}
use Rattle.branch_reports.proofs.Decisions.{accepted_told, refused_told}
use Rattle.branch_reports.proofs.reports.look_balance.Goals as goal

pub returns-clause-does : goal.returns-clause-does
returns-clause-does g c = first_done c.in-Ok-Some.ensures.does
    (and_then (one_call c.in-Ok.ensures.does)
    (and_then (some_calls c.in-Ok-find_terms.ensures.does)
    (some_calls c.in-Ok-find_paid.ensures.does)))
    (λ active said books holds held.
    let customer = c.args.customer in
    let shop = shop_of c.args.branch books in
    let found = active books holds held in
    let rule = said.0 books found.0 held in
    let rentals = said.1.0 books rule.0 held in
    let payments = said.1.1 books rentals.0 held in
    let are_terms : AreTermsOf shop customer c.as_slice.result.now = subst (AreTermsOf shop customer) (sym c.as_slice.ensures.value) rentals.1 in
    let are_paid : ArePaidBy shop customer c.as_slice-2.result.now = subst (ArePaidBy shop customer) (sym c.as_slice-2.ensures.value) payments.1 in
    let cents = c.in-Ok-owed.ensures.told shop customer are_terms are_paid ∙ ap (λ (goes_by : Rule). balance goes_by shop customer c.args.at) rule.1 in
    let shows : ℤ → Reply = λ owed. Shows (BalanceIs owed) in (
      payments.0,
      c.accepted.ensures ∙ ap accepted_answer c.in_ok-balance_text.ensures ∙ ap (λ (owed : ℤ). answer_of (shows owed)) cents
          ∙ ap answer_of
          (sym (given_some NoCustomer (BalanceIs (balance books.catalogue.rule shop customer c.args.at))
          (λ (it : Customer). it.active) _ _ (sym c.in-Ok-Some.field-0-is ∙ found.1))),
    ))

pub returns-in-Ok-None-clause-does : goal.returns-in-Ok-None-clause-does
returns-in-Ok-None-clause-does g c = done_inside c.in-Ok-None.ensures.does (λ active books holds held.
    let found = active books holds held in
    (found.0, c.refused.ensures ∙ ap answer_of (sym (given_none NoCustomer _ (λ (it : Customer). it.active) _ (sym c.in-Ok-None.field-0-is ∙ found.1)))))

pub returns-clause-decided : goal.returns-clause-decided
returns-clause-decided g c = accepted_told _ _ c.accepted.ensures

pub returns-in-Ok-None-clause-decided : goal.returns-in-Ok-None-clause-decided
returns-in-Ok-None-clause-decided g c = refused_told _ (Decision NoCustomer) c.refused.ensures refl

pub returns-in-Err-rule_at-clause-fails : goal.returns-in-Err-rule_at-clause-fails
returns-in-Err-rule_at-clause-fails g c =
    fails_after HoldsBooks HoldsBooks (one_call c.in-Ok-Some.ensures.does) finds_stay (within_of c.in-Err-rule_at.ensures.does.inside)
    c.in-Err-rule_at.ensures.fails

pub returns-in-Err-find_terms-clause-fails : goal.returns-in-Err-find_terms-clause-fails
returns-in-Err-find_terms-clause-fails g c =
    fails_after HoldsBooks HoldsBooks (and_then (one_call c.in-Ok-Some.ensures.does) (one_call c.in-Ok.ensures.does))
    (λ said it. finds_stay said.1 (finds_stay said.0 it)) c.in-Err-find_terms.ensures.does.inside c.in-Err-find_terms.ensures.fails

pub returns-in-Err-find_paid-clause-fails : goal.returns-in-Err-find_paid-clause-fails
returns-in-Err-find_paid-clause-fails g c =
    fails_after HoldsBooks HoldsBooks
    (and_then (one_call c.in-Ok-Some.ensures.does) (and_then (one_call c.in-Ok.ensures.does) (some_calls c.in-Ok-find_terms.ensures.does)))
    (λ said it. finds_stay said.1.1 (finds_stay said.1.0 (finds_stay said.0 it))) c.in-Err-find_paid.ensures.does.inside c.in-Err-find_paid.ensures.fails

-- no more rows are found than are counted
pub returns-in-Err-owed-clause-fails : goal.returns-in-Err-owed-clause-fails
returns-in-Err-owed-clause-fails g c clean ready holds failed =
    let books = holds.0 in
    let held = holds.2 in
    let said =
    (and_then (one_call c.in-Ok-Some.ensures.does)
    (and_then (one_call c.in-Ok.ensures.does)
    (and_then (some_calls c.in-Ok-find_terms.ensures.does) (some_calls c.in-Ok-find_paid.ensures.does)))).said clean in
    let active = said.0 books holds.1 held in
    let rule = said.1.0 books active.0 held in
    let rentals = said.1.1.0 books rule.0 held in
    let payments = said.1.1.1 books rentals.0 held in
    let terms = few_terms c.args.branch c.args.customer books held c.in-Ok-find_terms.rentals.items rentals.1 in
    let paid = few_paid c.args.branch c.args.customer books held c.in-Ok-find_paid.payments.items payments.1 in
    absurd (c.in-Err-owed.ensures.failed (rw c.as_slice.ensures.value terms) (rw c.as_slice-2.ensures.value paid))
