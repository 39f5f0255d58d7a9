use Rattle.shop_schema.proofs.Common.{◌∙◌, refl, sym, ap, List, Option, option_map, option_to_list, Customer, NoCustomer, Decision, given, CustomerIs}
use Rattle.shop_schema.proofs.Common.{answer_of, accepted_answer, seen_customer}
use Rattle.shop_store.specs.declared.customers.CustomerRow.{CustomerRow}
use Rattle.sql_rows.proofs.Chaining.{done_inside}
use Rattle.branch_reports.proofs.Decisions.{accepted_told, refused_told}
use Rattle.branch_finds.proofs.looks.look_customer.Goals as goal

abbrev listed : Option CustomerRow → List Customer
listed o = option_to_list (option_map (λ row. seen_customer row.customer) o)

pub returns-in_ok-customer_text-in-Ok-Some-clause-does : goal.returns-in_ok-customer_text-in-Ok-Some-clause-does
returns-in_ok-customer_text-in-Ok-Some-clause-does g c = done_inside c.in-Ok-Some.ensures.does (λ row books holds held.
    let found = row books holds held in (
      found.0,
      c.accepted.ensures ∙ ap accepted_answer c.in_ok-customer_text-in-Ok-Some.ensures
          ∙ ap (λ (rows : List Customer). answer_of (given NoCustomer (CustomerIs c.args.number) rows)) (ap listed (sym c.in-Ok-Some.field-0-is) ∙ found.1),
    ))

pub returns-in-Ok-None-clause-does : goal.returns-in-Ok-None-clause-does
returns-in-Ok-None-clause-does g c = done_inside c.in-Ok-None.ensures.does (λ row books holds held.
    let found = row books holds held in (
      found.0,
      c.refused.ensures
          ∙ ap (λ (rows : List Customer). answer_of (given NoCustomer (CustomerIs c.args.number) rows)) (ap listed (sym c.in-Ok-None.field-0-is) ∙ found.1),
    ))

pub returns-in_ok-customer_text-in-Ok-Some-clause-decided : goal.returns-in_ok-customer_text-in-Ok-Some-clause-decided
returns-in_ok-customer_text-in-Ok-Some-clause-decided g c = accepted_told _ _ c.accepted.ensures

pub returns-in-Ok-None-clause-decided : goal.returns-in-Ok-None-clause-decided
returns-in-Ok-None-clause-decided g c = refused_told _ (Decision NoCustomer) c.refused.ensures refl
