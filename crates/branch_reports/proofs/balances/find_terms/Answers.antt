use Rattle.shop_schema.proofs.Common.{◌≡◌, ◌∙◌, List, map, sym, ap, take_all, done, map-map, Rental, Terms}
use Rattle.sql_rows.proofs.Chaining.{one_call}
use Rattle.shop_store.specs.declared.termed.TermedRental.{TermedRental}
use Rattle.shop_store.specs.Seen.{seen_termed}
use Rattle.balance_rule.specs.declared.rows.RentalTerms.{RentalTerms}
use Rattle.balance_rule.specs.Balance.{terms_of}
use Rattle.branch_reports.proofs.balances.find_terms.Goals as goal

abbrev charged : TermedRental → RentalTerms
charged row = terms_of (seen_termed row)

pub returns-clause-does : goal.returns-clause-does
returns-clause-does g c = done (one_call c.in-Ok.ensures.does) (λ said books holds held.
    let found = said books holds held in
    let rows = c.in-Ok.rows.items in
    let all : c.loop-row.terms.items ≡ map charged rows =
    c.loop-row.invariant
    ∙ ap (map charged) (take_all c.loop-row.row-index c.deref-row-items.result.now c.loop-row-test.false ∙ c.deref-row-items.ensures.value) in
    (found.0, all ∙ sym (map-map terms_of seen_termed rows) ∙ ap (λ (ts : List (Rental × Terms)). map terms_of ts) found.1))
