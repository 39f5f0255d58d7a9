use Rattle.shop_types.proofs.Common.{◌==◌, ◌∙◌, sym, ap, map, list_any, at, Rental, Rentals, seen_rental}
use Rattle.audit_rows.specs.Tables.{CheckedOf}
use Rattle.audit_rows.proofs.ShopLemmas.{alone, at_found, at_missing}
use Rattle.audit_rows.proofs.links.is_rental_of.Goals as goal

pub returns-in-Some : goal.returns-in-Some
returns-in-Some c =
    let h = c.in-Some.ensures.lookup in
    (λ i. c.get-in-Some.ensures.value i == c.get-in-Some-2.ensures.value i) ∙ alone (c.in-Some.row.now.it.customer == c.args.customer)
    ∙ sym (ap (list_any (λ (it : Rental). it.customer == c.args.customer))
    (ap (λ n. at n (map (λ (row : CheckedOf Rentals). seen_rental row.it) c.args.rentals.now)) (sym c.get.ensures.value)
    ∙ at_found (λ (row : CheckedOf Rentals). seen_rental row.it) c.get.result c.get.ensures.bound c.args.rentals.now c.in-Some.row.now h.3.0 h.1))

pub returns-in-None : goal.returns-in-None
returns-in-None c =
    let h = c.in-None.ensures.lookup in
    sym (ap (list_any (λ (it : Rental). it.customer == c.args.customer))
    (ap (λ n. at n (map (λ (row : CheckedOf Rentals). seen_rental row.it) c.args.rentals.now)) (sym c.get.ensures.value)
    ∙ at_missing (λ (row : CheckedOf Rentals). seen_rental row.it) c.get.result c.get.ensures.bound c.args.rentals.now h.3))
