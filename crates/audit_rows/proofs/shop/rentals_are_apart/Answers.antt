use Rattle.shop_types.proofs.Common.{◌∷◌, ◌∙◌, ap, sym, bytes_eq, moment_text, are_different, Rentals, seen_rental}
use Rattle.audit_rows.specs.Tables.{CheckedOf}
use Rattle.audit_rows.specs.declared.shop.RentalKey.{RentalKey}
use Rattle.audit_rows.proofs.Keys.{different-map}
use Rattle.audit_rows.proofs.ShopLemmas.{apart_of_rows}
use Rattle.audit_rows.proofs.shop.rentals_are_apart.Goals as goal

pub returns : goal.returns
returns c =
    c.are_distinct.ensures.distinct ∙ sym (different-map bytes_eq (λ (row : RentalKey). row.copy ∷ row.customer ∷ row.rented) c.in_ok-keys.keys.items)
    ∙ ap (are_different bytes_eq) c.in_ok-keys.ensures.keys
    ∙ apart_of_rows (λ a b p q e. c.moment_texts_are_one_to_one.ensures a b (moment_text b) (p, e) (q, (λ i. moment_text b)))
    (λ (row : CheckedOf Rentals). seen_rental row.it) c.args.rentals.now c.in_ok-keys.ensures.moments
