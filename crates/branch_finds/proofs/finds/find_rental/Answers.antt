use Rattle.shop_schema.proofs.Common.{◌∙◌, sym, ap, ℕ, Bool, Option, Some, option_map, is_some, done, within_none, Rental, seen_rental}
use Rattle.sql_rows.proofs.Chaining.{one_call}
use Rattle.shop_store.specs.declared.rentals.RentalRow.{RentalRow}
use Rattle.branch_finds.proofs.Lookings.{head_of}
use Rattle.branch_finds.proofs.finds.find_rental.Goals as goal

abbrev shown : Rental → ℕ × ℕ × Bool
shown it = (it.customer, it.copy, is_some it.returned)

abbrev told : Option RentalRow → Option (ℕ × ℕ × Bool)
told o = option_map (λ (it : RentalRow). shown (seen_rental it.rental)) o

pub returns-in_default : goal.returns-in_default
returns-in_default g c = rw c.in_default.is (record { inside = within_none; says = λ clean books holds held. (holds, tt) })

pub returns-in-Some-2 : goal.returns-in-Some-2
returns-in-Some-2 g c = rw c.in-Some.is (done (one_call c.in_ok-row.ensures.does) (λ said books holds held.
    let row = said books holds held in (
      row.0,
      ap Some c.rental_found.ensures ∙ sym (ap told c.in-Some-2.is) ∙ head_of (λ (it : RentalRow). seen_rental it.rental) shown c.in_ok-row.field-0 _ row.1,
    )))

pub returns-in-None : goal.returns-in-None
returns-in-None g c = rw c.in-Some.is (done (one_call c.in_ok-row.ensures.does) (λ said books holds held.
    let row = said books holds held in
    (row.0, sym (ap told c.in-None.is) ∙ head_of (λ (it : RentalRow). seen_rental it.rental) shown c.in_ok-row.field-0 _ row.1)))
