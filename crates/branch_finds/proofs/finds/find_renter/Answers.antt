use Rattle.shop_schema.proofs.Common.{◌∙◌, sym, ap, ℕ, Option, option_map, done, Rental, seen_rental}
use Rattle.sql_rows.proofs.Chaining.{one_call}
use Rattle.shop_store.specs.declared.rentals.RentalRow.{RentalRow}
use Rattle.branch_finds.proofs.Lookings.{head_of}
use Rattle.branch_finds.proofs.finds.find_renter.Goals as goal

abbrev told : Option RentalRow → Option ℕ
told o = option_map (λ (it : RentalRow). it.rental.customer) o

pub returns-in-Ok-Some-clause-does : goal.returns-in-Ok-Some-clause-does
returns-in-Ok-Some-clause-does g c = done (one_call c.in-Ok-Some.ensures.does) (λ said books holds held.
    let row = said books holds held in (
      row.0,
      sym (ap told c.in-Ok-Some.field-0-is) ∙ head_of (λ (it : RentalRow). seen_rental it.rental) (λ (it : Rental). it.customer) c.in-Ok-Some.field-0 _ row.1,
    ))

pub returns-in-Ok-None-clause-does : goal.returns-in-Ok-None-clause-does
returns-in-Ok-None-clause-does g c = done (one_call c.in-Ok-None.ensures.does) (λ said books holds held.
    let row = said books holds held in (
      row.0,
      sym (ap told c.in-Ok-None.field-0-is) ∙ head_of (λ (it : RentalRow). seen_rental it.rental) (λ (it : Rental). it.customer) c.in-Ok-None.field-0 _ row.1,
    ))
