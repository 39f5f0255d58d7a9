-- The rental of a copy by its last accepted rent and later returns, and the customer of a rental.
use Rattle.sql_rows.proofs.Common.{◌≡◌, ◌∙◌, ℕ, Bool, true, false, List, Option, Some, None, option_map, refl, sym, ap, State, if◌then◌else◌}
use Rattle.shop_model.specs.Values.{Command}
use Rattle.till_book.specs.Saying.{Say}
use Rattle.till_book.specs.Marks.{Rented, Returned, rented_in, returned_in}
use Rattle.till_book.specs.Journal.{Journal, Finds, entries_in}
use Rattle.till_book.specs.Held.{last_rent, seen_rent, is_returned_after, is_returned, unless_returned, held_in, seen_held, held_if}
use Rattle.till_book.specs.Register.{IsHeld}
use Rattle.till_book.specs.declared.rents.HeldRental.{HeldRental}
use Rattle.till_book.specs.declared.rents.RentRow.{RentRow}
use Rattle.till_book.proofs.InOrder.{register_is_held}

by_rent : (rent : RentRow) (returns : List Returned) (o : Option Rented) → Some rent ≡ option_map seen_rent o
    → held_if rent (is_returned_after rent.rental rent.number returns) ≡ option_map seen_held (unless_returned returns o)
by_rent rent returns None e = absurd (clash e)
  where
    clash : ◌≡◌ {A = Option RentRow} (Some rent) None → ⊥
    clash e = cc
by_rent rent returns (Some r) e = ap (λ (it : RentRow). held_if it (is_returned_after it.rental it.number returns)) (unwrapped e) ∙ go (is_returned returns r)
  where
    unwrapped : Some rent ≡ Some (seen_rent r) → rent ≡ seen_rent r
    unwrapped e = cc

    go : (b : Bool) → held_if (seen_rent r) b ≡ option_map seen_held (if b then None else Some r)
    go true = refl
    go false = refl

by_none : (returns : List Returned) (o : Option Rented) → None ≡ option_map seen_rent o → None ≡ option_map seen_held (unless_returned returns o)
by_none returns None e = refl
by_none returns (Some r) e = absurd (clash e)
  where
    clash : ◌≡◌ {A = Option RentRow} None (Some (seen_rent r)) → ⊥
    clash e = cc

pub held_some : (copy : ℕ) (rent : RentRow) (it : Option HeldRental) (old one new : State)
    → Finds (λ journal.
    (commands : List Command) → Say journal.entries commands
    → Some rent ≡ option_map seen_rent (last_rent copy (rented_in (entries_in commands journal))))
    old one
    → Finds (λ journal.
    (commands : List Command) → Say journal.entries commands
    → it ≡ held_if rent (is_returned_after rent.rental rent.number (returned_in (entries_in commands journal))))
    one new
    → Finds (IsHeld copy it) old new
held_some copy rent it old one new first second journal holds =
    let last = first journal holds in
    let told = second journal last.0 in (
      told.0,
      λ commands say.
          let is : it ≡ option_map seen_held (held_in copy (entries_in commands journal)) =
          told.1 commands say
          ∙ by_rent rent (returned_in (entries_in commands journal)) (last_rent copy (rented_in (entries_in commands journal))) (last.1 commands say) in
          (register_is_held copy it journal commands holds.stands.is.once is, is),
    )

pub held_none : (copy : ℕ) (old new : State)
    → Finds (λ journal.
    (commands : List Command) → Say journal.entries commands → None ≡ option_map seen_rent (last_rent copy (rented_in (entries_in commands journal))))
    old new
    → Finds (IsHeld copy None) old new
held_none copy old new first journal holds =
    let last = first journal holds in (
      last.0,
      λ commands say.
          let is : None ≡ option_map seen_held (held_in copy (entries_in commands journal)) =
          by_none (returned_in (entries_in commands journal)) (last_rent copy (rented_in (entries_in commands journal))) (last.1 commands say) in
          (register_is_held copy None journal commands holds.stands.is.once is, is),
    )

pub renter_is : (rent : Option RentRow) (it : Option ℕ) (o : Option Rented) → it ≡ option_map (λ (row : RentRow). row.customer) rent
    → rent ≡ option_map seen_rent o → it ≡ option_map (λ (r : Rented). r.customer) o
renter_is rent it None is same = is ∙ ap (option_map (λ (row : RentRow). row.customer)) same
renter_is rent it (Some r) is same = is ∙ ap (option_map (λ (row : RentRow). row.customer)) same
