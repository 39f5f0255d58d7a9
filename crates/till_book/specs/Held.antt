-- The rent that has a copy out, from the accepted rents and returns of a book.
use Rattle.std.specs.Prelude.{ℕ, ◌==◌, ◌&&◌, nat_lt, Bool, if◌then◌else◌, List, [], ◌∷◌, filter, Option, Some, None, option_map}
use Rattle.std.specs.List.{list_any}
use Rattle.till_model.specs.Tills.{Entry}
use Rattle.till_book.specs.Marks.{Rented, Returned, rented_in, returned_in}
use Rattle.till_book.specs.declared.rents.HeldRental.{HeldRental}
use Rattle.till_book.specs.declared.rents.RentRow.{RentRow}

-- the last item of a list, or the given one if the list is empty
abbrev pub last_or : {A : Type 0} → Option A → List A → Option A
last_or other [] = other
last_or other (x ∷ xs) = last_or (Some x) xs

-- an entry after that number is an accepted return of that rental
abbrev pub is_returned_after : ℕ → ℕ → List Returned → Bool
is_returned_after rental n returns = list_any (λ (it : Returned). it.rental == rental && nat_lt n it.number) returns

abbrev pub is_returned : List Returned → Rented → Bool
is_returned returns rent = is_returned_after rent.rental rent.number returns

abbrev pub unless_returned : List Returned → Option Rented → Option Rented
unless_returned returns None = None
unless_returned returns (Some rent) = if is_returned returns rent then None else Some rent

abbrev pub is_of_copy : ℕ → Rented → Bool
is_of_copy copy rent = rent.copy == copy

abbrev pub last_rent : ℕ → List Rented → Option Rented
last_rent copy rents = last_or None (filter (is_of_copy copy) rents)

-- the copy's last accepted rent, unless a later entry is an accepted return of its rental
abbrev pub held_in : ℕ → List Entry → Option Rented
held_in copy entries = unless_returned (returned_in entries) (last_rent copy (rented_in entries))

abbrev pub is_named : ℕ → Rented → Bool
is_named rental rent = rent.rental == rental

-- the last accepted rent whose reply names that rental
abbrev pub rent_named : ℕ → List Rented → Option Rented
rent_named rental rents = last_or None (filter (is_named rental) rents)

abbrev pub seen_rent : Rented → RentRow
seen_rent rent = record { number = rent.number; rental = rent.rental; customer = rent.customer }

-- the rental and the customer of a rent
abbrev pub seen_held : Rented → HeldRental
seen_held rent = record { rental = rent.rental; customer = rent.customer }

-- the rental and the customer of a rent that was read, unless the rental came back
abbrev pub held_if : RentRow → Bool → Option HeldRental
held_if rent is_back = if is_back then None else Some (record { rental = rent.rental; customer = rent.customer })
