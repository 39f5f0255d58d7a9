-- The register of a journal.
use Rattle.std.specs.Prelude.{◌≡◌, ℕ, List, Option, option_map}
use Rattle.shop_model.specs.Values.{Command}
use Rattle.till_model.specs.Settled.{book_entries}
use Rattle.till_model.specs.Register.{rental_of}
use Rattle.till_book.specs.Saying.{Say}
use Rattle.till_book.specs.Journal.{Journal, entries_in}
use Rattle.till_book.specs.Read.{in_order}
use Rattle.till_book.specs.Marks.{Rented, rented_in}
use Rattle.till_book.specs.Held.{held_in, rent_named, seen_held}
use Rattle.till_book.specs.declared.rents.HeldRental.{HeldRental}

-- The copy's rental is the register's of the journal's entries and replies, and the customer is the one who rented it.
abbrev pub IsHeld : ℕ → Option HeldRental → Journal → Type 0
IsHeld copy it journal =
    (commands : List Command) → Say journal.entries commands
    → (option_map (λ (held : HeldRental). held.rental) it ≡ rental_of copy (book_entries commands journal.replies (in_order journal.settled)))
    × (it ≡ option_map seen_held (held_in copy (entries_in commands journal)))

-- the customer of the last accepted rent whose reply names that rental
abbrev pub IsRenter : ℕ → Option ℕ → Journal → Type 0
IsRenter rental it journal =
    (commands : List Command) → Say journal.entries commands
    → it ≡ option_map (λ (rent : Rented). rent.customer) (rent_named rental (rented_in (entries_in commands journal)))
