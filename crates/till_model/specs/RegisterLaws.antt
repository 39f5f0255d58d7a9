-- The laws of the register.
use Rattle.std.specs.Prelude.{◌≡◌, ◌≢◌, ◌↔◌, ℕ, ◌+◌, ◌≤◌, ◌==◌, Bool, true, List, [], ◌∷◌, ◌++◌, length, slice_get, Some}
use Rattle.std.specs.List.{AllByRecursion, list_any}
use Rattle.shop_types.specs.Numbers.{is_row_number}
use Rattle.shop_model.specs.Values.{Rent, TakeBack, Rental, Rules, Command}
use Rattle.shop_model.specs.Rows.{at}
use Rattle.shop_model.specs.Shop.{Shop}
use Rattle.shop_model.specs.Verdict.{Accepted, verdict}
use Rattle.shop_model.specs.Machine.{Do, Input, Own, State, moved, state_after, reply_text}
use Rattle.shop_model.specs.Answers.{Answer, accepted_answer}
use Rattle.till_model.specs.Tills.{Entry}
use Rattle.till_model.specs.Register.{rental_body, rental_of}

-- the entry is an accepted rent of that copy, and its reply gives that rental
abbrev pub IsRentOf : ℕ → ℕ → Entry → Type 0
IsRentOf copy rental entry =
    (customer : ℕ) × (is_row_number rental ≡ true) × (entry.command.act ≡ Rent customer copy) × (entry.reply ≡ Some (accepted_answer (rental_body rental)))

-- the entry is an accepted return of that rental
abbrev pub IsReturnOf : ℕ → Entry → Type 0
IsReturnOf rental entry = (answer : Answer) × (entry.command.act ≡ TakeBack rental) × (entry.reply ≡ Some answer) × (answer.status ≡ 200)

-- the entry is no accepted return of the rental, and no accepted rent of the copy
abbrev pub LeavesIt : ℕ → ℕ → Entry → Type 0
LeavesIt copy rental entry = (¬ IsReturnOf rental entry) × ((other : ℕ) → ¬ IsRentOf copy other entry)

-- The copy's last accepted rent got that rental, and no later entry is an accepted return of that rental.
pub record IsLastRent (copy rental : ℕ) (entries : List Entry) : Type 0 where
  pub front : List Entry
  pub rent : Entry
  pub behind : List Entry
  pub is : entries ≡ front ++ rent ∷ behind
  pub rented : IsRentOf copy rental rent
  pub left : AllByRecursion (LeavesIt copy rental) behind

abbrev pub RegisterIsTheLastRent : Type 0
RegisterIsTheLastRent = (copy rental : ℕ) (entries : List Entry) → rental_of copy entries ≡ Some rental ↔ IsLastRent copy rental entries

-- The entries of the book `before` are in the book `after` at the same places, with the replies that they had.
abbrev pub BecameBook : List Entry → List Entry → Type 0
BecameBook before after =
    (i : ℕ) (entry : Entry) → slice_get before i ≡ Some entry
    → (later : Entry) × (slice_get after i ≡ Some later) × (later.command ≡ entry.command)
    × ((answer : Answer) → entry.reply ≡ Some answer → later.reply ≡ Some answer)

-- One of the entries `front` is an accepted rent of the copy with that rental, and after the return the register lacks the rental.
pub record TookBack (copy rental : ℕ) (front : List Entry) (return : Entry) : Type 0 where
  pub place : ℕ
  pub rent : Entry
  pub found : slice_get front place ≡ Some rent
  pub rented : IsRentOf copy rental rent
  pub gone : rental_of copy (front ++ return ∷ []) ≢ Some rental

-- `before` is the book when the return was entered, `front` is every entry before the return in the final book
abbrev pub ReturnsTookBack : Type 0
ReturnsTookBack =
    (copy rental : ℕ) (before front behind : List Entry) (return : Entry) → rental_of copy before ≡ Some rental → length before ≤ length front
    → BecameBook before (front ++ return ∷ behind) → IsReturnOf rental return → TookBack copy rental front return

-- ---- the same at the branch

-- the branch has a rental of that number, and it is of that copy
abbrev pub is_rental_of : ℕ → ℕ → Shop → Bool
is_rental_of copy n shop = list_any (λ (it : Rental). it.copy == copy) (at n shop.rentals)

-- The reply to an accepted rent gives the number of a rental of its copy. That rental stays one of that copy, whatever the branch gets later.
abbrev pub RentsStayOfTheirCopies : Type 0
RentsStayOfTheirCopies =
    (rules : Rules) (b : ℕ) (inputs : List Input) (s : State) (command : Command) (customer copy : ℕ)
    → command.act ≡ Rent customer copy → verdict rules b s.catalogue s.shop command ≡ Accepted
    → (reply_text rules command s.shop ≡ rental_body (length s.shop.rentals + 1))
    × (is_rental_of copy (length s.shop.rentals + 1) (state_after rules b inputs (moved rules b (Own (Do command)) s)).shop ≡ true)
