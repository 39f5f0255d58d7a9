-- What the drawer has in all, and by members of staff.
use Rattle.std.specs.Prelude.{◌≡◌, ℕ, if◌then◌else◌, List, [], ◌∷◌, ◌++◌, map}
use Rattle.shop_model.specs.Rows.{total}
use Rattle.till_book.specs.Drawer.{cents_of, cents_by, is_among}
use Rattle.till_book.specs.declared.drawer.Counted.{Counted}
use Rattle.till_book.specs.declared.drawer.Counted.TheVariants as counted
use Rattle.till_book.specs.declared.sums.Worth.{Worth}
use Rattle.till_book.specs.declared.sums.Worth.TheVariants as worth
use Rattle.till_book.specs.declared.sums.StaffSum.{StaffSum}
use Rattle.till_book.specs.declared.sums.Tally.{Tally}

-- 1 for an accepted rent
abbrev pub rents_of : Counted → ℕ
rents_of counted.Rented = 1
rents_of (counted.Paid staff cents) = 0
rents_of counted.Returned = 0
rents_of counted.Other = 0
rents_of counted.Refused = 0

-- 1 for an accepted return
abbrev pub returns_of : Counted → ℕ
returns_of counted.Returned = 1
returns_of (counted.Paid staff cents) = 0
returns_of counted.Rented = 0
returns_of counted.Other = 0
returns_of counted.Refused = 0

-- 1 for a refused entry
abbrev pub refusals_of : Counted → ℕ
refusals_of counted.Refused = 1
refusals_of (counted.Paid staff cents) = 0
refusals_of counted.Rented = 0
refusals_of counted.Returned = 0
refusals_of counted.Other = 0

abbrev pub worth_as : Worth → Counted → ℕ
worth_as worth.Cents it = cents_of it
worth_as (worth.CentsBy who) it = cents_by who it
worth_as worth.Rents it = rents_of it
worth_as worth.Returns it = returns_of it
worth_as worth.Refusals it = refusals_of it

-- the members of staff, with the payment's if it is somebody else's
abbrev pub with_staff : List ℕ → Counted → List ℕ
with_staff found (counted.Paid staff cents) = if is_among staff found then found else found ++ staff ∷ []
with_staff found counted.Rented = found
with_staff found counted.Returned = found
with_staff found counted.Other = found
with_staff found counted.Refused = found

-- who took payments, each once, after those found already
abbrev pub staff_in : List ℕ → List Counted → List ℕ
staff_in found [] = found
staff_in found (it ∷ items) = staff_in (with_staff found it) items

abbrev pub staff_sum : List Counted → ℕ → StaffSum
staff_sum items who = record { staff = who; cents = total (cents_by who) items }

-- each sum is of all that was counted, and each member of staff who took a payment has one
pub record IsTally (items : List Counted) (tally : Tally) : Type 0 where
  pub staff : tally.staff.items ≡ map (staff_sum items) (staff_in [] items)
  pub paid : tally.paid ≡ total cents_of items
  pub rents : tally.rents ≡ total rents_of items
  pub returns : tally.returns ≡ total returns_of items
  pub refused : tally.refused ≡ total refusals_of items
