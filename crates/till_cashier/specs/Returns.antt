-- Which rental a copy's return is of.
use Rattle.std.specs.Prelude.{◌≡◌, ◌⊎◌, ℕ, Option, None, Some}
use Rattle.sqlite.specs.State.{State}
use Rattle.shop_model.specs.Values.{Text}
use Rattle.till_book.specs.Journal.{Journal}
use Rattle.till_book.specs.Steps.{Rests}
use Rattle.till_book.specs.Register.{IsHeld}
use Rattle.till_book.specs.declared.rents.HeldRental.{HeldRental}
use Rattle.till_requests.specs.SheetRows.{Row, row_in_sheet}
use Rattle.till_cashier.specs.Word.{IsHeldIn}

-- that is what the register has of the copy, in each journal that the book stands for
abbrev pub IsRegisteredIn : ℕ → Option HeldRental → State → Type 0
IsRegisteredIn copy held s = (journal : Journal) → Rests s journal → IsHeld copy held journal

-- the copy's row of the sheet has that rental, and its customer
pub record IsOnSheet (sheet : Text) (copy : ℕ) (held : HeldRental) : Type 0 where
  pub row : Row
  pub found : row_in_sheet copy sheet ≡ Some (Some row)
  pub rental : row.rental ≡ Some held.rental
  pub customer : row.customer ≡ Some held.customer

-- the rental is the register's of the copy, or, if the register has none, the sheet's
abbrev pub IsReturned : Text → ℕ → HeldRental → State → Type 0
IsReturned sheet copy held s = IsHeldIn copy held s ⊎ (IsRegisteredIn copy None s × IsOnSheet sheet copy held)
