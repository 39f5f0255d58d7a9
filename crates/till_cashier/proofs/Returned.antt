-- Which rental a copy's return is of, by what was read.
use Rattle.std.proofs.Common.{inl, inr, ℕ, None, Some}
use Rattle.sqlite.specs.State.{State}
use Rattle.shop_model.specs.Values.{Text}
use Rattle.till_book.specs.Steps as book
use Rattle.till_book.specs.declared.rents.HeldRental.{HeldRental}
use Rattle.till_cashier.specs.Returns.{IsOnSheet, IsRegisteredIn, IsReturned}

-- the book stays while it is read
module _ (sheet : Text) (copy : ℕ) (held : HeldRental) (old read : State) (stays : book.Stays old read) where
  pub by_register : IsRegisteredIn copy (Some held) read → IsReturned sheet copy held old
  by_register is = inl (λ journal rests. is journal (stays journal rests))

  pub by_sheet : IsRegisteredIn copy None read → IsOnSheet sheet copy held → IsReturned sheet copy held old
  by_sheet lacks on = inr ((λ journal rests. lacks journal (stays journal rests)), on)
