-- What a stop leaves in the midst of a word of head office, one step after another.
use Rattle.std.proofs.Common.{ℕ, List}
use Rattle.sqlite.specs.State.{State}
use Rattle.shop_model.specs.Values.{Command}
use Rattle.shop_model.specs.Answers.{Answer}
use Rattle.till_book.specs.Journal.{Journal}
use Rattle.till_book.specs.Steps as book
use Rattle.till_book.specs.Steps.{Rests}
use Rattle.till_work.specs.declared.place.Place.{Place}
use Rattle.till_work.specs.Desk.{HasPlace, Grows}
use Rattle.till_work.specs.Stops.{IsAny, IsLater, IsSettledAfter, Leaves}
use Rattle.till_work.proofs.Stops.{leaves_same, leaves_before, leaves_then, leaves_as, later_same, later_then, settled_is_later}
use Rattle.till_cashier.proofs.InTurn.{GrowsNone}
use Rattle.till_cashier.proofs.Stops.{grows_after}

module _ (Exchanged : List ℕ → Answer → Type 0) where
  -- nothing was done
  pub office_stays : (place : Place) (s : State) → Leaves (HasPlace place s) IsAny (IsLater Exchanged) s
  office_stays place s = leaves_same (HasPlace place s) IsAny (IsLater Exchanged) s (λ journal has. has.rests) (later_same Exchanged)

  -- the book was read
  pub office_read : (place : Place) (old new : State) → book.Stays old new → Leaves (HasPlace place old) IsAny (IsLater Exchanged) new
  office_read place old new stays =
      leaves_same (HasPlace place old) IsAny (IsLater Exchanged) new (λ journal has. stays journal has.rests) (later_same Exchanged)

  -- the book was read before the stop
  pub read_then : (place : Place) (old mid new : State) → book.Stays old mid → Leaves (HasPlace place mid) IsAny (IsLater Exchanged) new
      → Leaves (HasPlace place old) IsAny (IsLater Exchanged) new
  read_then place old mid new stays leaves =
      leaves_before (HasPlace place old) (HasPlace place mid) IsAny (IsLater Exchanged) new
      (λ journal has. record { rests = stays journal has.rests; entries = has.entries; replies = has.replies }) leaves

  -- earlier entries were sent once more
  pub settling_left : (place : Place) (old new : State) → Leaves (Rests old) IsAny (IsSettledAfter Exchanged) new
      → Leaves (HasPlace place old) IsAny (IsLater Exchanged) new
  settling_left place old new leaves =
      leaves_before (HasPlace place old) (Rests old) IsAny (IsLater Exchanged) new (λ journal has. has.rests)
      (leaves_as (Rests old) IsAny IsAny (IsSettledAfter Exchanged) (IsLater Exchanged) new (λ journal commands is. tt)
      (λ a b x y is it. (tt, settled_is_later Exchanged a b x y it)) leaves)

  pub none_grows : (before after : Place) (old new : State) → GrowsNone Exchanged before old after new → Grows Exchanged before old after new
  none_grows before after old new grows journal has =
      let it = grows journal has in record { journal = it.journal; has = it.has; extends = it.extends }

  -- the book grew before the stop
  pub grown_then : (before mid : Place) (old between new : State) → Grows Exchanged before old mid between
      → Leaves (HasPlace mid between) IsAny (IsLater Exchanged) new → Leaves (HasPlace before old) IsAny (IsLater Exchanged) new
  grown_then before mid old between new grows leaves =
      leaves_then (HasPlace before old) (HasPlace mid between) IsAny (IsLater Exchanged) new (later_then Exchanged)
      (grows_after Exchanged before mid old between grows) leaves
