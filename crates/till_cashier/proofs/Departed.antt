-- Where a copy is that left by the book.
use Rattle.std.proofs.Common.{◌≡◌, ℕ, Bool, true, false, List, Option, None, Some, Result, Ok, Err, IfOk, IfSome, inl, inr, subst, sym}
use Rattle.std.specs.Prelude.{◌==◌, if◌then◌else◌}
use Rattle.std.specs.List.{list_any}
use Rattle.sqlite.specs.State.{State}
use Rattle.shop_model.specs.Answers.{Answer}
use Rattle.shop_model.specs.Calendar.{Moment}
use Rattle.shop_model.specs.Values.{Text, Command, Ask, InStock, HeldBy, Act, AddCustomer, SetActive, Rent, TakeBack, Pay, Import, Dispatch, Receive, Scrap}
use Rattle.till_book.specs.Ends.{IsReadAfter}
use Rattle.till_book.specs.Steps as book
use Rattle.till_book.specs.declared.lists.BookRows.{BookRows}
use Rattle.till_words.specs.declared.words.TillLook.{TillLook}
use Rattle.till_words.specs.declared.words.TillLook.TheVariants as look
use Rattle.till_cashier.specs.declared.fault.TillFault.{TillFault}
use Rattle.till_cashier.specs.declared.stock.Whereabouts.{Whereabouts}
use Rattle.till_cashier.specs.declared.stock.Whereabouts.TheVariants as it
use Rattle.till_cashier.specs.Again.{SaysAt}
use Rattle.till_cashier.specs.Looking.{AddsNobody, AddsPlace, AddsView, AddsWhere, IsPlace, IsPlaceLine}
use Rattle.till_cashier.specs.Stocked.{HasLeft}
use Rattle.till_cashier.specs.Whereabouts.{HasDeparted, IsAcceptedAt, IsDeparture, departure, sent_if}
use Rattle.till_cashier.proofs.Late.{late_before}
use Rattle.till_cashier.proofs.Repeating.{by_same}

none_some : {A : Type 0} (x : A) → ◌≡◌ {A = Option A} None (Some x) → ⊥
none_some x e = cc

some_same : {A : Type 0} (x y : A) → ◌≡◌ {A = Option A} (Some x) (Some y) → x ≡ y
some_same x y e = cc

-- ---- what a departure is

sent_left : (is : Bool) (to : ℕ) (at : Moment) (place : Whereabouts) → sent_if is to at ≡ Some place → HasLeft place
sent_left true to at place same = subst HasLeft (some_same (it.Sent to at) place same) tt
sent_left false to at place same = absurd (none_some place same)

scrapped_left : (is : Bool) (at : Moment) (place : Whereabouts) → (if is then Some (it.Scrapped at) else None) ≡ Some place → HasLeft place
scrapped_left true at place same = subst HasLeft (some_same (it.Scrapped at) place same) tt
scrapped_left false at place same = absurd (none_some place same)

pub departure_left : (copy : ℕ) (at : Moment) (act : Act) (place : Whereabouts) → departure copy at act ≡ Some place → HasLeft place
departure_left copy at (AddCustomer new) place same = absurd (none_some place same)
departure_left copy at (SetActive customer active) place same = absurd (none_some place same)
departure_left copy at (Rent customer rented) place same = absurd (none_some place same)
departure_left copy at (TakeBack rental) place same = absurd (none_some place same)
departure_left copy at (Pay customer rental amount) place same = absurd (none_some place same)
departure_left copy at (Import lot file) place same = absurd (none_some place same)
departure_left copy at (Dispatch to copies) place same = sent_left (list_any (λ sent. sent == copy) copies) to at place same
departure_left copy at (Receive from number missing) place same = absurd (none_some place same)
departure_left copy at (Scrap scrapped) place same = scrapped_left (scrapped == copy) at place same

module _ (OnWall : Moment → Moment → Type 0) (copy : ℕ) where
  -- ---- what was read

  -- an accepted entry that brings the copy out of the shop
  pub departs : (first at : ℕ) (replies : List Answer) (settled : List (ℕ × Answer)) (entries : List (List ℕ)) (command : Command) (shown : Moment)
      (o : Option Whereabouts) → SaysAt entries at command → IsAcceptedAt first replies settled at → OnWall command.moment shown
      → o ≡ departure copy shown command.act → IfSome o (λ place. IsDeparture OnWall copy place first replies settled entries)
  departs first at replies settled entries command shown (Some place) says accepted on_wall same =
      record { at = at; command = command; says = says; accepted = accepted; shown = shown; on_wall = on_wall; left = sym same }
  departs first at replies settled entries command shown None says accepted on_wall same = tt

  pub departs_left : (place : Whereabouts) (first : ℕ) (replies : List Answer) (settled : List (ℕ × Answer)) (entries : List (List ℕ))
      → IsDeparture OnWall copy place first replies settled entries → HasLeft place
  departs_left place first replies settled entries is = departure_left copy is.shown is.command.act place is.left

  all_left : (o : Option Whereabouts) (first : ℕ) (replies : List Answer) (settled : List (ℕ × Answer)) (entries : List (List ℕ))
      → IfSome o (λ place. IsDeparture OnWall copy place first replies settled entries) → IfSome o HasLeft
  all_left (Some place) first replies settled entries is = departs_left place first replies settled entries is
  all_left None first replies settled entries is = tt

  pub read_left : (r : Result (Option Whereabouts) TillFault) (first : ℕ) (replies : List Answer) (settled : List (ℕ × Answer)) (entries : List (List ℕ))
      → IfOk r (λ o. IfSome o (λ place. IsDeparture OnWall copy place first replies settled entries)) → IfOk r (λ o. IfSome o HasLeft)
  read_left (Ok o) first replies settled entries is = all_left o first replies settled entries is
  read_left (Err e) first replies settled entries is = tt

  has_departed : (place : Whereabouts) (number first : ℕ) (rows : BookRows) (old new : State) → book.FindsAtRest (IsReadAfter number rows) old new
      → first ≡ number → IsDeparture OnWall copy place first rows.replies rows.settled rows.entries → HasDeparted OnWall old copy place
  has_departed place number first rows old new finds same is journal rests =
      let read : IsReadAfter number rows journal = (finds journal rests).1 in (
        number,
        by_same (λ (n : ℕ) (replies : List Answer) (settled : List (ℕ × Answer)) (entries : List (List ℕ)).
            IsDeparture OnWall copy place n replies settled entries) same read.replies read.settled read.entries is,
      )

  all_departed : (o : Option Whereabouts) (number first : ℕ) (rows : BookRows) (old new : State) → book.FindsAtRest (IsReadAfter number rows) old new
      → first ≡ number → IfSome o (λ place. IsDeparture OnWall copy place first rows.replies rows.settled rows.entries)
      → IfSome o (HasDeparted OnWall old copy)
  all_departed (Some place) number first rows old new finds same is = has_departed place number first rows old new finds same is
  all_departed None number first rows old new finds same is = tt

  pub read_departed : (r : Result (Option Whereabouts) TillFault) (number first : ℕ) (rows : BookRows) (old new : State)
      → book.FindsAtRest (IsReadAfter number rows) old new → first ≡ number
      → IfOk r (λ o. IfSome o (λ place. IsDeparture OnWall copy place first rows.replies rows.settled rows.entries))
      → IfOk r (λ o. IfSome o (HasDeparted OnWall old copy))
  read_departed (Ok o) number first rows old new finds same is = all_departed o number first rows old new finds same is
  read_departed (Err e) number first rows old new finds same is = tt

  -- ---- a place

  pub left_place : (Asks : Ask → Answer → Type 0) (s : State) (sheet : Text) (place : Whereabouts) → HasLeft place → HasDeparted OnWall s copy place
      → IsPlace Asks OnWall s sheet copy place
  left_place Asks s sheet it.Here left departed = absurd left
  left_place Asks s sheet (it.Sent to at) left departed = departed
  left_place Asks s sheet (it.Scrapped at) left departed = departed
  left_place Asks s sheet it.Gone left departed = absurd left

-- ---- the book as it was before a look at it

module _ (Asks : Ask → Answer → Type 0) (OnWall : Moment → Moment → Type 0) (s t : State) (stays : book.Stays s t) (sheet : Text) where
  place_before : (copy : ℕ) (place : Whereabouts) → IsPlace Asks OnWall t sheet copy place → IsPlace Asks OnWall s sheet copy place
  place_before copy it.Here is = is
  place_before copy (it.Sent to at) is = λ journal rests. is journal (stays journal rests)
  place_before copy (it.Scrapped at) is = λ journal rests. is journal (stays journal rests)
  place_before copy it.Gone is = is

  line_before : (copy : ℕ) (line : Text) → IsPlaceLine Asks OnWall t sheet copy line → IsPlaceLine Asks OnWall s sheet copy line
  line_before copy line (inl is) = inl (is.0, place_before copy is.0 is.1, is.2)
  line_before copy line (inr none) = inr none

  module _ (ask : Ask) (copy : ℕ) (old : Text) (was : ℕ) (new : Text) (status : ℕ) where
    adds_before : (now : ℕ) → AddsPlace Asks OnWall t sheet ask copy old now new status → AddsPlace Asks OnWall s sheet ask copy old now new status
    adds_before now (inl line) = inl (line.0, line_before copy line.0 line.1, line.2, line.3)
    adds_before now (inr look) = inr look

    nobody_before : AddsNobody Asks OnWall t sheet ask copy old was new status → AddsNobody Asks OnWall s sheet ask copy old was new status
    nobody_before is = record { answer = is.answer; asked = is.asked; accepted = is.accepted; nobody = is.nobody; place = adds_before _ is.place }

    where_before : (json : Bool) → AddsWhere Asks OnWall t json sheet ask copy old was new status
        → AddsWhere Asks OnWall s json sheet ask copy old was new status
    where_before true is = is
    where_before false (inl held) = inl held
    where_before false (inr nobody) = inr (nobody_before nobody)

  pub looked_before : (shows : ℕ → Type 0) (last : Option Moment) (json : Bool) (asked : TillLook) (old : Text) (was : ℕ) (new : Text) (status : ℕ)
      → AddsView Asks OnWall t shows last json sheet asked old was new status → AddsView Asks OnWall s shows last json sheet asked old was new status
  looked_before shows last json (look.Customer customer) old was new status is = is
  looked_before shows last json (look.Customers part) old was new status is = is
  looked_before shows last json (look.Film film) old was new status is = is
  looked_before shows last json (look.Films part) old was new status is = is
  looked_before shows last json (look.InStock copy) old was new status is = where_before (InStock copy) copy old was new status json is
  looked_before shows last json (look.HeldBy copy) old was new status is = where_before (HeldBy copy) copy old was new status json is
  looked_before shows last json (look.Copies film) old was new status is = is
  looked_before shows last json (look.Balance customer) old was new status is = is
  looked_before shows last json look.Overdue old was new status is = late_before Asks s t stays sheet shows json old was new status is
  looked_before shows last json look.Arrivals old was new status is = is
  looked_before shows last json look.Sent old was new status is = is
  looked_before shows last json (look.Rewards purchases cents) old was new status is = is
  looked_before shows last json look.Sales old was new status is = is
