-- Where a copy is that no customer has.
use Rattle.std.specs.Prelude.{◌≡◌, ◌+◌, ◌==◌, ◌++◌, ℕ, Bool, List, drop, slice_get, Option, Some, None, codes, decimal, if◌then◌else◌}
use Rattle.std.specs.List.{list_any}
use Rattle.sqlite.specs.State.{State}
use Rattle.shop_model.specs.Answers.{Answer}
use Rattle.shop_model.specs.Calendar.{Moment}
use Rattle.shop_model.specs.Values.{Text, Act, Command, AddCustomer, SetActive, Rent, TakeBack, Pay, Import, Dispatch, Receive, Scrap}
use Rattle.till_model.specs.Settled.{accepted_of, or_reply}
use Rattle.till_book.specs.Ends.{settled_after}
use Rattle.till_book.specs.Journal.{Journal}
use Rattle.till_book.specs.Read.{in_order}
use Rattle.till_book.specs.Steps.{Rests}
use Rattle.till_shows.specs.Times.{moment_text}
use Rattle.till_cashier.specs.Again.{SaysAt}
use Rattle.till_cashier.specs.declared.stock.Whereabouts.{Whereabouts}
use Rattle.till_cashier.specs.declared.stock.Whereabouts.TheVariants as it

abbrev pub sent_if : Bool → ℕ → Moment → Option Whereabouts
sent_if is_sent to at = if is_sent then Some (it.Sent to at) else None

-- an accepted dispatch or scrap brings its copies out of the shop, and no other act does
abbrev pub departure : ℕ → Moment → Act → Option Whereabouts
departure copy at (AddCustomer new) = None
departure copy at (SetActive customer active) = None
departure copy at (Rent customer rented) = None
departure copy at (TakeBack rental) = None
departure copy at (Pay customer rental amount) = None
departure copy at (Import lot file) = None
departure copy at (Dispatch to copies) = sent_if (list_any (λ sent. sent == copy) copies) to at
departure copy at (Receive from number missing) = None
departure copy at (Scrap scrapped) = if scrapped == copy then Some (it.Scrapped at) else None

abbrev pub place_text : Whereabouts → Text
place_text it.Here = codes "is here"
place_text (it.Sent to at) = codes "was sent to branch " ++ (decimal to ++ (codes " (" ++ (moment_text at ++ codes ")")))
place_text (it.Scrapped at) = codes "was scrapped (" ++ (moment_text at ++ codes ")")
place_text it.Gone = codes "isn't here: it was sent off or scrapped"

abbrev pub whereabouts_text : ℕ → Whereabouts → Text
whereabouts_text copy place = codes "copy " ++ (decimal copy ++ (codes " " ++ place_text place))

-- ---- by the book

-- The entry at that place of those after a number was accepted. If it was sent once more and had acted, that is by the reply to that.
abbrev pub IsAcceptedAt : ℕ → List Answer → List (ℕ × Answer) → ℕ → Type 0
IsAcceptedAt first replies settled at =
    (answer : Answer) × (or_reply (accepted_of (first + at + 1) settled) (slice_get replies at) ≡ Some answer) × (answer.status ≡ 200)

-- One of the entries after that number brought the copy there, and was accepted. The moment is the entry's by the clock on the wall.
pub record IsDeparture (OnWall : Moment → Moment → Type 0) (copy : ℕ) (place : Whereabouts) (first : ℕ) (replies : List Answer) (settled : List (ℕ × Answer))
    (entries : List (List ℕ)) : Type 0 where
  pub at : ℕ
  pub command : Command
  pub says : SaysAt entries at command
  pub accepted : IsAcceptedAt first replies settled at
  pub shown : Moment
  pub on_wall : OnWall command.moment shown
  pub left : departure copy shown command.act ≡ Some place

-- so did an entry after some number, in each journal that the book stands for
abbrev pub HasDeparted : (Moment → Moment → Type 0) → State → ℕ → Whereabouts → Type 0
HasDeparted OnWall s copy place =
    (journal : Journal) → Rests s journal
    → (first : ℕ)
    × IsDeparture OnWall copy place first (drop first journal.replies) (in_order (settled_after first journal.settled)) (drop first journal.entries)
