-- Whose drawer's an entry is, and what is printed of a drawer.
use Rattle.std.specs.Prelude.{◌≡◌, ◌==◌, ◌-◌, ⊤, ℕ, nat_le, Bool, if◌then◌else◌, List, [], ◌∷◌, ◌++◌, map, filter, Option, None, codes, decimal}
use Rattle.sqlite.specs.State.{State}
use Rattle.shop_model.specs.Calendar.{Moment}
use Rattle.shop_model.specs.Values.{Text}
use Rattle.till_book.specs.Drawer.{Came, IsSince}
use Rattle.till_book.specs.Journal.{Journal}
use Rattle.till_book.specs.Steps.{Rests}
use Rattle.till_book.specs.Tallies.{IsTally}
use Rattle.till_book.specs.declared.drawer.Counted.{Counted}
use Rattle.till_book.specs.declared.drawer.DrawerRows.{DrawerRows}
use Rattle.till_book.specs.declared.sums.StaffSum.{StaffSum}
use Rattle.till_book.specs.declared.sums.Tally.{Tally}
use Rattle.till_shows.specs.Drawers.{came_text, taken_text, all_text, closing_text}
use Rattle.till_words.specs.declared.words.Drawer.{Drawer}
use Rattle.till_words.specs.declared.words.Drawer.TheVariants as asked
use Rattle.till_work.specs.declared.place.Place.{Place}
use Rattle.till_cashier.specs.declared.drawers.Change.{Change}
use Rattle.till_cashier.specs.Saying.{ended}

-- ---- whose an entry is

-- The drawer of the entry of that number: the last change that isn't after the entry says it. If there is none, it is the drawer that is found already.
abbrev pub drawer_at : ℕ → List Change → ℕ → ℕ
drawer_at found [] number = found
drawer_at found (it ∷ changes) number = drawer_at (if nat_le it.from number then it.drawer else found) changes number

abbrev pub is_of : List Change → ℕ → Came → Bool
is_of changes drawer it = drawer_at 0 changes it.0 == drawer

-- how the entries of the drawer are counted, in their order
abbrev pub own_of : List Change → ℕ → List Came → List Counted
own_of changes drawer came = map (λ (it : Came). it.1) (filter (is_of changes drawer) came)

-- a closing that was never knows no reply, and no settlement
abbrev pub IsFirst : Option Moment → ℕ → List ℕ → Type 0
IsFirst last n known = last ≡ None → (n ≡ 0) × (known ≡ [])

-- The sums are of all entries of the drawer that came since a closing. If there was none, they are of all its entries.
abbrev pub AreSums : List Change → ℕ → Option Moment → Tally → Journal → Type 0
AreSums changes drawer last tally journal =
    (n : ℕ) × (known : List ℕ) × (rows : DrawerRows) × IsFirst last n known × IsSince n known rows journal
    × IsTally (own_of changes drawer rows.came.items) tally

-- ---- what is printed of them

abbrev pub taken_lines : List StaffSum → Text
taken_lines [] = []
taken_lines (it ∷ sums) = ended (taken_text it.staff it.cents) ++ taken_lines sums

-- which drawer it is, unless it is the book's own
abbrev pub named_text : ℕ → Text
named_text drawer = if drawer == 0 then [] else ended (codes "drawer " ++ decimal drawer)

-- the drawer, the moment of its last closing, how many entries wait, and the sums
abbrev pub sums_text : ℕ → Option Moment → ℕ → Tally → Text
sums_text drawer last waiting tally =
    named_text drawer
    ++ (ended (came_text last tally.rents tally.returns tally.refused waiting) ++ (taken_lines tally.staff.items ++ ended (all_text tally.paid)))

abbrev pub waiting_at : Place → ℕ
waiting_at place = place.entries - place.replies

-- The text says these sums. They are of the drawer that it names, by the changes of drawers that were read.
abbrev pub SaysSums : Place → State → Tally → Text → Type 0
SaysSums place s tally text =
    (last : Option Moment) × (changes : List Change) × (drawer : ℕ) × (text ≡ sums_text drawer last (waiting_at place) tally)
    × ((journal : Journal) → Rests s journal → AreSums changes drawer last tally journal)

-- What `day` prints: the sums of a drawer's entries since a closing. If that closes the drawer, the expected sum is what they are in all. Of closings that
-- are shown nothing is said here.
abbrev pub SaysDay : Drawer → Place → State → Text → ℕ → Type 0
SaysDay asked.Since place s text status = (status ≡ 0) × ((tally : Tally) × SaysSums place s tally text)
SaysDay (asked.Close counted) place s text status =
    (status ≡ 0)
    × ((tally : Tally) × (sums : Text) × (at : Moment) × SaysSums place s tally sums × (text ≡ sums ++ ended (closing_text at tally.paid counted)))
SaysDay (asked.Closings day) place s text status = ⊤
