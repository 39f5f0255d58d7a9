-- The moment of a book's last entry.
use Rattle.std.specs.Prelude.{◌≡◌, ◌<◌, ℕ, List, Option, Some, None}
use Rattle.sqlite.specs.State.{State}
use Rattle.shop_model.specs.Calendar.{Moment, seconds_of}
use Rattle.shop_model.specs.Values.{Command}
use Rattle.till_book.specs.Held.{last_or}
use Rattle.till_book.specs.Journal.{Journal}
use Rattle.till_book.specs.Saying.{Says, Say}
use Rattle.till_book.specs.Steps.{Rests}

-- whatever command the last entry says, that is its moment
abbrev pub IsMomentOf : Option Moment → Option (List ℕ) → Type 0
IsMomentOf at None = at ≡ None
IsMomentOf at (Some request) = (command : Command) → Says request command → at ≡ Some command.moment

-- That is the moment of the book's last command, if it has one. Of a book that says no commands, as head office's, nothing is said.
abbrev pub TellsMoment : Option Moment → State → Type 0
TellsMoment at s =
    (journal : Journal) (commands : List Command) → Rests s journal → Say journal.entries commands
    → (last : Command) → last_or None commands ≡ Some last → at ≡ Some last.moment

-- that second is later than each moment of the book's last command
abbrev pub PassesLast : ℕ → State → Type 0
PassesLast second s =
    (journal : Journal) (commands : List Command) → Rests s journal → Say journal.entries commands
    → (last : Command) → last_or None commands ≡ Some last → seconds_of last.moment < second
