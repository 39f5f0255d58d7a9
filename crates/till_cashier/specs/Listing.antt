-- What a list of the book's entries shows.
use Rattle.std.specs.Prelude.{◌≡◌, ◌+◌, ◌-◌, ◌⊎◌, ⊤, ℕ, ℤ, Bool, true, false, List, [], ◌∷◌, ◌++◌, drop, length, slice_get, Option, None, Some, codes, decimal}
use Rattle.sqlite.specs.State.{State}
use Rattle.jiff_tz.specs.declared.timezone.TimeZone.{TimeZone}
use Rattle.shop_model.specs.Answers.{Answer}
use Rattle.shop_model.specs.Calendar.{Moment}
use Rattle.shop_model.specs.Refusals.{problem_name}
use Rattle.shop_model.specs.Values.{Text, Command}
use Rattle.shop_types.specs.Seen.{seen_refusal}
use Rattle.shop_types.specs.declared.refusal.Refusal.{Refusal}
use Rattle.till_model.specs.Settled.{accepted_of, or_reply}
use Rattle.till_book.specs.Ends.{settled_after}
use Rattle.till_book.specs.Journal.{Journal}
use Rattle.till_book.specs.Read.{in_order}
use Rattle.till_book.specs.Saying.{Says}
use Rattle.till_book.specs.Steps.{Rests}
use Rattle.till_shows.specs.Entries.{act_text}
use Rattle.till_shows.specs.Lines.{Table}
use Rattle.till_shows.specs.Looks.{reply_in}
use Rattle.till_shows.specs.Refused.{HasRefusal}
use Rattle.till_shows.specs.Times.{moment_text}
use Rattle.till_shows.specs.declared.tables.Side.TheVariants.{Left, Right}
use Rattle.till_work.specs.Desk.{HasPlace, with_replies}
use Rattle.till_work.specs.Exchanged.{AreExchanged}
use Rattle.till_work.specs.declared.place.Place.{Place}
use Rattle.till_cashier.specs.Looking.{table_or}
use Rattle.till_cashier.specs.Saying.{IsNoRefusal}
use Rattle.till_cashier.specs.Today.{IsOnWall}

-- ---- one entry

-- an accepted entry's text: the reply's line, and at head office, where nobody works, its body
abbrev pub SaysAccepted : Option ℕ → Text → Text → Type 0
SaysAccepted None body text = text ≡ body
SaysAccepted (Some own) body text = reply_in body ≡ Some text

-- the entry waits, or its reply is a refusal of that name, or it was accepted
abbrev pub IsOutcome : Option ℕ → Option Answer → Text → Type 0
IsOutcome own None text = text ≡ codes "waits"
IsOutcome own (Some answer) text =
    ((it : Refusal) × HasRefusal answer.status answer.body it × (text ≡ codes "refused: " ++ problem_name (seen_refusal it)))
    ⊎ (IsNoRefusal answer × SaysAccepted own answer.body text)

-- the act that the command asks for, and its moment by the clock on the wall
abbrev pub ShowsCommand : TimeZone → ℤ → Command → Text → Type 0
ShowsCommand wall offset command text =
    (shown : Moment) × IsOnWall wall offset command.moment shown × (text ≡ act_text command.act ++ (codes " (" ++ (moment_text shown ++ codes ")")))

-- The entry's command is shown. Of an entry that says no command of a branch nothing is said here.
abbrev pub IsAsked : TimeZone → ℤ → List ℕ → Text → Type 0
IsAsked wall offset request text = (command : Command) → Says request command → ShowsCommand wall offset command text

-- ---- entries as rows

-- The row of the i-th entry after so many: its number, what it asks for, and its outcome. If it was sent once more and had acted, that is by the reply to that.
pub record IsEntryRow (wall : TimeZone) (offset : ℤ) (own : Option ℕ) (first : ℕ) (replies : List Answer) (settled : List (ℕ × Answer)) (i : ℕ)
    (request : List ℕ) (row : List Text) : Type 0 where
  pub what : Text
  pub became : Text
  pub asked : IsAsked wall offset request what
  pub outcome : IsOutcome own (or_reply (accepted_of (first + i + 1) settled) (slice_get replies i)) became
  pub is : row ≡ decimal (first + i + 1) ∷ what ∷ became ∷ []

-- each row is one of its request; the first request is the i-th
abbrev pub AreRows : (ℕ → List ℕ → List Text → Type 0) → ℕ → List (List ℕ) → List (List Text) → Type 0
AreRows Is i [] [] = ⊤
AreRows Is i [] (row ∷ rows) = ⊥
AreRows Is i (request ∷ requests) [] = ⊥
AreRows Is i (request ∷ requests) (row ∷ rows) = Is i request row × AreRows Is (i + 1) requests rows

-- the rows below their headings
abbrev pub entries_table : List (List Text) → Table
entries_table rows = record { sides = Right ∷ Left ∷ Left ∷ []; rows = (codes "entry" ∷ codes "what" ∷ codes "became" ∷ []) ∷ rows }

-- the table with one more row
abbrev pub with_row : List Text → Table → Table
with_row row table = record { sides = table.sides; rows = table.rows ++ row ∷ [] }

-- the table has a row for each of the requests, in their order
abbrev pub TablesEntries : TimeZone → ℤ → Option ℕ → ℕ → List Answer → List (ℕ × Answer) → List (List ℕ) → Table → Type 0
TablesEntries wall offset own first replies settled requests table =
    (rows : List (List Text)) × AreRows (IsEntryRow wall offset own first replies settled) 0 requests rows × (table ≡ entries_table rows)

-- ---- lists

-- All entries after that number are shown as a table, in their order, or the text `none` if there are none.
abbrev pub ShowsEntries : TimeZone → ℤ → Option ℕ → Text → ℕ → Journal → Text → Type 0
ShowsEntries wall offset own none first journal text =
    (table : Table)
    × TablesEntries wall offset own first (drop first journal.replies) (in_order (settled_after first journal.settled)) (drop first journal.entries) table
    × (text ≡ table_or none table)

-- the entries that have no reply
abbrev pub ShowsWaiting : TimeZone → ℤ → Option ℕ → Journal → Text → Type 0
ShowsWaiting wall offset own journal text = ShowsEntries wall offset own (codes "nothing waits") (length journal.replies) journal text

-- the last entries, up to that many
abbrev pub ShowsLast : TimeZone → ℤ → Option ℕ → ℕ → Journal → Text → Type 0
ShowsLast wall offset own count journal text =
    ShowsEntries wall offset own (codes "nothing was entered yet") (length journal.entries - count) journal text

-- The entries that waited, after their replies came. Nothing else in the book changed.
pub record ShowsSent (Exchanged : List ℕ → Answer → Type 0) (wall : TimeZone) (offset : ℤ) (own : Option ℕ) (old : Journal) (s : State) (text : Text) :
    Type 0 where
  pub answers : List Answer
  pub rests : Rests s (with_replies answers old)
  pub told : AreExchanged Exchanged old.entries (length old.replies) answers
  pub shows : ShowsEntries wall offset own (codes "nothing waits") (length old.replies) (with_replies answers old) text

-- ---- of a book

-- it is so of each journal with which the book rests and which has so many entries and replies
abbrev pub OfBook : Place → State → (Journal → Type 0) → Type 0
OfBook place s Is = (journal : Journal) → HasPlace place s journal → Is journal

-- so of each journal with which the book rests
abbrev pub OfEach : State → (Journal → Type 0) → Type 0
OfEach s Is = (journal : Journal) → Rests s journal → Is journal
