-- The journal that the tables hold. It has the requests in the order in which they were entered. The n-th reply is that of the n-th request. A settlement is
-- the
-- reply to an entry that was sent once more, with the entry's number. Settlements are in the order in which they came. Nothing in a journal changes, and
-- nothing goes.
use Rattle.std.specs.Prelude.{◌≡◌, ◌+◌, ◌≤◌, ◌==◌, ◌&&◌, Bool, true, not, ℕ, List, [], ◌∷◌, ◌++◌, length, map, filter, slice_get, Option, Some, None}
use Rattle.std.specs.List.{list_all, list_any}
use Rattle.sqlite.specs.declared.types.Value.TheVariants.{Blob}
use Rattle.sqlite_value.specs.Order as sql
use Rattle.sqlite_trees.specs.Tree.{Trees}
use Rattle.sqlite.specs.State.{State}
use Rattle.sql_rows.specs.Rows.{HasRows, Differ, number_value}
use Rattle.sql_rows.specs.Calls as calls
use Rattle.shop_model.specs.Rows.{numbered}
use Rattle.shop_model.specs.Values.{Command}
use Rattle.shop_model.specs.Answers.{Answer}
use Rattle.till_model.specs.Tills.{Entry}
use Rattle.till_model.specs.Settled.{book_entries}
use Rattle.till_book.specs.Saying.{Say}
use Rattle.till_book.specs.Marks.{Rented, Returned, rented_in, returned_in, is_unsure}
use Rattle.till_book.specs.Tables.{book_schema}

pub record Journal : Type 0 where
  pub entries : List (List ℕ)
  pub replies : List Answer
  pub settled : List (ℕ × Answer)

-- the oldest request without a reply
abbrev pub waiting : Journal → Option (List ℕ)
waiting journal = slice_get journal.entries (length journal.replies)

abbrev pub entry_columns : ℕ × List ℕ → sql.Row
entry_columns it = number_value it.0 ∷ Blob it.1 ∷ []

abbrev pub reply_columns : ℕ × Answer → sql.Row
reply_columns it = number_value it.0 ∷ number_value it.1.status ∷ Blob it.1.body ∷ []

abbrev pub unsure_columns : ℕ → sql.Row
unsure_columns n = number_value n ∷ []

abbrev pub rented_columns : Rented → sql.Row
rented_columns it = number_value it.copy ∷ number_value it.number ∷ number_value it.rental ∷ number_value it.customer ∷ []

abbrev pub returned_columns : Returned → sql.Row
returned_columns it = number_value it.rental ∷ number_value it.number ∷ []

-- the reply that settled the entry of that number, if one is recorded
abbrev pub settled_of : ℕ → List (ℕ × Answer) → List Answer
settled_of n settled = map (λ (it : ℕ × Answer). it.1) (filter (λ (it : ℕ × Answer). it.0 == n) settled)

-- the reply to the entry of that number, if it has one
abbrev pub reply_of : ℕ → List Answer → List Answer
reply_of n replies = settled_of n (numbered replies)

-- the entry of that number has a reply, and the reply isn't 200
abbrev pub is_refused : List Answer → ℕ → Bool
is_refused replies n = list_any (λ (answer : Answer). not (answer.status == 200)) (reply_of n replies)

-- ---- functions of the journal

-- the entry of that number has no settlement
abbrev pub is_unsettled : List (ℕ × Answer) → ℕ → Bool
is_unsettled settled n = not (list_any (λ (it : ℕ × Answer). it.0 == n) settled)

-- the numbers of the refused entries that may have acted or may act late, as far as the journal says
abbrev pub unsure_of : Journal → List ℕ
unsure_of journal =
    map (λ (it : ℕ × Answer). it.0) (filter (λ (it : ℕ × Answer). is_unsure it.1 && is_unsettled journal.settled it.0) (numbered journal.replies))

-- the entries of a journal that says these commands
abbrev pub entries_in : List Command → Journal → List Entry
entries_in commands journal = book_entries commands journal.replies journal.settled

-- ---- the tables stand for the journal

-- no entry is settled twice, only refused entries are settled, and each reply has its entry
pub record IsJournal (journal : Journal) : Type 0 where
  pub once : Differ (λ (it : ℕ × Answer). it.0) journal.settled
  pub refused : list_all (λ (it : ℕ × Answer). is_refused journal.replies it.0) journal.settled ≡ true
  pub answered : length journal.replies ≤ length journal.entries

-- The first three tables are the journal; the others follow from it. If entries say no commands, as at head office, nothing is claimed of rents and returns.
pub record StandsFor (trees : Trees) (journal : Journal) : Type 0 where
  pub entries : HasRows 2 (trees 0) (map entry_columns (numbered journal.entries))
  pub replies : HasRows 3 (trees 2) (map reply_columns (numbered journal.replies))
  pub settled : HasRows 3 (trees 4) (map reply_columns journal.settled)
  pub is : IsJournal journal
  pub unsure : HasRows 1 (trees 6) (map unsure_columns (unsure_of journal))
  pub rented : (commands : List Command) → Say journal.entries commands → HasRows 4 (trees 8) (map rented_columns (rented_in (entries_in commands journal)))
  pub returned : (commands : List Command) → Say journal.entries commands
      → HasRows 2 (trees 10) (map returned_columns (returned_in (entries_in commands journal)))

abbrev pub Holds : State → Journal → Type 0
Holds = calls.Holds book_schema StandsFor

-- The journal's three tables alone, as a book has them that was made before there were others.
pub record IsWritten (trees : Trees) (journal : Journal) : Type 0 where
  pub entries : HasRows 2 (trees 0) (map entry_columns (numbered journal.entries))
  pub replies : HasRows 3 (trees 2) (map reply_columns (numbered journal.replies))
  pub settled : HasRows 3 (trees 4) (map reply_columns journal.settled)
  pub once : Differ (λ (it : ℕ × Answer). it.0) journal.settled

-- The tables beside the journal have the rows of this journal.
pub record AreMarked (trees : Trees) (journal : Journal) : Type 0 where
  pub is : IsJournal journal
  pub unsure : HasRows 1 (trees 6) (map unsure_columns (unsure_of journal))
  pub rented : (commands : List Command) → Say journal.entries commands → HasRows 4 (trees 8) (map rented_columns (rented_in (entries_in commands journal)))
  pub returned : (commands : List Command) → Say journal.entries commands
      → HasRows 2 (trees 10) (map returned_columns (returned_in (entries_in commands journal)))

-- the journal's three tables, and the tables beside it without a row
pub record IsBare (trees : Trees) (journal : Journal) : Type 0 where
  pub written : IsWritten trees journal
  pub unsure : trees 6 ≡ []
  pub rented : trees 8 ≡ []
  pub returned : trees 10 ≡ []

abbrev pub HoldsBare : State → Journal → Type 0
HoldsBare = calls.Holds book_schema IsBare

abbrev pub Writes : State → State → (Journal → Type 0) → (Journal → Journal) → Type 0
Writes = calls.Writes book_schema StandsFor

abbrev pub with_entry : List ℕ → Journal → Journal
with_entry request journal = record journal { entries = journal.entries ++ request ∷ [] }

abbrev pub with_reply : Answer → Journal → Journal
with_reply answer journal = record journal { replies = journal.replies ++ answer ∷ [] }

abbrev pub with_settled : ℕ → Answer → Journal → Journal
with_settled n answer journal = record journal { settled = journal.settled ++ (n, answer) ∷ [] }

-- the entry of that number has no settlement
abbrev pub IsUnsettled : ℕ → Journal → Type 0
IsUnsettled n journal = settled_of n journal.settled ≡ []

-- a request is added under the next number
abbrev pub PutsEntry : ℕ → List ℕ → State → State → Type 0
PutsEntry n request old new = Writes old new (λ journal. n ≡ length journal.entries + 1) (with_entry request)

-- a reply is added after the last
abbrev pub PutsReply : ℕ → Answer → State → State → Type 0
PutsReply n answer old new = Writes old new (λ journal. n ≡ length journal.replies + 1) (with_reply answer)

-- a settlement is added after the last
abbrev pub PutsSettled : ℕ → Answer → State → State → Type 0
PutsSettled n answer old new = Writes old new (IsUnsettled n) (with_settled n answer)

-- the same for an entry that was refused
abbrev pub PutsRefused : ℕ → Answer → State → State → Type 0
PutsRefused n answer old new = Writes old new (λ journal. IsUnsettled n journal × (is_refused journal.replies n ≡ true)) (with_settled n answer)

-- the tables exist, and hold an empty journal
abbrev pub IsEmptyJournal : State → Type 0
IsEmptyJournal s = Holds s (record { entries = []; replies = []; settled = [] })

-- the bytes in the first column of the first row, if there is a row
abbrev pub HasBytes : Option (List ℕ) → List sql.Row → Type 0
HasBytes None rows = slice_get rows 0 ≡ None
HasBytes (Some bytes) rows = (row : sql.Row) × (slice_get rows 0 ≡ Some row) × (sql.column row 0 ≡ Blob bytes)

-- `Says` holds for the journal, and the journal stays
abbrev pub Finds : (Journal → Type 0) → State → State → Type 0
Finds Says old new = (journal : Journal) → Holds old journal → Holds new journal × Says journal

-- the same while the tables beside the journal have no row
abbrev pub FindsBare : (Journal → Type 0) → State → State → Type 0
FindsBare Says old new = (journal : Journal) → HoldsBare old journal → HoldsBare new journal × Says journal

-- the request of that number, if there is one; the journal stays
abbrev pub FindsEntry : ℕ → Option (List ℕ) → State → State → Type 0
FindsEntry n it old new = Finds (λ journal. (i : ℕ) → n ≡ i + 1 → it ≡ slice_get journal.entries i) old new
