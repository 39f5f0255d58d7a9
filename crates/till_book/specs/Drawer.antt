-- The drawer: what the book's entries brought since the drawer was last closed.
use Rattle.std.specs.Prelude.{◌≡◌, ℕ, ◌+◌, ◌==◌, ◌&&◌, ◌||◌, nat_lt, Bool, true, false, not, if◌then◌else◌, List, [], ◌∷◌, ◌++◌, map, filter, length}
use Rattle.std.specs.Prelude.{Option, Some, None}
use Rattle.std.specs.List.{list_any}
use Rattle.shop_model.specs.Rows.{numbered, total}
use Rattle.shop_model.specs.Values.{Act, AddCustomer, SetActive, Rent, TakeBack, Pay, Import, Dispatch, Receive, Scrap, Command}
use Rattle.shop_model.specs.Answers.{Answer}
use Rattle.till_model.specs.Tills.{Entry}
use Rattle.till_model.specs.Laws.{entries_of}
use Rattle.till_book.specs.Saying.{Say}
use Rattle.till_book.specs.Journal.{Journal, IsJournal, entries_in}
use Rattle.till_book.specs.Read.{in_order}
use Rattle.till_book.specs.declared.drawer.Counted.{Counted}
use Rattle.till_book.specs.declared.drawer.Counted.TheVariants as counted
use Rattle.till_book.specs.declared.drawer.DrawerRows.{DrawerRows}

-- ---- what an entry brings

-- the reply accepts its entry
abbrev pub is_accepted : Option Answer → Bool
is_accepted None = false
is_accepted (Some answer) = answer.status == 200

abbrev pub has_reply : Option Answer → Bool
has_reply None = false
has_reply (Some answer) = true

-- how the drawer counts an accepted command of that member of staff
abbrev pub counted_as : ℕ → Act → Counted
counted_as staff (Pay customer rental amount) = counted.Paid staff amount
counted_as staff (Rent customer copy) = counted.Rented
counted_as staff (TakeBack rental) = counted.Returned
counted_as staff (AddCustomer it) = counted.Other
counted_as staff (SetActive customer active) = counted.Other
counted_as staff (Import lot file) = counted.Other
counted_as staff (Dispatch to copies) = counted.Other
counted_as staff (Receive source number missing) = counted.Other
counted_as staff (Scrap copy) = counted.Other

abbrev pub counted_of : Command → Counted
counted_of command = counted_as command.staff command.act

-- the cents that are paid
abbrev pub cents_of : Counted → ℕ
cents_of (counted.Paid staff cents) = cents
cents_of counted.Rented = 0
cents_of counted.Returned = 0
cents_of counted.Other = 0
cents_of counted.Refused = 0

-- the cents that are paid to that member of staff
abbrev pub cents_by : ℕ → Counted → ℕ
cents_by who (counted.Paid staff cents) = if staff == who then cents else 0
cents_by who counted.Rented = 0
cents_by who counted.Returned = 0
cents_by who counted.Other = 0
cents_by who counted.Refused = 0

-- ---- what the book has brought, from its first entry on

-- an entry's number, and how it is counted
abbrev pub Came : Type 0
Came = ℕ × Counted

abbrev pub came : ℕ → Counted → Came
came number what = (number, what)

-- the worth of an entry with its number, which is 0 unless its last reply accepts it
abbrev pub worth_of : (Came → ℕ) → ℕ × Entry → ℕ
worth_of worth it = if is_accepted it.1.reply then worth (came it.0 (counted_of it.1.command)) else 0

-- the worth of all entries of a journal that says these commands
abbrev pub worth_in : (Came → ℕ) → List Command → Journal → ℕ
worth_in worth commands journal = total (worth_of worth) (numbered (entries_in commands journal))

-- the sum of the accepted payments
abbrev pub paid_in : List Command → Journal → ℕ
paid_in = worth_in (λ (it : Came). cents_of it.1)

-- ---- what came since the drawer was closed

-- the numbers of the entries that a settlement accepts
abbrev pub late_of : List (ℕ × Answer) → List ℕ
late_of settled = map (λ (it : ℕ × Answer). it.0) (filter (λ (it : ℕ × Answer). it.1.status == 200) settled)

abbrev pub is_among : ℕ → List ℕ → Bool
is_among n numbers = list_any (λ (m : ℕ). m == n) numbers

-- The entry of that number was accepted since the closing: by its first reply, if that came after the first n replies, or by a settlement
-- that isn't a known one.
abbrev pub is_new : ℕ → List ℕ → List ℕ → ℕ → Option Answer → Bool
is_new n known late number reply = nat_lt n number && is_accepted reply || is_among number late && not (is_among number known)

-- the entry of that number was answered since the closing
abbrev pub is_answered : ℕ → ℕ → Option Answer → Bool
is_answered n number reply = nat_lt n number && has_reply reply

-- how the drawer counts the entry of that number
abbrev pub counts : ℕ → List ℕ → List ℕ → ℕ → Entry → List Came
counts n known late number entry =
    if is_new n known late number entry.reply then came number (counted_of entry.command) ∷ []
    else (if is_answered n number entry.reply then came number counted.Refused ∷ [] else [])

-- how it counts entries that are numbered from k on
abbrev pub counted_from : ℕ → List ℕ → List ℕ → ℕ → List Entry → List Came
counted_from n known late k [] = []
counted_from n known late k (entry ∷ entries) = counts n known late k entry ++ counted_from n known late (k + 1) entries

-- How the drawer counts what came after a closing. The book had n replies then, and settlements had accepted the entries of the known numbers.
abbrev pub counted_since : ℕ → List ℕ → List Command → Journal → List Came
counted_since n known commands journal = counted_from n known (late_of journal.settled) 1 (entries_of commands journal.replies)

-- what was read is what came after that closing, how many replies the book has now, and which entries settlements accepted
pub record IsSince (n : ℕ) (known : List ℕ) (rows : DrawerRows) (journal : Journal) : Type 0 where
  pub counted : (commands : List Command) → Say journal.entries commands → rows.came.items ≡ counted_since n known commands journal
  pub replies : rows.replies ≡ length journal.replies
  pub late : rows.late.items ≡ late_of (in_order journal.settled)

-- ---- the law

-- the second journal is the first one and what was added to it
pub record GoesOn (closed now : Journal) : Type 0 where
  pub entries : (more : List (List ℕ)) × (now.entries ≡ closed.entries ++ more)
  pub replies : (more : List Answer) × (now.replies ≡ closed.replies ++ more)
  pub settled : (more : List (ℕ × Answer)) × (now.settled ≡ closed.settled ++ more)

-- the numbers are the numbers of the entries that settlements had accepted
abbrev pub AreKnown : List ℕ → Journal → Type 0
AreKnown known journal = (n : ℕ) → is_among n known ≡ is_among n (late_of journal.settled)

-- What came since a closing is worth the difference of the book then and now. Entries may be valued in any way that makes a refused one worth nothing:
-- also by their numbers, so that entries of other drawers are worth nothing.
abbrev pub DrawerIsTheDifference : Type 0
DrawerIsTheDifference =
    (worth : Came → ℕ) (commands more : List Command) (known : List ℕ) (closed now : Journal) → ((n : ℕ) → worth (came n counted.Refused) ≡ 0)
    → IsJournal closed → IsJournal now → GoesOn closed now → AreKnown known closed → length commands ≡ length closed.entries
    → worth_in worth (commands ++ more) now
    ≡ worth_in worth commands closed + total worth (counted_since (length closed.replies) known (commands ++ more) now)
