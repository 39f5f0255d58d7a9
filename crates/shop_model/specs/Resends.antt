-- What a chain really answered to commands that come again.
use Rattle.std.specs.Prelude.{◌≡◌, ℕ, zero, suc, ◌<◌, ◌≤◌, Bool, true, false, if◌then◌else◌, List, [], ◌∷◌, map, filter, take, slice_get, Some}
use Rattle.std.specs.Str.{bytes_eq}
use Rattle.shop_model.specs.Values.{Text, OfficeAsk, Rules}
use Rattle.shop_model.specs.Shop.{Kept, OfficeKept}
use Rattle.shop_model.specs.Machine.{Request, Do, Office, Reply, Done}
use Rattle.shop_model.specs.Answers.{Answer, answer_of}
use Rattle.shop_model.specs.Books.{Books, Event, Caller, Counter, HeadOffice, Nobody, shop_of, caller_in, after, run, last_books}
use Rattle.shop_model.specs.Sound.{IsSound}
use Rattle.shop_model.specs.Histories.{IsRun, is_decided, counted_in}
use Rattle.shop_model.specs.Repeats.{are_new, marked_ones}

-- ---- one place in a history

-- the books that the next event finds: changed by this event, or unchanged if the store could not do its part
abbrev pub books_next : Rules → Event → Answer → Books → Books
books_next rules event answer books = if is_decided answer then after rules event books else books

-- the books as the event of that place finds them; places count from 0
abbrev pub books_at : Rules → List Event → List Answer → Books → ℕ → Books
books_at rules events answers books zero = books
books_at rules (event ∷ events) (answer ∷ answers) books (suc n) = books_at rules events answers (books_next rules event answer books) n
books_at rules events answers books n = books

-- the books at a place are the books that the counted history before that place leaves
abbrev pub FindsCounted : Rules → List Event → List Answer → Books → Type 0
FindsCounted rules events answers books =
    (place : ℕ) → books_at rules events answers books place ≡ last_books rules (counted_in (take place events) (take place answers)) books

-- the event at that place is that request of that caller, whom the catalogue finds there by the token of the event
pub record Asks (rules : Rules) (events : List Event) (answers : List Answer) (books : Books) (place : ℕ) (caller : Caller) (request : Request) : Type 0 where
  pub event : Event
  pub stands : slice_get events place ≡ Some event
  pub who : caller_in event (books_at rules events answers books place) ≡ caller
  pub what : event.request caller ≡ request

-- a command that its caller may give, and no other request
abbrev pub is_command : Caller → Request → Bool
is_command (Counter b) (Do command) = true
is_command HeadOffice (Office command) = true
is_command caller request = false

-- that caller's one kept row under the command's key has that command, with that reply
abbrev pub Keeps : Caller → Request → Text → Books → Type 0
Keeps (Counter b) (Do command) reply books =
    filter (λ (k : Kept). bytes_eq k.command.key command.key) (shop_of b books).kept ≡ record { command = command; reply = reply } ∷ []
Keeps HeadOffice (Office command) reply books =
    filter (λ (k : OfficeKept). bytes_eq k.command.key command.key) books.catalogue.kept ≡ record { command = command; reply = reply } ∷ []
Keeps caller request reply books = ⊥

-- ---- commands that come again

-- the repeat gets the first answer, and the next event finds the books that the repeat found
pub record IsRepeat (rules : Rules) (events : List Event) (answers : List Answer) (books : Books) (place : ℕ) (again first : Answer) : Type 0 where
  pub reply : again ≡ first
  pub nothing : books_at rules events answers books (suc place) ≡ books_at rules events answers books place

-- A command of a branch or of head office that was answered with 200 may come again from the same caller. It is answered with the same bytes and changes
-- nothing, whatever has been asked since. The catalogue at each of the two places says who the caller is, so branches that head office adds in this history
-- are included. The only condition is that the store can do its part.
abbrev pub GetsFirstReply : Rules → List Event → List Answer → Books → Type 0
GetsFirstReply rules events answers books =
    (i j : ℕ) (caller : Caller) (request : Request) (first again : Answer) → i < j → is_command caller request ≡ true
    → Asks rules events answers books i caller request → Asks rules events answers books j caller request
    → slice_get answers i ≡ Some first → slice_get answers j ≡ Some again → first.status ≡ 200 → is_decided again ≡ true
    → IsRepeat rules events answers books j again first

-- and so is one that was accepted before this history began, and is kept in the books with which it begins
abbrev pub GetsKeptReply : Rules → List Event → List Answer → Books → Type 0
GetsKeptReply rules events answers books =
    (j : ℕ) (caller : Caller) (request : Request) (text : Text) (again : Answer)
    → Keeps caller request text books → Asks rules events answers books j caller request
    → slice_get answers j ≡ Some again → is_decided again ≡ true → IsRepeat rules events answers books j again (answer_of (Done text))

abbrev pub is_nobody : Caller → Bool
is_nobody Nobody = true
is_nobody caller = false

-- a caller who is found by a token at one place is found by it at each later place
abbrev pub KeepsCallers : Rules → List Event → List Answer → Books → Type 0
KeepsCallers rules events answers books =
    (i j : ℕ) (event : Event) → i ≤ j → is_nobody (caller_in event (books_at rules events answers books i)) ≡ false
    → caller_in event (books_at rules events answers books j) ≡ caller_in event (books_at rules events answers books i)

-- the counted history without the commands that come again
abbrev pub without_repeats : Rules → List Event → Books → List Event
without_repeats rules events books = marked_ones (are_new rules events books) events

-- The commands that come again get their first replies and change nothing: the history without them leaves the same books, and its replies are all other
-- answers.
pub record Resends (rules : Rules) (look : OfficeAsk → Books → Reply) (events : List Event) (answers : List Answer) (old new : Books) : Type 0 where
  pub finds : FindsCounted rules events answers old
  pub first : GetsFirstReply rules events answers old
  pub before : GetsKeptReply rules events answers old
  pub callers : KeepsCallers rules events answers old
  pub others : map (λ (it : Caller × Reply). answer_of it.1) (run rules look (without_repeats rules (counted_in events answers) old) old)
      ≡ marked_ones (are_new rules (counted_in events answers) old) (filter is_decided answers)
  pub books : new ≡ last_books rules (without_repeats rules (counted_in events answers) old) old

-- every run of a chain has these properties
abbrev pub RunsResend : Type 0
RunsResend =
    (rules : Rules) (look : OfficeAsk → Books → Reply) (events : List Event) (answers : List Answer) (old new : Books) → IsRun rules look events answers old new
    → Resends rules look events answers old new

-- each kept row of sound books is the only one under its caller's key
pub record AreKept (books : Books) : Type 0 where
  pub branches : (b place : ℕ) (it : Kept) → slice_get (shop_of b books).kept place ≡ Some it → Keeps (Counter b) (Do it.command) it.reply books
  pub office : (place : ℕ) (it : OfficeKept) → slice_get books.catalogue.kept place ≡ Some it → Keeps HeadOffice (Office it.command) it.reply books

abbrev pub KeptRowsAreKept : Type 0
KeptRowsAreKept = (rules : Rules) (books : Books) → IsSound rules books → AreKept books
