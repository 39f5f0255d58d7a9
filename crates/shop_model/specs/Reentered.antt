-- Books as the run of what was accepted: which events these are, and what they bring alone, or sent again after a disk was lost.
use Rattle.std.specs.Prelude.{◌≡◌, ℕ, ◌==◌, if◌then◌else◌, Bool, true, false, not, ◌&&◌, ◌||◌, List, [], ◌∷◌, ◌++◌}
use Rattle.shop_model.specs.Values.{OfficeAsk, Rules}
use Rattle.shop_model.specs.Shop.{Kept, OfficeKept}
use Rattle.shop_model.specs.Verdict.{Verdict, Accepted, verdict, office_verdict}
use Rattle.shop_model.specs.Machine.{Request, Do, Office, Reply, reply_text, office_text, if_accepted}
use Rattle.shop_model.specs.Books.{Books, Event, Caller, Counter, HeadOffice, shop_of, caller_in, after, run, last_books}
use Rattle.shop_model.specs.Repeats.{marked_ones}

abbrev pub is_accepted : Verdict → Bool
is_accepted Accepted = true
is_accepted v = false

-- a command that is accepted and is no repeat
abbrev pub accepts : Rules → Caller → Request → Books → Bool
accepts rules (Counter b) (Do command) books = is_accepted (verdict rules b books.catalogue (shop_of b books) command)
accepts rules HeadOffice (Office command) books = is_accepted (office_verdict rules books.catalogue command)
accepts rules caller request books = false

-- of each event of a history, whether it is such a command
abbrev pub are_accepted : Rules → List Event → Books → List Bool
are_accepted rules [] books = []
are_accepted rules (event ∷ events) books =
    accepts rules (caller_in event books) (event.request (caller_in event books)) books ∷ are_accepted rules events (after rules event books)

-- these events, in their order
abbrev pub accepted_ones : Rules → List Event → Books → List Event
accepted_ones rules events books = marked_ones (are_accepted rules events books) events

-- the two lists are equally long, and the second marks each place that the first marks
abbrev pub keeps_all : List Bool → List Bool → Bool
keeps_all [] [] = true
keeps_all (must ∷ musts) (mark ∷ marks) = (not must || mark) && keeps_all musts marks
keeps_all musts marks = false

-- ---- all others change nothing

-- some events of a history, taken alone, leave the books that the whole history leaves, and each is answered as it was
pub record IsLeftBy (rules : Rules) (look : OfficeAsk → Books → Reply) (marks : List Bool) (events : List Event) (books : Books) : Type 0 where
  pub replies : run rules look (marked_ones marks events) books ≡ marked_ones marks (run rules look events books)
  pub leaves : last_books rules (marked_ones marks events) books ≡ last_books rules events books

-- this holds of the accepted commands alone, and of any events that all accepted commands are among
pub record AcceptedMakeBooks (rules : Rules) (look : OfficeAsk → Books → Reply) (events : List Event) (books : Books) : Type 0 where
  pub alone : IsLeftBy rules look (are_accepted rules events books) events books
  pub among : (marks : List Bool) → keeps_all (are_accepted rules events books) marks ≡ true → IsLeftBy rules look marks events books

abbrev pub BooksAreOfAccepted : Type 0
BooksAreOfAccepted = (rules : Rules) (look : OfficeAsk → Books → Reply) (events : List Event) (books : Books) → AcceptedMakeBooks rules look events books

-- ---- and they are what is kept

-- what an event adds to the kept commands of a branch: the branch's own command, where it is accepted, with its reply
abbrev pub kept_by : Rules → ℕ → Caller → Request → Books → List Kept
kept_by rules b (Counter c) (Do command) books =
    if c == b
    then if_accepted (verdict rules c books.catalogue (shop_of c books) command)
    (record { command = command; reply = reply_text rules command (shop_of c books) } ∷ []) []
    else []
kept_by rules b caller request books = []

-- and to head office's
abbrev pub office_kept_by : Rules → Caller → Request → Books → List OfficeKept
office_kept_by rules HeadOffice (Office command) books =
    if_accepted (office_verdict rules books.catalogue command) (record { command = command; reply = office_text command books.catalogue } ∷ []) []
office_kept_by rules caller request books = []

abbrev pub kept_in : Rules → ℕ → List Event → Books → List Kept
kept_in rules b [] books = []
kept_in rules b (event ∷ events) books =
    kept_by rules b (caller_in event books) (event.request (caller_in event books)) books ++ kept_in rules b events (after rules event books)

abbrev pub office_kept_in : Rules → List Event → Books → List OfficeKept
office_kept_in rules [] books = []
office_kept_in rules (event ∷ events) books =
    office_kept_by rules (caller_in event books) (event.request (caller_in event books)) books ++ office_kept_in rules events (after rules event books)

-- after what was kept, each caller's accepted commands are kept, in their order, with their replies, and nothing else is
pub record KeepsAccepted (rules : Rules) (events : List Event) (books : Books) : Type 0 where
  pub branch : (b : ℕ) → (shop_of b (last_books rules events books)).kept ≡ (shop_of b books).kept ++ kept_in rules b events books
  pub office : (last_books rules events books).catalogue.kept ≡ books.catalogue.kept ++ office_kept_in rules events books

abbrev pub AcceptedAreKept : Type 0
AcceptedAreKept = (rules : Rules) (events : List Event) (books : Books) → KeepsAccepted rules events books

-- ---- a disk is lost

-- The chain is put back to a copy, which has the books after a front of the history. The accepted commands are sent again in their order: all of the history,
-- or only the commands that came after the copy. Then the books are the lost ones, and each command is answered as it was.
pub record BringsBack (rules : Rules) (look : OfficeAsk → Books → Reply) (front lost : List Event) (books copy : Books) : Type 0 where
  pub all_replies : run rules look (accepted_ones rules (front ++ lost) books) copy
      ≡ marked_ones (are_accepted rules (front ++ lost) books) (run rules look (front ++ lost) books)
  pub all_leave : last_books rules (accepted_ones rules (front ++ lost) books) copy ≡ last_books rules (front ++ lost) books
  pub late_replies : run rules look (accepted_ones rules lost copy) copy ≡ marked_ones (are_accepted rules lost copy) (run rules look lost copy)
  pub late_leave : last_books rules (accepted_ones rules lost copy) copy ≡ last_books rules (front ++ lost) books

abbrev pub LostIsBroughtBack : Type 0
LostIsBroughtBack =
    (rules : Rules) (look : OfficeAsk → Books → Reply) (front lost : List Event) (books : Books)
    → BringsBack rules look front lost books (last_books rules front books)
