-- Histories that differ in the order of what different branches ask: books that are alike, commands that may change places, and what the order tells.
use Rattle.std.specs.Prelude.{◌≡◌, ℕ, zero, suc, ◌==◌, ◌&&◌, Bool, true, false, not, List, [], ◌∷◌, ◌++◌, map, filter}
use Rattle.std.specs.List.{list_all}
use Rattle.shop_model.specs.Rows.{Owned, is_of}
use Rattle.shop_model.specs.Calendar.{Moment}
use Rattle.shop_model.specs.Values.{Text, Act, AddCustomer, Rent, Import, Dispatch, Receive, Command, OfficeAct, AddCity, AddFilm, PriceFilm, WithdrawFilm}
use Rattle.shop_model.specs.Values.{AddBranch, AddStaff, StaffLeaves, OfficeCommand, Ask, Arrivals, OfficeAsk, Rules}
use Rattle.shop_model.specs.Shop.{Kept}
use Rattle.shop_model.specs.Machine.{Request, Do, Look, Office, Reply}
use Rattle.shop_model.specs.Books.{Books, Event, Caller, Counter, HeadOffice, Consignment, Table, rows_of, caller_in, after, after_for, reply_for, run}
use Rattle.shop_model.specs.Books.{last_books, replies_to, state_of, view}
use Rattle.shop_model.specs.Repeats.{marked_ones}
use Rattle.shop_model.specs.Resends.{is_nobody}
use Rattle.shop_model.specs.Reentered.{are_accepted, accepted_ones}
use Rattle.shop_model.specs.Sound.{HasNumbers}

-- ---- what a branch sees is all that the order tells it

-- the branch gets the same replies, and is left in the same state
pub record LeavesTheSame (rules : Rules) (look : OfficeAsk → Books → Reply) (events events' : List Event) (books : Books) (b : ℕ) : Type 0 where
  pub replies : replies_to b (run rules look events books) ≡ replies_to b (run rules look events' books)
  pub state : state_of b (last_books rules events books) ≡ state_of b (last_books rules events' books)

-- Only three things have to keep their order, as it sees them: its own requests, head office's accepted commands, and the consignments that are sent to it.
abbrev pub OrderIsWithinViews : Type 0
OrderIsWithinViews =
    (rules : Rules) (look : OfficeAsk → Books → Reply) (events events' : List Event) (books : Books) (b : ℕ) → HasNumbers books
    → view rules b events books ≡ view rules b events' books → LeavesTheSame rules look events events' books b

-- ---- books that are alike

-- a branch has the same rows, with their numbers and marks, lots, kept commands and last moment, in the same order
pub record HasSameRows (b : ℕ) (one other : Books) : Type 0 where
  pub rows : (t : Table) → filter (is_of b) (rows_of one t) ≡ filter (is_of b) (rows_of other t)
  pub lots : filter (λ (row : Owned Text). row.owner == b) one.lots ≡ filter (λ (row : Owned Text). row.owner == b) other.lots
  pub kept : filter (λ (row : Owned Kept). row.owner == b) one.kept ≡ filter (λ (row : Owned Kept). row.owner == b) other.kept
  pub lasts : filter (λ (row : Owned Moment). row.owner == b) one.lasts ≡ filter (λ (row : Owned Moment). row.owner == b) other.lasts

abbrev pub placeless : Consignment → Consignment
placeless it = record it { place = 0 }

-- what a branch sent, in the order of sending, but for the places in the order of the whole chain
abbrev pub sent_by : ℕ → Books → List Consignment
sent_by b books = map placeless (filter (λ (it : Consignment). it.source == b) books.consignments)

-- The catalogue is the same, and so are the rows and the consignments of each branch. Only how the branches' rows and consignments are mixed may differ.
pub record AreAlike (one other : Books) : Type 0 where
  pub catalogue : one.catalogue ≡ other.catalogue
  pub rows : (b : ℕ) → HasSameRows b one other
  pub sent : (b : ℕ) → sent_by b one ≡ sent_by b other

-- A plain request: its answer doesn't depend on how the branches' rows are mixed. It is any request of a branch but the list of arrivals, or a command of
-- head office.
abbrev pub is_arrivals : Ask → Bool
is_arrivals Arrivals = true
is_arrivals ask = false

abbrev pub is_plain : Caller → Request → Bool
is_plain (Counter b) (Look ask) = not (is_arrivals ask)
is_plain HeadOffice (Office command) = true
is_plain HeadOffice request = false
is_plain caller request = true

-- in books that are alike it gets the same reply, and leaves such books
pub record KeepsAlike (rules : Rules) (look : OfficeAsk → Books → Reply) (caller : Caller) (request : Request) (one other : Books) : Type 0 where
  pub reply : reply_for rules look caller request one ≡ reply_for rules look caller request other
  pub leaves : AreAlike (after_for rules caller request one) (after_for rules caller request other)

abbrev pub AlikeStayAlike : Type 0
AlikeStayAlike =
    (rules : Rules) (look : OfficeAsk → Books → Reply) (caller : Caller) (request : Request) (one other : Books) → is_plain caller request ≡ true
    → AreAlike one other → KeepsAlike rules look caller request one other

-- ---- requests that may change places

abbrev pub sends_to : ℕ → Act → Bool
sends_to b (Dispatch to xs) = to == b
sends_to b act = false

abbrev pub receives_from : ℕ → Act → Bool
receives_from b (Receive source number missing) = source == b
receives_from b act = false

-- a command that sends the branch a consignment
abbrev pub reaches : ℕ → Request → Bool
reaches b (Do command) = sends_to b command.act
reaches b request = false

-- a request that asks for what came from the branch: the receipt of one of its consignments, or a reading
abbrev pub takes : ℕ → Request → Bool
takes b (Do command) = receives_from b command.act
takes b request = true

-- the first branch's request sends the second branch a consignment, and the second branch's request may read it
abbrev pub is_awaited : ℕ → ℕ → Request → Request → Bool
is_awaited b c one other = reaches c one && takes b other

-- whichever request comes first, each is answered as if the other hadn't come, and the books are alike
pub record Commute (rules : Rules) (look : OfficeAsk → Books → Reply) (caller caller' : Caller) (request request' : Request) (books : Books) : Type 0 where
  pub first : reply_for rules look caller request (after_for rules caller' request' books) ≡ reply_for rules look caller request books
  pub second : reply_for rules look caller' request' (after_for rules caller request books) ≡ reply_for rules look caller' request' books
  pub leaves :
      AreAlike (after_for rules caller' request' (after_for rules caller request books))
      (after_for rules caller request (after_for rules caller' request' books))

-- requests of two branches commute, unless one is a dispatch to the other branch and the other is its receipt or a reading
abbrev pub BranchesCommute : Type 0
BranchesCommute =
    (rules : Rules) (look : OfficeAsk → Books → Reply) (b c : ℕ) (one other : Request) (books : Books) → HasNumbers books → (b == c) ≡ false
    → is_awaited b c one other ≡ false → is_awaited c b other one ≡ false → Commute rules look (Counter b) (Counter c) one other books

-- whether an act of a branch may read what an act of head office changes
abbrev pub reads : OfficeAct → Act → Bool
reads (AddCity city) (AddCustomer it) = true
reads (AddFilm film) (Rent c x) = true
reads (AddFilm film) (Import lot file) = true
reads (PriceFilm film rate) (Rent c x) = true
reads (WithdrawFilm film) (Rent c x) = true
reads (WithdrawFilm film) (Import lot file) = true
reads (AddBranch branch) (Dispatch to xs) = true
reads (AddStaff staff) act = true
reads (StaffLeaves s) act = true
reads office act = false

-- a branch's command and a command of head office commute, if the branch's command doesn't read what the other changes
abbrev pub OfficeCommutes : Type 0
OfficeCommutes =
    (rules : Rules) (look : OfficeAsk → Books → Reply) (b : ℕ) (command : Command) (office : OfficeCommand) (books : Books)
    → reads office.act command.act ≡ false
    → Commute rules look (Counter b) HeadOffice (Do command) (Office office) books

-- ---- histories in another order

-- two requests that may change places
abbrev pub are_apart : Caller → Request → Caller → Request → Bool
are_apart (Counter b) one (Counter c) other = not (b == c) && not (is_awaited b c one other) && not (is_awaited c b other one)
are_apart (Counter b) (Do command) HeadOffice (Office office) = not (reads office.act command.act)
are_apart HeadOffice (Office office) (Counter b) (Do command) = not (reads office.act command.act)
are_apart caller one caller' other = false

-- the item at that place, counted from 0, and the next item change places
abbrev pub swapped : {A : Type 0} → ℕ → List A → List A
swapped zero (x ∷ y ∷ xs) = y ∷ x ∷ xs
swapped (suc n) (x ∷ xs) = x ∷ swapped n xs
swapped n xs = xs

-- the events at that place and the next are requests that may change places, in the books as they are there
abbrev pub may_swap : Rules → ℕ → List Event → Books → Bool
may_swap rules zero (e ∷ f ∷ events) books = are_apart (caller_in e books) (e.request (caller_in e books)) (caller_in f books) (f.request (caller_in f books))
may_swap rules (suc n) (e ∷ events) books = may_swap rules n events (after rules e books)
may_swap rules n events books = false

-- each event is a plain request, in the books that it finds
abbrev pub are_plain : Rules → List Event → Books → Bool
are_plain rules [] books = true
are_plain rules (e ∷ events) books = is_plain (caller_in e books) (e.request (caller_in e books)) && are_plain rules events (after rules e books)

-- one swap after another; `may_swap_all` says that each is allowed in the history as it is then
abbrev pub all_swapped : {A : Type 0} → List ℕ → List A → List A
all_swapped [] xs = xs
all_swapped (n ∷ ns) xs = all_swapped ns (swapped n xs)

abbrev pub may_swap_all : Rules → List ℕ → List Event → Books → Bool
may_swap_all rules [] events books = true
may_swap_all rules (n ∷ ns) events books = may_swap rules n events books && may_swap_all rules ns (swapped n events) books

-- each request gets the reply that it had, and the books are alike
pub record IsSwapped (rules : Rules) (look : OfficeAsk → Books → Reply) (ns : List ℕ) (events : List Event) (books : Books) : Type 0 where
  pub replies : run rules look (all_swapped ns events) books ≡ all_swapped ns (run rules look events books)
  pub leaves : AreAlike (last_books rules events books) (last_books rules (all_swapped ns events) books)

abbrev pub OrderMayDiffer : Type 0
OrderMayDiffer =
    (rules : Rules) (look : OfficeAsk → Books → Reply) (ns : List ℕ) (events : List Event) (books : Books) → HasNumbers books
    → are_plain rules events books ≡ true → may_swap_all rules ns events books ≡ true → IsSwapped rules look ns events books

-- ---- any order that keeps what depends on one another

-- two events that may change places, with their callers looked up in the books at the beginning
abbrev pub are_apart_in : Books → Event → Event → Bool
are_apart_in books e f = are_apart (caller_in e books) (e.request (caller_in e books)) (caller_in f books) (f.request (caller_in f books))

-- The first list has the events of the second in another order. Each next event may come before all events that were before it and haven't come yet.
abbrev pub IsOrderOf : Books → List Event → List Event → Type 0
IsOrderOf books [] events = events ≡ []
IsOrderOf books (e ∷ order) events =
    (front : List Event) × (back : List Event) × (events ≡ front ++ e ∷ back)
    × (list_all (λ (f : Event). are_apart_in books f e) front ≡ true) × IsOrderOf books order (front ++ back)

abbrev pub is_office : Caller → Bool
is_office HeadOffice = true
is_office caller = false

abbrev pub office_replies : List (Caller × Reply) → List Reply
office_replies answers = map (λ (a : Caller × Reply). a.1) (filter (λ (a : Caller × Reply). is_office a.0) answers)

-- each branch, and head office, gets the same replies in the same order, and the books are alike
pub record TellsAlike (rules : Rules) (look : OfficeAsk → Books → Reply) (order events : List Event) (books : Books) : Type 0 where
  pub branches : (b : ℕ) → replies_to b (run rules look order books) ≡ replies_to b (run rules look events books)
  pub office : office_replies (run rules look order books) ≡ office_replies (run rules look events books)
  pub leaves : AreAlike (last_books rules order books) (last_books rules events books)

-- each caller is known at the beginning
abbrev pub are_known : List Event → Books → Bool
are_known events books = list_all (λ (e : Event). not (is_nobody (caller_in e books))) events

-- plain requests of such callers may come in any order that keeps what depends on one another
abbrev pub AnyOrderTellsAlike : Type 0
AnyOrderTellsAlike =
    (rules : Rules) (look : OfficeAsk → Books → Reply) (order events : List Event) (books : Books) → HasNumbers books → are_plain rules events books ≡ true
    → are_known events books ≡ true → IsOrderOf books order events → TellsAlike rules look order events books

-- ---- a disk is lost, and the tills send again in an order of their own

-- each caller gets the replies that it had got, and the books are alike to the lost ones
pub record BringsBackAlike (rules : Rules) (look : OfficeAsk → Books → Reply) (told : List (Caller × Reply)) (order : List Event) (copy last : Books) :
    Type 0 where
  pub branches : (b : ℕ) → replies_to b (run rules look order copy) ≡ replies_to b told
  pub office : office_replies (run rules look order copy) ≡ office_replies told
  pub leaves : AreAlike (last_books rules order copy) last

-- The same holds from a copy, which has the books after a front of the history. The commands that were accepted after it are sent again, or all that were
-- accepted in the whole history. Their order has to keep what depends on one another.
pub record IsBroughtBackAlike (rules : Rules) (look : OfficeAsk → Books → Reply) (front lost order : List Event) (books copy : Books) : Type 0 where
  pub late : are_known (accepted_ones rules lost copy) copy ≡ true → IsOrderOf copy order (accepted_ones rules lost copy)
      → BringsBackAlike rules look (marked_ones (are_accepted rules lost copy) (run rules look lost copy)) order copy (last_books rules (front ++ lost) books)
  pub all : are_known (accepted_ones rules (front ++ lost) books) copy ≡ true → IsOrderOf copy order (accepted_ones rules (front ++ lost) books)
      → BringsBackAlike rules look (marked_ones (are_accepted rules (front ++ lost) books) (run rules look (front ++ lost) books)) order copy
      (last_books rules (front ++ lost) books)

abbrev pub LostIsBroughtBackAlike : Type 0
LostIsBroughtBackAlike =
    (rules : Rules) (look : OfficeAsk → Books → Reply) (front lost order : List Event) (books : Books) → HasNumbers books
    → IsBroughtBackAlike rules look front lost order books (last_books rules front books)
