-- The books of all branches, one list a table; an event's step of them; what one branch sees of a history. All of it is our own.
use Rattle.std.specs.Prelude.{ℕ, ◌+◌, ◌==◌, ◌&&◌, Bool, true, false, not, if◌then◌else◌, List, [], ◌∷◌, ◌++◌, length, map, filter, flat_map, Option, Some, None}
use Rattle.std.specs.Str.{bytes_eq}
use Rattle.shop_model.specs.Rows.{arrived, lacks, Row, Owned, of, owned_by, is_row, put_all, set_rows, update_where, numbered, mem}
use Rattle.shop_model.specs.Calendar.{Moment}
use Rattle.shop_model.specs.Values.{Text, Branch, Customer, new_customer, CopyState, Here, Sent, Scrapped, Copy, Rental, Terms, Payment}
use Rattle.shop_model.specs.Values.{Arrival, Parcel, Act, AddCustomer, SetActive, Rent, TakeBack, Pay, Import, Dispatch, Receive, Scrap}
use Rattle.shop_model.specs.Values.{Command, OfficeAsk, Rules}
use Rattle.shop_model.specs.Refusals.{NoCounter, NoRoute}
use Rattle.shop_model.specs.Shop.{Kept, Catalogue, Shop}
use Rattle.shop_model.specs.Stock.{terms_now}
use Rattle.shop_model.specs.Verdict.{verdict, office_verdict}
use Rattle.shop_model.specs.Machine.{reply_text, office_text, Request, Unread, Do, Office, OfficeLook, Reply, Sorry, reply_by, reply_to, if_accepted}
use Rattle.shop_model.specs.Machine.{catalogue_after, Input, FromOffice, Arrive, Own, State}
use Rattle.shop_model.specs.Acts.{films_in, films_at}

-- where a copy was imported, and its number there: it moves with the copy, and no reply to a branch depends on it
pub record Mark : Type 0 where
  pub branch : ℕ
  pub copy : ℕ

pub record BookCopy : Type 0 where
  pub film : ℕ
  pub state : CopyState
  pub mark : Mark

-- a line of a consignment that isn't received is under way; at the receipt it arrived or is missing
pub data LineState : Type 0 where
  UnderWay : LineState
  Arrived : LineState
  Missing : LineState

pub record Line : Type 0 where
  pub film : ℕ
  pub mark : Mark
  pub state : LineState

-- The number counts the sender's consignments to the same addressee. The place counts all consignments of the chain. Both count from 1.
pub record Consignment : Type 0 where
  pub source : ℕ
  pub addressee : ℕ
  pub number : ℕ
  pub place : ℕ
  pub received : Bool
  pub lines : List Line

pub record Books : Type 0 where
  pub catalogue : Catalogue
  pub customers : List (Row Customer)
  pub copies : List (Row BookCopy)
  pub rentals : List (Row Rental)
  pub terms : List (Row Terms)  -- those of each rental, under the rental's number
  pub payments : List (Row Payment)
  pub lots : List (Owned Text)
  pub consignments : List Consignment
  pub kept : List (Owned Kept)
  pub lasts : List (Owned Moment)

-- ---- one branch's shop

abbrev pub unmarked : BookCopy → Copy
unmarked copy = record { film = copy.film; state = copy.state }

abbrev pub as_arrival : Consignment → Arrival
as_arrival it = record { source = it.source; films = map (λ line. line.film) it.lines; received = it.received }

abbrev pub as_parcel : Consignment → Parcel
as_parcel it = record { addressee = it.addressee; films = map (λ line. line.film) it.lines }

abbrev pub head : {A : Type 0} → List A → Option A
head [] = None
head (x ∷ _) = Some x

-- the books of a chain in which no branch has asked anything
abbrev pub opening : Catalogue → Books
opening catalogue = record {
  catalogue = catalogue;
  customers = [];
  copies = [];
  rentals = [];
  terms = [];
  payments = [];
  lots = [];
  consignments = [];
  kept = [];
  lasts = [];
}

-- its rows by number, without branch columns, marks and places; consignments in the order of dispatch
abbrev pub shop_of : ℕ → Books → Shop
shop_of b books = record {
  customers = of b books.customers;
  copies = map unmarked (of b books.copies);
  rentals = of b books.rentals;
  terms = of b books.terms;
  payments = of b books.payments;
  lots = owned_by b books.lots;
  arrivals = map as_arrival (filter (λ it. it.addressee == b) books.consignments);
  sent = map as_parcel (filter (λ it. it.source == b) books.consignments);
  kept = owned_by b books.kept;
  last = head (owned_by b books.lasts);
}

-- ---- copies and consignments

abbrev pub is_consignment : ℕ → ℕ → ℕ → Consignment → Bool
is_consignment source addressee number it = it.source == source && it.addressee == addressee && it.number == number

-- an import makes the mark: this branch, and the number of the new row
abbrev pub imported : ℕ → ℕ → ℕ → BookCopy
imported b film number = record { film = film; state = Here; mark = record { branch = b; copy = number } }

abbrev pub under_way : BookCopy → Line
under_way copy = record { film = copy.film; mark = copy.mark; state = UnderWay }

-- a line that arrived becomes a copy of the addressee, with the mark that it had
abbrev pub unpacked : Line → ℕ → BookCopy
unpacked line number = record { film = line.film; state = Here; mark = line.mark }

abbrev pub put_state : CopyState → BookCopy → BookCopy
put_state state copy = record copy { state = state }

-- the rows of those numbers
abbrev pub rows_at : ℕ → List ℕ → List (Row BookCopy) → List (Row BookCopy)
rows_at b xs copies = flat_map (λ x. filter (is_row b x) copies) xs

-- the numbers and rows of one sender and addressee
abbrev pub between : ℕ → ℕ → List Consignment → List Consignment
between source addressee consignments = filter (λ it. it.source == source && it.addressee == addressee) consignments

abbrev pub new_consignment : ℕ → ℕ → List ℕ → Books → Consignment
new_consignment b to xs books = record {
  source = b;
  addressee = to;
  number = length (between b to books.consignments) + 1;
  place = length books.consignments + 1;
  received = false;
  lines = map (λ row. under_way row.it) (rows_at b xs books.copies);
}

abbrev pub checked_line : List ℕ → ℕ × Line → Line
checked_line missing it = record it.1 { state = if mem it.0 missing then Missing else Arrived }

abbrev pub checked : List ℕ → Consignment → Consignment
checked missing it = record it { received = true; lines = map (checked_line missing) (numbered it.lines) }

-- the lines of a consignment that came
abbrev pub come : ℕ → ℕ → ℕ → List ℕ → List Consignment → List Line
come source addressee number missing consignments =
    flat_map (λ (it : Consignment). arrived missing it.lines) (filter (is_consignment source addressee number) consignments)

-- ---- what an accepted command of a branch changes: a list of edits, by which each law is shown once for each kind

-- the tables whose rows have a branch and a number
pub data Table : Type 0 where
  Customers : Table
  CopyRows : Table
  Rentals : Table
  TermRows : Table
  Payments : Table

abbrev pub RowOf : Table → Type 0
RowOf Customers = Customer
RowOf CopyRows = BookCopy
RowOf Rentals = Rental
RowOf TermRows = Terms
RowOf Payments = Payment

abbrev pub RowsOf : Table → Type 0
RowsOf t = List (Row (RowOf t))

abbrev pub rows_of : Books → (t : Table) → RowsOf t
rows_of books Customers = books.customers
rows_of books CopyRows = books.copies
rows_of books Rentals = books.rentals
rows_of books TermRows = books.terms
rows_of books Payments = books.payments

-- the value for the first table if the two tables are the same, and else the value for the second
abbrev pub if_same : (F : Table → Type 0) (t u : Table) → F t → F u → F u
if_same F Customers Customers x y = x
if_same F CopyRows CopyRows x y = x
if_same F Rentals Rentals x y = x
if_same F TermRows TermRows x y = x
if_same F Payments Payments x y = x
if_same F t u x y = y

-- the books with another list in one table; what is no table stays, whichever the table is
abbrev pub with_rows : (t : Table) → RowsOf t → Books → Books
with_rows t new books = record books {
  customers = if_same RowsOf t Customers new books.customers;
  copies = if_same RowsOf t CopyRows new books.copies;
  rentals = if_same RowsOf t Rentals new books.rentals;
  terms = if_same RowsOf t TermRows new books.terms;
  payments = if_same RowsOf t Payments new books.payments;
}

-- a branch's new rows, each with the next number, and changed rows, by their numbers; a lot; and of the consignments a new one, and a change
pub data Edit : Type 0 where
  Put : (t : Table) → List (ℕ → RowOf t) → Edit
  Set : (t : Table) → List ℕ → (RowOf t → RowOf t) → Edit
  PutLot : Text → Edit
  Append : Consignment → Edit
  Update : (Consignment → Bool) → (Consignment → Consignment) → Edit

abbrev pub edited : ℕ → Edit → Books → Books
edited b (Put t makes) books = with_rows t (put_all b makes (rows_of books t)) books
edited b (Set t ns f) books = with_rows t (set_rows b ns f (rows_of books t)) books
edited b (PutLot lot) books = record books { lots = books.lots ++ record { owner = b; it = lot } ∷ [] }
edited b (Append it) books = record books { consignments = books.consignments ++ it ∷ [] }
edited b (Update test f) books = record books { consignments = update_where test f books.consignments }

abbrev pub all_edited : ℕ → List Edit → Books → Books
all_edited b [] books = books
all_edited b (edit ∷ edits) books = all_edited b edits (edited b edit books)

-- by the books as they were: the same changes as in the branch's own machine, as edits of rows that have branch, number, mark and place
abbrev pub edits_of : Rules → ℕ → Command → Act → Books → List Edit
edits_of rules b command (AddCustomer it) books = Put Customers ((λ _. new_customer command.moment it) ∷ []) ∷ []
edits_of rules b command (SetActive c active) books = Set Customers (c ∷ []) (λ it. record it { active = active }) ∷ []
edits_of rules b command (Rent c x) books =
    Put Rentals ((λ _. record { rented = command.moment; copy = x; customer = c; returned = None; staff = command.staff }) ∷ [])
    ∷ Put TermRows (map (λ it _. it) (terms_now books.catalogue (shop_of b books) x))
    ∷ []
edits_of rules b command (TakeBack r) books = Set Rentals (r ∷ []) (λ it. record it { returned = Some command.moment }) ∷ []
edits_of rules b command (Pay c rental amount) books =
    Put Payments ((λ _. record { customer = c; staff = command.staff; rental = rental; amount = amount; paid = command.moment }) ∷ []) ∷ []
edits_of rules b command (Import lot file) books = Put CopyRows (map (imported b) (films_in (rules.stock_of file))) ∷ PutLot lot ∷ []
edits_of rules b command (Dispatch to xs) books = Set CopyRows xs (put_state Sent) ∷ Append (new_consignment b to xs books) ∷ []
edits_of rules b command (Receive source number missing) books =
    Put CopyRows (map unpacked (come source b number missing books.consignments)) ∷ Update (is_consignment source b number) (checked missing) ∷ []
edits_of rules b command (Scrap x) books = Set CopyRows (x ∷ []) (put_state Scrapped) ∷ []

abbrev pub book_acted : Rules → ℕ → Command → Act → Books → Books
book_acted rules b command act books = all_edited b (edits_of rules b command act books) books

-- the last moment is kept for each branch by itself
abbrev pub set_last : ℕ → Moment → List (Owned Moment) → List (Owned Moment)
set_last b moment lasts = record { owner = b; it = moment } ∷ filter (λ row. not (row.owner == b)) lasts

abbrev pub book_done : Rules → ℕ → Command → Books → Books
book_done rules b command books =
    record (book_acted rules b command command.act books) {
      kept = books.kept ++ record { owner = b; it = record { command = command; reply = reply_text rules command (shop_of b books) } } ∷ [];
      lasts = set_last b command.moment books.lasts;
    }

-- ---- events

pub data Caller : Type 0 where
  Counter : ℕ → Caller
  HeadOffice : Caller
  Nobody : Caller

-- its token, where it has one, and what it asks when such a caller reads it so
pub record Event : Type 0 where
  pub token : Option Text
  pub request : Caller → Request

abbrev pub branch_with : Text → ℕ → List Branch → Caller
branch_with token n [] = Nobody
branch_with token n (branch ∷ branches) = if bytes_eq branch.token token then Counter n else branch_with token (n + 1) branches

-- who has the token in the catalogue as it is now
abbrev pub caller_of : Option Text → Catalogue → Caller
caller_of None catalogue = Nobody
caller_of (Some token) catalogue = if bytes_eq token catalogue.office_token then HeadOffice else branch_with token 1 catalogue.branches

-- a caller who says that it is a branch is nobody where there is no such branch
abbrev pub known_caller : Catalogue → Caller → Caller
known_caller catalogue (Counter b) = if lacks catalogue.branches b then Nobody else Counter b
known_caller catalogue caller = caller

abbrev pub caller_in : Event → Books → Caller
caller_in event books = caller_of event.token books.catalogue

abbrev pub branch_after : Rules → ℕ → Request → Books → Books
branch_after rules b (Do command) books = if_accepted (verdict rules b books.catalogue (shop_of b books) command) (book_done rules b command books) books
branch_after rules b request books = books

abbrev pub office_after : Rules → Request → Books → Books
office_after rules (Office command) books = record books { catalogue = catalogue_after rules command books.catalogue }
office_after rules request books = books

-- head office's readings are over all books
abbrev pub office_reply : Rules → (OfficeAsk → Books → Reply) → Request → Books → Reply
office_reply rules look (Unread refusal) books = Sorry refusal
office_reply rules look (Office command) books = reply_by (office_verdict rules books.catalogue command) (office_text command books.catalogue)
office_reply rules look (OfficeLook ask) books = look ask books
office_reply rules look request books = Sorry NoRoute

abbrev pub reply_for : Rules → (OfficeAsk → Books → Reply) → Caller → Request → Books → Reply
reply_for rules look (Counter b) request books = reply_to rules b books.catalogue (shop_of b books) request
reply_for rules look HeadOffice request books = office_reply rules look request books
reply_for rules look Nobody request books = Sorry NoCounter

abbrev pub after_for : Rules → Caller → Request → Books → Books
after_for rules (Counter b) request books = branch_after rules b request books
after_for rules HeadOffice request books = office_after rules request books
after_for rules Nobody request books = books

abbrev pub reply_in : Rules → (OfficeAsk → Books → Reply) → Event → Books → Reply
reply_in rules look event books = reply_for rules look (caller_in event books) (event.request (caller_in event books)) books

abbrev pub after : Rules → Event → Books → Books
after rules event books = after_for rules (caller_in event books) (event.request (caller_in event books)) books

-- ---- runs

abbrev pub run : Rules → (OfficeAsk → Books → Reply) → List Event → Books → List (Caller × Reply)
run rules look [] books = []
run rules look (event ∷ events) books = (caller_in event books, reply_in rules look event books) ∷ run rules look events (after rules event books)

abbrev pub last_books : Rules → List Event → Books → Books
last_books rules [] books = books
last_books rules (event ∷ events) books = last_books rules events (after rules event books)

-- how a chain really answered an event: it was decided, there was no room for it, or the store failed
pub data Outcome : Type 0 where
  Decided : Outcome
  NoRoom : Outcome
  Failed : Outcome

abbrev pub counted_one : Event → Outcome → List Event → List Event
counted_one event Decided events = event ∷ events
counted_one event NoRoom events = events
counted_one event Failed events = []

-- the events that count: those before the first failure, without those for which there was no room
abbrev pub counted : List (Event × Outcome) → List Event
counted [] = []
counted (it ∷ rest) = counted_one it.0 it.1 (counted rest)

abbrev pub is_counter : ℕ → Caller → Bool
is_counter b (Counter c) = c == b
is_counter b caller = false

abbrev pub replies_to : ℕ → List (Caller × Reply) → List Reply
replies_to b answers = map (λ (a : Caller × Reply). a.1) (filter (λ (a : Caller × Reply). is_counter b a.0) answers)

-- ---- what branch b sees

-- of a dispatch its addressee sees the sender and the films
abbrev pub parcel_seen : ℕ → ℕ → Act → Books → List Input
parcel_seen b source (Dispatch to xs) books = if to == b then Arrive source (films_at xs (shop_of source books).copies) ∷ [] else []
parcel_seen b source act books = []

abbrev pub other_seen : Rules → ℕ → ℕ → Request → Books → List Input
other_seen rules b source (Do command) books =
    if_accepted (verdict rules source books.catalogue (shop_of source books) command) (parcel_seen b source command.act books) []
other_seen rules b source request books = []

-- an accepted command of head office is seen by every branch
abbrev pub office_seen : Rules → Request → Books → List Input
office_seen rules (Office command) books = if_accepted (office_verdict rules books.catalogue command) (FromOffice command ∷ []) []
office_seen rules request books = []

abbrev pub seen_of : Rules → ℕ → Caller → Request → Books → List Input
seen_of rules b (Counter c) request books = if c == b then Own request ∷ [] else other_seen rules b c request books
seen_of rules b HeadOffice request books = office_seen rules request books
seen_of rules b Nobody request books = []

-- everything else leaves nothing: no reading, no refused or repeated request, and no other command of another branch
abbrev pub view : Rules → ℕ → List Event → Books → List Input
view rules b [] books = []
view rules b (event ∷ events) books =
    seen_of rules b (caller_in event books) (event.request (caller_in event books)) books ++ view rules b events (after rules event books)

abbrev pub state_of : ℕ → Books → State
state_of b books = record { catalogue = books.catalogue; shop = shop_of b books }
