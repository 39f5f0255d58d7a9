-- What a look prints, and its status.
use Rattle.std.specs.Prelude.{◌≡◌, ◌≢◌, ◌==◌, ◌<◌, ◌≤◌, ◌⊎◌, ⊤, ℕ, Bool, true, false, if◌then◌else◌, [], ◌++◌, List, Option, None, Some}
use Rattle.std.specs.Prelude.{IfSome, codes, decimal}
use Rattle.sqlite.specs.State.{State}
use Rattle.shop_model.specs.Answers.{Answer}
use Rattle.shop_model.specs.Calendar.{Moment, seconds_of}
use Rattle.shop_model.specs.Values.{Text, Ask, OneCustomer, OneFilm, InStock, HeldBy, FilmInStock, FilmNotInStock, Balance, Overdue, Rewards, Arrivals}
use Rattle.shop_model.specs.Values.{SentOff, OneView, View, CustomerList, StaffList, FilmList, ActorInfo, SalesByStore, SalesByCategory}
use Rattle.shop_types.specs.declared.refusal.Refusal.TheVariants.{NoCustomer}
use Rattle.till_requests.specs.SheetRows.{Row, row_in_sheet}
use Rattle.till_shows.specs.Fields.{Field}
use Rattle.till_shows.specs.Lines.{Table}
use Rattle.till_shows.specs.Lists.{whole_table, table_in, named_in, folded, customer_fields, film_fields, overdue_fields, arrival_fields, sent_fields}
use Rattle.till_shows.specs.Lists.{store_fields, category_fields}
use Rattle.till_shows.specs.Looks.{in_stock_in, film_in_stock_in, film_not_in_stock_in, balance_in, rewards_in, holder_in, holder_text}
use Rattle.till_shows.specs.Sheets.{film_sheet_in, IsCustomerSheet}
use Rattle.till_shows.specs.Tables.{row_count, table_text}
use Rattle.till_shows.specs.Refused.{HasRefusal}
use Rattle.till_words.specs.declared.words.TillLook.{TillLook}
use Rattle.till_words.specs.declared.words.TillLook.TheVariants as look
use Rattle.till_cashier.specs.declared.lists.List.{List as Kept}
use Rattle.till_cashier.specs.declared.lists.List.TheVariants as kept
use Rattle.till_cashier.specs.declared.stock.Whereabouts.{Whereabouts}
use Rattle.till_cashier.specs.declared.stock.Whereabouts.TheVariants as it
use Rattle.till_cashier.specs.Asking.{IsLookedUp}
use Rattle.till_cashier.specs.Late.{TablesLate, lates_in}
use Rattle.till_cashier.specs.Saying.{SaysRefusal, IsNoRefusal, IsCalled, IsListed, ended}
use Rattle.till_cashier.specs.Stocked.{stocked_in}
use Rattle.till_cashier.specs.Whereabouts.{HasDeparted, whereabouts_text}

-- ---- the moment of a look

-- The clock showed that moment. Or it showed an earlier one, and that is the last entry's.
abbrev pub IsNowBehind : (ℕ → Type 0) → Option Moment → Moment → Type 0
IsNowBehind shows last at =
    (now : Moment) × shows (seconds_of now) × ((at ≡ now) ⊎ ((last ≡ Some at) × (seconds_of now < seconds_of at)))

-- ---- what a body shows

-- these lines were added
abbrev pub Adds : (Text → Type 0) → Text → Text → Type 0
Adds Says old new = (text : Text) × Says text × (new ≡ old ++ text)

-- the lines of a body that reports one thing; `name` is that of a balance's customer
abbrev pub lines_in : Ask → Text → Text → Option Text
lines_in (OneFilm film) name body = film_sheet_in body
lines_in (InStock copy) name body = in_stock_in copy body
lines_in (FilmInStock film) name body = film_in_stock_in film body
lines_in (FilmNotInStock film) name body = film_not_in_stock_in film body
lines_in (Balance customer at) name body = balance_in name body
lines_in (Rewards at purchases cents) name body = rewards_in body
lines_in (OneCustomer customer) name body = None
lines_in (HeldBy copy) name body = None
lines_in (Overdue at) name body = None
lines_in Arrivals name body = None
lines_in SentOff name body = None
lines_in (OneView view) name body = None

abbrev pub IsLines : Ask → Text → Text → Text → Type 0
IsLines ask name body text = (lines : Text) × (lines_in ask name body ≡ Some lines) × (text ≡ ended lines)

-- the name is that of the customer whose balance is asked for; of another look nothing is said
abbrev pub IsNamed : Ask → Text → Type 0
IsNamed (Balance customer at) name = IsCalled customer name
IsNamed (OneCustomer customer) name = ⊤
IsNamed (OneFilm film) name = ⊤
IsNamed (InStock copy) name = ⊤
IsNamed (HeldBy copy) name = ⊤
IsNamed (FilmInStock film) name = ⊤
IsNamed (FilmNotInStock film) name = ⊤
IsNamed (Overdue at) name = ⊤
IsNamed (Rewards at purchases cents) name = ⊤
IsNamed Arrivals name = ⊤
IsNamed SentOff name = ⊤
IsNamed (OneView view) name = ⊤

-- the body's lines, with a customer's name if it is a balance
abbrev pub ShowsLines : Ask → Text → Text → Type 0
ShowsLines ask body text = (name : Text) × IsNamed ask name × IsLines ask name body text

-- the table of a body that lists what was asked for
abbrev pub list_in : Ask → Text → Option Table
list_in (Overdue at) body = whole_table overdue_fields body
list_in Arrivals body = whole_table arrival_fields body
list_in SentOff body = whole_table sent_fields body
list_in (OneCustomer customer) body = None
list_in (OneFilm film) body = None
list_in (InStock copy) body = None
list_in (HeldBy copy) body = None
list_in (FilmInStock film) body = None
list_in (FilmNotInStock film) body = None
list_in (Balance customer at) body = None
list_in (Rewards at purchases cents) body = None
list_in (OneView view) body = None

-- the table's lines, or the line `none` if the table has only its headings
abbrev pub table_or : Text → Table → Text
table_or none table = if row_count table == 0 then ended none else table_text table

abbrev pub ShowsList : Ask → Text → Text → Text → Type 0
ShowsList ask none body text = (table : Table) × (list_in ask body ≡ Some table) × (text ≡ table_or none table)

-- what was paid in all, below a line that says so
abbrev pub in_all_text : Table → Text
in_all_text table = if row_count table == 0 then ended (codes "nothing was paid for a rental yet")
    else ended (codes "What was paid for rentals, of all time:") ++ table_text table

-- what was paid by category, below an empty line; nothing if nothing was paid
abbrev pub by_category_text : Table → Text
by_category_text table = if row_count table == 0 then [] else ended [] ++ table_text table

abbrev pub ShowsInAll : Text → Text → Type 0
ShowsInAll body text = (table : Table) × (whole_table store_fields body ≡ Some table) × (text ≡ in_all_text table)

abbrev pub ShowsByCategory : Text → Text → Type 0
ShowsByCategory body text = (table : Table) × (whole_table category_fields body ≡ Some table) × (text ≡ by_category_text table)

abbrev pub ShowsSales : View → Text → Text → Type 0
ShowsSales SalesByStore body text = ShowsInAll body text
ShowsSales SalesByCategory body text = ShowsByCategory body text
ShowsSales CustomerList body text = ⊥
ShowsSales StaffList body text = ⊥
ShowsSales FilmList body text = ⊥
ShowsSales ActorInfo body text = ⊥

-- ---- what an answer says

-- The text says the answer: with `--json` its body as it is, else what a refusal means, or what the body shows.
abbrev pub SaysLooked : Bool → (Text → Text → Type 0) → Answer → Text → Type 0
SaysLooked true Shows answer text = text ≡ ended answer.body
SaysLooked false Shows answer text = SaysRefusal answer text ⊎ (IsNoRefusal answer × Shows answer.body text)

-- the status after an answer: 1, unless the server did what was asked for
abbrev pub status_with : Answer → ℕ → ℕ
status_with answer status = if answer.status == 200 then status else 1

-- Some answer to the question is said: its text was added, and the status is by it.
pub record AddsLook (Asks : Answer → Type 0) (json : Bool) (Shows : Text → Text → Type 0) (old : Text) (was : ℕ) (new : Text) (status : ℕ) :
    Type 0 where
  pub answer : Answer
  pub asked : Asks answer
  pub text : Text
  pub says : SaysLooked json Shows answer text
  pub added : new ≡ old ++ text
  pub done : status ≡ status_with answer was

-- ---- looks of more than one answer

-- a list has that title for the film
abbrev pub IsTitled : ℕ → Text → Type 0
IsTitled film title = (list : Text) × (named_in (codes "film") film (codes "title") list ≡ Some (Some title))

-- The film's title in some list was added, or nothing was. With `--json` nothing was.
abbrev pub AddsTitle : Bool → ℕ → Text → Text → Type 0
AddsTitle json film old new = (new ≡ old) ⊎ ((json ≡ false) × ((title : Text) × IsTitled film title × (new ≡ old ++ ended title)))

-- The film's title, if it is known, then its copies in stock. Unless that was refused, its copies that are out follow.
pub record AddsCopies (Asks : Ask → Answer → Type 0) (json : Bool) (film : ℕ) (old : Text) (was : ℕ) (new : Text) (status : ℕ) : Type 0 where
  pub titled : Text
  pub title : AddsTitle json film old titled
  pub mid : Text
  pub half : ℕ
  pub here : AddsLook (Asks (FilmInStock film)) json (ShowsLines (FilmInStock film)) titled was mid half
  pub out : half ≡ 0 → AddsLook (Asks (FilmNotInStock film)) json (ShowsLines (FilmNotInStock film)) mid half new status
  pub refused : half ≢ 0 → (new ≡ mid) × (status ≡ half)

-- what was paid in all, and then by category
pub record AddsSales (Asks : Ask → Answer → Type 0) (json : Bool) (old : Text) (was : ℕ) (new : Text) (status : ℕ) : Type 0 where
  pub mid : Text
  pub half : ℕ
  pub first : AddsLook (Asks (OneView SalesByStore)) json (ShowsSales SalesByStore) old was mid half
  pub second : AddsLook (Asks (OneView SalesByCategory)) json (ShowsSales SalesByCategory) mid half new status

-- ---- lists that the till keeps

abbrev pub view_of : Kept → View
view_of kept.Customers = CustomerList
view_of kept.Films = FilmList

abbrev pub fields_of : Kept → List Field
fields_of kept.Customers = customer_fields
fields_of kept.Films = film_fields

abbrev pub none_text : Kept → Text
none_text kept.Customers = codes "no customer has that in name or phone"
none_text kept.Films = codes "no film has that in its title"

-- the rows of a list in which the part is found
abbrev pub found_in : Kept → Text → Text → Option Table
found_in list part body = table_in (fields_of list) (folded part) body

-- how old a kept list is, if that is a minute or more
abbrev pub age_text : ℕ → Text
age_text minutes = if minutes == 0 then []
    else (if minutes == 1 then ended (codes "This list is 1 minute old.")
    else ended (codes "This list is " ++ (decimal minutes ++ codes " minutes old.")))

abbrev pub ShowsFound : Kept → Text → Text → Text → Type 0
ShowsFound list part body text =
    (table : Table) × (found_in list part body ≡ Some table) × ((minutes : ℕ) × (text ≡ table_or (none_text list) table ++ age_text minutes))

-- An answer to the view of the list, or a list that was kept. Of a kept list nothing else is said: it may be any text.
abbrev pub IsListOf : (Ask → Answer → Type 0) → Kept → Answer → Type 0
IsListOf Asks list answer = Asks (OneView (view_of list)) answer ⊎ (answer.status ≡ 200)

-- ---- a customer

-- The table has the customers of some list in whose name or telephone number the number is found. The branch has no customer of the number, which isn't short.
pub record IsByPhone (json : Bool) (customer : ℕ) (answer : Answer) (table : Table) : Type 0 where
  pub plain : json ≡ false
  pub long : 100 ≤ customer
  pub none : HasRefusal answer.status answer.body NoCustomer
  pub list : Text
  pub rows : found_in kept.Customers (decimal customer) list ≡ Some table
  pub some : row_count table ≢ 0

-- The rows of customers by telephone number were added, as the answer is that there is no such customer. The status stays.
pub record AddsByPhone (Asks : Answer → Type 0) (json : Bool) (customer : ℕ) (old : Text) (was : ℕ) (new : Text) (status : ℕ) : Type 0 where
  pub answer : Answer
  pub asked : Asks answer
  pub table : Table
  pub found : IsByPhone json customer answer table
  pub added : new ≡ old ++ table_text table
  pub done : status ≡ was

-- the customer's sheet, or the customers with the number in their telephone number
abbrev pub AddsCustomer : (Ask → Answer → Type 0) → Bool → ℕ → Text → ℕ → Text → ℕ → Type 0
AddsCustomer Asks json customer old was new status =
    AddsLook (Asks (OneCustomer customer)) json IsCustomerSheet old was new status
    ⊎ AddsByPhone (Asks (OneCustomer customer)) json customer old was new status

-- ---- a copy

abbrev pub name_end : Option Text → Text
name_end None = []
name_end (Some name) = codes ": " ++ name

-- that customer has the copy; the name is in some list, if a name is said
abbrev pub IsHolderLine : ℕ → ℕ → Text → Type 0
IsHolderLine copy who text = (name : Option Text) × IfSome name (IsListed who) × (text ≡ ended (holder_text copy (Some who) ++ name_end name))

-- who has the copy
abbrev pub ShowsHolder : ℕ → Text → Text → Type 0
ShowsHolder copy body text = (who : ℕ) × (holder_in body ≡ Some (Some who)) × IsHolderLine copy who text

-- some accepted answer on the film's copies in stock says whether the copy is one of them
pub record IsListedStock (Asks : Ask → Answer → Type 0) (film copy : ℕ) (is : Bool) : Type 0 where
  pub answer : Answer
  pub asked : Asks (FilmInStock film) answer
  pub accepted : answer.status ≡ 200
  pub listed : stocked_in copy answer.body ≡ Some is

-- so of the film that the sheet has of the copy
pub record IsInStock (Asks : Ask → Answer → Type 0) (sheet : Text) (copy : ℕ) (is : Bool) : Type 0 where
  pub row : Row
  pub found : row_in_sheet copy sheet ≡ Some (Some row)
  pub film : ℕ
  pub of : row.film ≡ Some film
  pub says : IsListedStock Asks film copy is

-- By an answer the copy is here, or isn't. Or it was sent off or scrapped by the book.
abbrev pub IsPlace : (Ask → Answer → Type 0) → (Moment → Moment → Type 0) → State → Text → ℕ → Whereabouts → Type 0
IsPlace Asks OnWall s sheet copy it.Here = IsInStock Asks sheet copy true
IsPlace Asks OnWall s sheet copy (it.Sent to at) = HasDeparted OnWall s copy (it.Sent to at)
IsPlace Asks OnWall s sheet copy (it.Scrapped at) = HasDeparted OnWall s copy (it.Scrapped at)
IsPlace Asks OnWall s sheet copy it.Gone = IsInStock Asks sheet copy false

-- a place of the copy, or that nobody has the copy
abbrev pub IsPlaceLine : (Ask → Answer → Type 0) → (Moment → Moment → Type 0) → State → Text → ℕ → Text → Type 0
IsPlaceLine Asks OnWall s sheet copy line =
    ((place : Whereabouts) × IsPlace Asks OnWall s sheet copy place × (line ≡ whereabouts_text copy place)) ⊎ (line ≡ holder_text copy None)

-- That place was added. If there is none, it was added that nobody has the copy, or else some answer to the word's own question.
abbrev pub SaysPlace : (Ask → Answer → Type 0) → Ask → ℕ → Option Whereabouts → Text → ℕ → Text → ℕ → Type 0
SaysPlace Asks ask copy (Some place) old was new status = (new ≡ old ++ ended (whereabouts_text copy place)) × (status ≡ was)
SaysPlace Asks ask copy None old was new status =
    ((new ≡ old ++ ended (holder_text copy None)) × (status ≡ was)) ⊎ AddsLook (Asks ask) false (ShowsLines ask) old was new status

-- Where a copy is that nobody has was added, or else some answer to the word's own question.
abbrev pub AddsPlace : (Ask → Answer → Type 0) → (Moment → Moment → Type 0) → State → Text → Ask → ℕ → Text → ℕ → Text → ℕ → Type 0
AddsPlace Asks OnWall s sheet ask copy old was new status =
    ((line : Text) × IsPlaceLine Asks OnWall s sheet copy line × (new ≡ old ++ ended line) × (status ≡ was))
    ⊎ AddsLook (Asks ask) false (ShowsLines ask) old was new status

-- By some answer nobody has the copy, and it was added where the copy is.
pub record AddsNobody (Asks : Ask → Answer → Type 0) (OnWall : Moment → Moment → Type 0) (s : State) (sheet : Text) (ask : Ask) (copy : ℕ)
    (old : Text) (was : ℕ) (new : Text) (status : ℕ) : Type 0 where
  pub answer : Answer
  pub asked : Asks (HeldBy copy) answer
  pub accepted : IsNoRefusal answer
  pub nobody : holder_in answer.body ≡ Some None
  pub place : AddsPlace Asks OnWall s sheet ask copy old (status_with answer was) new status

-- With `--json` the answer to the word's own question. Else who has the copy, or where the copy is if nobody has.
abbrev pub AddsWhere : (Ask → Answer → Type 0) → (Moment → Moment → Type 0) → State → Bool → Text → Ask → ℕ → Text → ℕ → Text → ℕ → Type 0
AddsWhere Asks OnWall s true sheet ask copy old was new status = AddsLook (Asks ask) true (ShowsLines ask) old was new status
AddsWhere Asks OnWall s false sheet ask copy old was new status =
    AddsLook (Asks (HeldBy copy)) false (ShowsHolder copy) old was new status ⊎ AddsNobody Asks OnWall s sheet ask copy old was new status

-- ---- what is overdue

-- The body's rows, or a row for each of its rentals, with the numbers that are known. Or that nothing is overdue.
abbrev pub ShowsLate : (Ask → Answer → Type 0) → State → Text → Text → Text → Type 0
ShowsLate Asks s sheet body text =
    ((table : Table) × (whole_table overdue_fields body ≡ Some table) × (text ≡ table_or (codes "nothing is overdue") table))
    ⊎ ((lates : List (List Text)) × (lates_in body ≡ Some lates)
    × ((table : Table) × TablesLate Asks s sheet lates table × (text ≡ table_or (codes "nothing is overdue") table)))

-- ---- looks at a moment

abbrev pub AddsLate : (Ask → Answer → Type 0) → State → Text → (ℕ → Type 0) → Bool → Text → ℕ → Text → ℕ → Type 0
AddsLate Asks s sheet shows json old was new status =
    (at : Moment) × shows (seconds_of at) × AddsLook (Asks (Overdue at)) json (ShowsLate Asks s sheet) old was new status

abbrev pub AddsOwed : (Ask → Answer → Type 0) → (ℕ → Type 0) → Option Moment → Bool → ℕ → Text → ℕ → Text → ℕ → Type 0
AddsOwed Asks shows last json customer old was new status =
    (at : Moment) × IsNowBehind shows last at
    × AddsLook (Asks (Balance customer at)) json (ShowsLines (Balance customer at)) old was new status

abbrev pub AddsRewards : (Ask → Answer → Type 0) → (ℕ → Type 0) → Bool → ℕ → ℕ → Text → ℕ → Text → ℕ → Type 0
AddsRewards Asks shows json purchases cents old was new status =
    (at : Moment) × shows (seconds_of at)
    × AddsLook (Asks (Rewards at purchases cents)) json (ShowsLines (Rewards at purchases cents)) old was new status

-- ---- all looks

-- What a look adds to a text, and the status then. Each answer is one to that very question. A question's moment is the clock's, or the last entry's.
-- A copy left by an entry of the book, and an overdue rental's number is the register's or the sheet's. Nothing is said of a list that was kept.
abbrev pub AddsView : (Ask → Answer → Type 0) → (Moment → Moment → Type 0) → State → (ℕ → Type 0) → Option Moment → Bool → Text → TillLook
    → Text → ℕ → Text → ℕ → Type 0
AddsView Asks OnWall s shows last json sheet (look.Customer customer) old was new status = AddsCustomer Asks json customer old was new status
AddsView Asks OnWall s shows last json sheet (look.Customers part) old was new status =
    AddsLook (IsListOf Asks kept.Customers) json (ShowsFound kept.Customers part) old was new status
AddsView Asks OnWall s shows last json sheet (look.Film film) old was new status =
    AddsLook (Asks (OneFilm film)) json (ShowsLines (OneFilm film)) old was new status
AddsView Asks OnWall s shows last json sheet (look.Films part) old was new status =
    AddsLook (IsListOf Asks kept.Films) json (ShowsFound kept.Films part) old was new status
AddsView Asks OnWall s shows last json sheet (look.InStock copy) old was new status = AddsWhere Asks OnWall s json sheet (InStock copy) copy old was new status
AddsView Asks OnWall s shows last json sheet (look.HeldBy copy) old was new status = AddsWhere Asks OnWall s json sheet (HeldBy copy) copy old was new status
AddsView Asks OnWall s shows last json sheet (look.Copies film) old was new status = AddsCopies Asks json film old was new status
AddsView Asks OnWall s shows last json sheet (look.Balance customer) old was new status = AddsOwed Asks shows last json customer old was new status
AddsView Asks OnWall s shows last json sheet look.Overdue old was new status = AddsLate Asks s sheet shows json old was new status
AddsView Asks OnWall s shows last json sheet look.Arrivals old was new status =
    AddsLook (Asks Arrivals) json (ShowsList Arrivals (codes "nothing was sent here")) old was new status
AddsView Asks OnWall s shows last json sheet look.Sent old was new status =
    AddsLook (Asks SentOff) json (ShowsList SentOff (codes "nothing was sent")) old was new status
AddsView Asks OnWall s shows last json sheet (look.Rewards purchases cents) old was new status =
    AddsRewards Asks shows json purchases cents old was new status
AddsView Asks OnWall s shows last json sheet look.Sales old was new status = AddsSales Asks json old was new status

-- What a look prints, and its status. Each answer was asked for with that token.
abbrev pub PrintsLook : (List ℕ → Answer → Type 0) → Text → (Moment → Moment → Type 0) → State → (ℕ → Type 0) → Option Moment → Bool → Text → TillLook
    → Text → ℕ → Type 0
PrintsLook Answers token OnWall s shows last json sheet look text status =
    AddsView (IsLookedUp Answers token) OnWall s shows last json sheet look [] 0 text status
