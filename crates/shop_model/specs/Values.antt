-- What is kept, asked and answered. Texts are bytes and money is in whole cents. The rows and their columns follow the Sakila sample database, as far as this
-- shop has them. The states of a copy, consignments, keys and lots are our own.
use Rattle.std.specs.Prelude.{ℕ, Bool, true, List, Option}
use Rattle.shop_model.specs.Calendar.{Moment}

abbrev pub Text : Type 0
Text = List ℕ

-- ---- shared rows: head office alone adds and changes them, and their numbers hold for the whole chain (our own)

-- names, address and city of staff or of a customer; the sample database has the address in a table of its own
pub record Person : Type 0 where
  pub first : Text
  pub last : Text
  pub address : Text
  pub postal : Text
  pub phone : Text
  pub city : ℕ

pub record City : Type 0 where
  pub name : Text
  pub country : ℕ

pub record Actor : Type 0 where
  pub first : Text
  pub last : Text

-- a film as in the sample database: its period in days, its rate and replacement cost in cents, its length in minutes; one category each, and
-- whether it is withdrawn (both our own)
pub record Film : Type 0 where
  pub title : Text
  pub description : Text
  pub language : ℕ
  pub category : ℕ
  pub period : ℕ
  pub rate : ℕ
  pub replacement : ℕ
  pub minutes : Option ℕ
  pub rating : Text
  pub features : Text
  pub withdrawn : Bool

pub record Cast : Type 0 where
  pub film : ℕ
  pub actor : ℕ

-- a store of the sample database: its address and manager; the token by which its counter is known is our own
pub record Branch : Type 0 where
  pub token : Text
  pub address : Text
  pub postal : Text
  pub phone : Text
  pub city : ℕ
  pub manager : Option ℕ

-- staff who left stay in the list (our own)
pub record Staff : Type 0 where
  pub branch : ℕ
  pub person : Person
  pub gone : Bool

-- ---- rows of a branch, numbered there from 1 (our own: the sample database numbers them over all stores)

-- what a request says about a customer who is added
pub record NewCustomer : Type 0 where
  pub person : Person

-- a customer belongs to one branch permanently (the last field is our own)
pub record Customer : Type 0 where
  pub person : Person
  pub active : Bool
  pub created : Moment

-- as added, at that moment
abbrev pub new_customer : Moment → NewCustomer → Customer
new_customer moment it = record { person = it.person; active = true; created = moment }

-- our own: the sample database has no state of a copy beside its rentals
pub data CopyState : Type 0 where
  Here : CopyState
  Sent : CopyState
  Scrapped : CopyState

-- a row of the inventory
pub record Copy : Type 0 where
  pub film : ℕ
  pub state : CopyState

-- a rental, not returned as long as it has no return moment (the manual); nothing of it but that moment ever changes
pub record Rental : Type 0 where
  pub rented : Moment
  pub copy : ℕ
  pub customer : ℕ
  pub returned : Option Moment
  pub staff : ℕ

-- by what a rental is charged: its film's rate, period and replacement cost, as they were when it began (that they are fixed then is our own)
pub record Terms : Type 0 where
  pub rate : ℕ
  pub period : ℕ
  pub replacement : ℕ

-- a payment, for a rental or for none (the manual)
pub record Payment : Type 0 where
  pub customer : ℕ
  pub staff : ℕ
  pub rental : Option ℕ
  pub amount : ℕ
  pub paid : Moment

-- what came from another branch, as its addressee sees it: our own
pub record Arrival : Type 0 where
  pub source : ℕ
  pub films : List ℕ
  pub received : Bool

-- what was sent to another branch, as its sender sees it: not whether it was received (our own)
pub record Parcel : Type 0 where
  pub addressee : ℕ
  pub films : List ℕ

-- ---- requests: commands change books and carry a key, readings change nothing and carry none (our own)

pub data Act : Type 0 where
  AddCustomer : NewCustomer → Act
  SetActive : ℕ → Bool → Act  -- customer
  Rent : ℕ → ℕ → Act  -- customer, copy
  TakeBack : ℕ → Act  -- rental
  Pay : ℕ → Option ℕ → ℕ → Act  -- customer, rental, amount
  Import : Text → Text → Act  -- lot, stock file
  Dispatch : ℕ → List ℕ → Act  -- addressee, copies
  Receive : ℕ → ℕ → List ℕ → Act  -- source, number, missing lines
  Scrap : ℕ → Act  -- copy

-- a branch's command, with the staff who gives it and its moment, which is also that of the row that it adds
pub record Command : Type 0 where
  pub key : Text
  pub staff : ℕ
  pub moment : Moment
  pub act : Act

-- by which rule balances go: the manual's code, or the charge that its script names in a comment beside it. That there is a choice is our own
pub data Rule : Type 0 where
  ByCode : Rule
  ByComment : Rule

pub data OfficeAct : Type 0 where
  AddCountry : Text → OfficeAct
  AddCity : City → OfficeAct
  AddLanguage : Text → OfficeAct
  AddCategory : Text → OfficeAct
  AddActor : Actor → OfficeAct
  AddFilm : Film → OfficeAct
  PriceFilm : ℕ → ℕ → OfficeAct  -- film, rate
  WithdrawFilm : ℕ → OfficeAct
  AddCast : Cast → OfficeAct
  AddBranch : Branch → OfficeAct
  AddStaff : Staff → OfficeAct
  StaffLeaves : ℕ → OfficeAct
  SetManager : ℕ → ℕ → OfficeAct  -- branch, staff
  ChooseRule : Rule → OfficeAct

pub record OfficeCommand : Type 0 where
  pub key : Text
  pub act : OfficeAct

-- the six views of the manual that are taken over
pub data View : Type 0 where
  CustomerList : View
  StaffList : View
  FilmList : View
  ActorInfo : View
  SalesByStore : View
  SalesByCategory : View

pub data Ask : Type 0 where
  OneCustomer : ℕ → Ask
  OneFilm : ℕ → Ask
  InStock : ℕ → Ask
  HeldBy : ℕ → Ask
  FilmInStock : ℕ → Ask
  FilmNotInStock : ℕ → Ask
  Balance : ℕ → Moment → Ask
  Overdue : Moment → Ask
  Rewards : Moment → ℕ → ℕ → Ask  -- moment, purchases, cents
  Arrivals : Ask
  SentOff : Ask
  OneView : View → Ask

pub data OfficeAsk : Type 0 where
  Sales : OfficeAsk
  Custody : ℕ → ℕ → OfficeAsk  -- the mark
  Transit : OfficeAsk
  Audit : OfficeAsk

-- what a stock file says: a copy's film each, or the line at fault
pub data Stock : Type 0 where
  Copies : List ℕ → Stock
  BadLine : ℕ → Stock

-- what is fixed for a chain: how many kept keys a caller may have and how many copies a branch, and how stock files are read
pub record Rules : Type 0 where
  pub commands : ℕ
  pub copies : ℕ
  pub stock_of : Text → Stock
