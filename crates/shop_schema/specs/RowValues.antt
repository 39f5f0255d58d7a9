-- Which rows the program can hold: the ranges and forms of their values, as the shop's profile sets them. And the columns of each table's rows: the values in
-- SQL, as they come from the rows of the books. A moment is its text, so that the order of bytes is the order of time; a truth value is 0 or 1; what may be
-- missing is NULL.
use Rattle.std.specs.Prelude.{◌≡◌, ◌≤◌, ◌<◌, ◌^◌, ℕ, ◌||◌, List, [], ◌∷◌, ◌++◌, map, length, true, codes, IsUtf8, IfSome}
use Rattle.std.specs.List.{AllByRecursion}
use Rattle.std.specs.Str.{bytes_eq}
use Rattle.sqlite.specs.declared.types.Value.{Value}
use Rattle.sqlite.specs.declared.types.Value.TheVariants.{Text}
use Rattle.sqlite.specs.Values.{or_null}
use Rattle.sqlite_value.specs.Order as sql
use Rattle.sql_rows.specs.Rows.{number_value, flag_value}
use Rattle.shop_types.specs.Numbers.{is_row_number}
use Rattle.shop_types.specs.Texts.{is_text, is_key, is_token}
use Rattle.shop_model.specs.Calendar.{Moment, IsMoment, moment_text}
use Rattle.shop_model.specs.Rows.{Row, Owned, numbered, owned_by}
use Rattle.shop_model.specs.Values.{Person, City, Actor, Film, Cast, Branch, Staff, Customer, CopyState, Here, Sent, Scrapped, Rental, Terms, Rule, ByCode}
use Rattle.shop_model.specs.Values.{ByComment, Payment}
use Rattle.shop_model.specs.Values as model
use Rattle.shop_model.specs.Books.{Mark, BookCopy, LineState, UnderWay, Arrived, Missing, Line, Consignment, Table, Customers, CopyRows, Rentals, TermRows}
use Rattle.shop_model.specs.Books.{Payments, RowOf, RowsOf, head}
use Rattle.shop_types.specs.Films.{features_text}
use Rattle.shop_types.specs.declared.film.Features.{Features}
use Rattle.shop_schema.specs.Counts.{Count, Out, Pair}

-- the number of a row, from 1 to 4,294,967,295
abbrev pub IsNumber : ℕ → Type 0
IsNumber n = is_row_number n ≡ true

-- a text of so many bytes, without control bytes
abbrev pub IsText : ℕ → ℕ → model.Text → Type 0
IsText low high text = (is_text low high text ≡ true) × IsUtf8 text

-- 1 to 45 bytes
abbrev pub IsName : model.Text → Type 0
IsName = IsText 1 45

abbrev pub IsKey : model.Text → Type 0
IsKey key = is_key key ≡ true

abbrev pub IsToken : model.Text → Type 0
IsToken token = is_token token ≡ true

abbrev pub moment_value : Moment → Value
moment_value moment = Text (moment_text moment)

pub record IsPerson (it : Person) : Type 0 where
  pub first : IsName it.first
  pub last : IsName it.last
  pub address : IsText 1 128 it.address
  pub postal : IsText 0 45 it.postal
  pub phone : IsText 0 45 it.phone
  pub city : IsNumber it.city

-- names, address and city of a person
abbrev pub person_columns : Person → sql.Row
person_columns person = Text person.first ∷ Text person.last ∷ Text person.address ∷ Text person.postal ∷ Text person.phone ∷ number_value person.city ∷ []

-- ---- shared rows, each with its number

-- a shared row, with its number
abbrev pub IsShared : {A : Type 0} → (A → Type 0) → ℕ × A → Type 0
IsShared P it = IsNumber it.0 × P it.1

-- the version of this program's tables
abbrev pub this_version : ℕ
this_version = 2

-- the version before, in which no rental had terms of its own
abbrev pub first_version : ℕ
first_version = 1

-- the one row of the table `chain`, in any version
abbrev pub versioned_columns : ℕ → model.Text → sql.Row
versioned_columns version office_token = number_value version ∷ Text office_token ∷ []

abbrev pub chain_columns : model.Text → sql.Row
chain_columns office_token = versioned_columns this_version office_token

-- a country, a language or a category
abbrev pub named_columns : ℕ × model.Text → sql.Row
named_columns it = number_value it.0 ∷ Text it.1 ∷ []

abbrev pub IsCity : City → Type 0
IsCity it = IsName it.name × IsNumber it.country

abbrev pub city_columns : ℕ × City → sql.Row
city_columns it = number_value it.0 ∷ Text it.1.name ∷ number_value it.1.country ∷ []

abbrev pub IsActor : Actor → Type 0
IsActor it = IsName it.first × IsName it.last

abbrev pub actor_columns : ℕ × Actor → sql.Row
actor_columns it = number_value it.0 ∷ Text it.1.first ∷ Text it.1.last ∷ []

-- a rating of the sample database
abbrev pub IsRating : model.Text → Type 0
IsRating t = (bytes_eq t (codes "G") || bytes_eq t (codes "PG") || bytes_eq t (codes "PG-13") || bytes_eq t (codes "R") || bytes_eq t (codes "NC-17")) ≡ true

-- special features of the sample database, in its order, with commas between
abbrev pub IsFeatures : model.Text → Type 0
IsFeatures t = (features : Features) × (features_text features ≡ t)

-- the period in days, money in cents, the length in minutes
pub record IsFilm (it : Film) : Type 0 where
  pub title : IsText 1 128 it.title
  pub description : IsText 0 500 it.description
  pub language : IsNumber it.language
  pub category : IsNumber it.category
  pub period : (1 ≤ it.period) × (it.period ≤ 255)
  pub rate : it.rate ≤ 9_999
  pub replacement : it.replacement ≤ 99_999
  pub minutes : IfSome it.minutes (λ n. (1 ≤ n) × (n ≤ 65_535))
  pub rating : IsRating it.rating
  pub features : IsFeatures it.features

abbrev pub film_columns : ℕ × Film → sql.Row
film_columns it =
    number_value it.0 ∷ Text it.1.title ∷ Text it.1.description ∷ number_value it.1.language ∷ number_value it.1.category ∷ number_value it.1.period
    ∷ number_value it.1.rate ∷ number_value it.1.replacement ∷ or_null number_value it.1.minutes
    ∷ Text it.1.rating ∷ Text it.1.features ∷ flag_value it.1.withdrawn ∷ []

abbrev pub IsCast : Cast → Type 0
IsCast it = IsNumber it.film × IsNumber it.actor

abbrev pub cast_columns : Cast → sql.Row
cast_columns cast = number_value cast.film ∷ number_value cast.actor ∷ []

pub record IsBranch (it : Branch) : Type 0 where
  pub token : IsToken it.token
  pub address : IsText 1 128 it.address
  pub postal : IsText 0 45 it.postal
  pub phone : IsText 0 45 it.phone
  pub city : IsNumber it.city
  pub manager : IfSome it.manager IsNumber

abbrev pub IsLast : Owned Moment → Type 0
IsLast row = IsMoment row.it

-- the last moment of a branch stands in its row
abbrev pub branch_columns : List (Owned Moment) → ℕ × Branch → sql.Row
branch_columns lasts it =
    number_value it.0 ∷ Text it.1.token ∷ Text it.1.address ∷ Text it.1.postal ∷ Text it.1.phone ∷ number_value it.1.city ∷ or_null number_value it.1.manager
    ∷ or_null moment_value (head (owned_by it.0 lasts)) ∷ []

abbrev pub IsStaff : Staff → Type 0
IsStaff it = IsNumber it.branch × IsPerson it.person

abbrev pub staff_columns : ℕ × Staff → sql.Row
staff_columns it = number_value it.0 ∷ number_value it.1.branch ∷ person_columns it.1.person ++ flag_value it.1.gone ∷ []

-- ---- rows of a branch, each with the branch and its number there

abbrev pub IsRow : {A : Type 0} → (A → Type 0) → Row A → Type 0
IsRow P row = IsNumber row.branch × IsNumber row.number × P row.it

abbrev pub IsCustomer : Customer → Type 0
IsCustomer it = IsPerson it.person × IsMoment it.created

abbrev pub customer_columns : Row Customer → sql.Row
customer_columns row =
    number_value row.branch ∷ number_value row.number ∷ person_columns row.it.person ++ flag_value row.it.active ∷ moment_value row.it.created ∷ []

abbrev pub IsMark : Mark → Type 0
IsMark it = IsNumber it.branch × IsNumber it.copy

abbrev pub IsCopy : BookCopy → Type 0
IsCopy it = IsNumber it.film × IsMark it.mark

abbrev pub state_value : CopyState → Value
state_value Here = number_value 0
state_value Sent = number_value 1
state_value Scrapped = number_value 2

-- the last two columns are the mark: where the copy was imported, and its number there
abbrev pub copy_columns : Row BookCopy → sql.Row
copy_columns row =
    number_value row.branch ∷ number_value row.number ∷ number_value row.it.film
    ∷ state_value row.it.state ∷ number_value row.it.mark.branch ∷ number_value row.it.mark.copy ∷ []

pub record IsRental (it : Rental) : Type 0 where
  pub rented : IsMoment it.rented
  pub copy : IsNumber it.copy
  pub customer : IsNumber it.customer
  pub returned : IfSome it.returned IsMoment
  pub staff : IsNumber it.staff

abbrev pub rental_columns : Row Rental → sql.Row
rental_columns row =
    number_value row.branch ∷ number_value row.number ∷ moment_value row.it.rented ∷ number_value row.it.copy ∷ number_value row.it.customer
    ∷ or_null moment_value row.it.returned ∷ number_value row.it.staff ∷ []

-- what a film's row may have of them
pub record IsTerms (it : Terms) : Type 0 where
  pub rate : it.rate ≤ 9_999
  pub period : (1 ≤ it.period) × (it.period ≤ 255)
  pub replacement : it.replacement ≤ 99_999

-- the number is that of the rental
abbrev pub terms_columns : Row Terms → sql.Row
terms_columns row =
    number_value row.branch ∷ number_value row.number ∷ number_value row.it.rate ∷ number_value row.it.period ∷ number_value row.it.replacement ∷ []

-- an amount in cents
pub record IsPayment (it : Payment) : Type 0 where
  pub customer : IsNumber it.customer
  pub staff : IsNumber it.staff
  pub rental : IfSome it.rental IsNumber
  pub amount : it.amount ≤ 99_999
  pub paid : IsMoment it.paid

abbrev pub payment_columns : Row Payment → sql.Row
payment_columns row =
    number_value row.branch ∷ number_value row.number ∷ number_value row.it.customer ∷ number_value row.it.staff ∷ or_null number_value row.it.rental
    ∷ number_value row.it.amount ∷ moment_value row.it.paid ∷ []

-- by table, what the program can hold of what a row says, and of a table's rows
abbrev pub IsRowOf : (t : Table) → RowOf t → Type 0
IsRowOf Customers it = IsCustomer it
IsRowOf CopyRows it = IsCopy it
IsRowOf Rentals it = IsRental it
IsRowOf TermRows it = IsTerms it
IsRowOf Payments it = IsPayment it

abbrev pub AreRowValues : (t : Table) → RowsOf t → Type 0
AreRowValues t rows = AllByRecursion (IsRow (IsRowOf t)) rows

-- a lot's name is of the form of keys
abbrev pub IsLot : Owned model.Text → Type 0
IsLot row = IsNumber row.owner × IsKey row.it

abbrev pub lot_columns : Owned model.Text → sql.Row
lot_columns row = number_value row.owner ∷ Text row.it ∷ []

-- ---- consignments, with their lines in a table of their own

abbrev pub IsLine : Line → Type 0
IsLine it = IsNumber it.film × IsMark it.mark

-- The place is no row's number, since it counts the consignments of the whole chain.
abbrev pub IsPlace : ℕ → Type 0
IsPlace n = (1 ≤ n) × (n < 2 ^ 63)

-- the number of each line is a row's
pub record IsConsignment (it : Consignment) : Type 0 where
  pub source : IsNumber it.source
  pub addressee : IsNumber it.addressee
  pub number : IsNumber it.number
  pub place : IsPlace it.place
  pub few : length it.lines < 2 ^ 32
  pub lines : AllByRecursion IsLine it.lines

abbrev pub consignment_columns : Consignment → sql.Row
consignment_columns it = number_value it.source ∷ number_value it.addressee ∷ number_value it.number ∷ number_value it.place ∷ flag_value it.received ∷ []

abbrev pub line_value : LineState → Value
line_value UnderWay = number_value 0
line_value Arrived = number_value 1
line_value Missing = number_value 2

-- a line with its number in the consignment
abbrev pub line_columns : Consignment → ℕ × Line → sql.Row
line_columns it line =
    number_value it.source ∷ number_value it.addressee ∷ number_value it.number ∷ number_value line.0 ∷ number_value line.1.film
    ∷ number_value line.1.mark.branch ∷ number_value line.1.mark.copy ∷ line_value line.1.state ∷ []

abbrev pub line_rows : Consignment → List sql.Row
line_rows it = map (line_columns it) (numbered it.lines)

-- ---- counts

abbrev pub counter_columns : Count → sql.Row
counter_columns it = number_value it.caller ∷ number_value it.kind ∷ number_value it.last ∷ []

abbrev pub out_columns : Out → sql.Row
out_columns it = number_value it.branch ∷ number_value it.copy ∷ number_value it.rental ∷ []

abbrev pub pair_columns : Pair → sql.Row
pair_columns it = number_value it.source ∷ number_value it.addressee ∷ number_value it.last ∷ []

-- ---- the rule

abbrev pub rule_value : Rule → Value
rule_value ByCode = number_value 0
rule_value ByComment = number_value 1

-- the one row of the table `chain_rule`
abbrev pub rule_columns : Rule → sql.Row
rule_columns rule = rule_value rule ∷ []
