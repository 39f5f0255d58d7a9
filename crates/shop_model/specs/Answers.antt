-- What a caller is sent for a reply: a status and a body. A body is JSON, its members in the byte order of their names; the names are our own.
use Rattle.std.specs.Prelude.{ℕ, ◌+◌, ◌==◌, List, [], ◌∷◌, ◌++◌, length, map, filter, codes, decimal}
use Rattle.std.specs.Fmt.{signed_decimal}
use Rattle.shop_model.specs.Calendar.{moment_text}
use Rattle.shop_model.specs.Values.{Text, Customer, Film, Arrival, Parcel}
use Rattle.shop_model.specs.Refusals.{BadCsv, Problem, Decision, problem_name, problem_status}
use Rattle.shop_model.specs.Json.{quoted, flag_text, number_or_null, array, numbers_text, object}
use Rattle.shop_model.specs.Machine.{Shown, CustomerIs, FilmIs, InStockIs, HolderIs, CopiesAre, BalanceIs, RowsAre, CustomersAre, ArrivalsAre, SentAre, HereAt}
use Rattle.shop_model.specs.Machine.{UnderWayTo, Gone, TransitIs, AuditIs, Reply, Sorry, Done, Shows}

pub record Answer : Type 0 where
  pub status : ℕ
  pub body : Text

-- ---- rows

abbrev pub customer_text : ℕ → Customer → Text
customer_text number it = object (
    (codes "active", flag_text it.active)
    ∷ (codes "address", quoted it.person.address)
    ∷ (codes "city", decimal it.person.city)
    ∷ (codes "created", quoted (moment_text it.created))
    ∷ (codes "customer", decimal number)
    ∷ (codes "first", quoted it.person.first)
    ∷ (codes "last", quoted it.person.last)
    ∷ (codes "phone", quoted it.person.phone)
    ∷ (codes "postal", quoted it.person.postal)
    ∷ [])

abbrev pub film_text : ℕ → Film → Text
film_text number it = object (
    (codes "category", decimal it.category)
    ∷ (codes "description", quoted it.description)
    ∷ (codes "features", quoted it.features)
    ∷ (codes "film", decimal number)
    ∷ (codes "language", decimal it.language)
    ∷ (codes "length", number_or_null it.minutes)
    ∷ (codes "period", decimal it.period)
    ∷ (codes "rate", decimal it.rate)
    ∷ (codes "rating", quoted it.rating)
    ∷ (codes "replacement", decimal it.replacement)
    ∷ (codes "title", quoted it.title)
    ∷ (codes "withdrawn", flag_text it.withdrawn)
    ∷ [])

-- the customer who has the copy, or null
abbrev pub holder_text : List ℕ → Text
holder_text [] = codes "null"
holder_text (customer ∷ _) = decimal customer

-- ---- consignments, each with its number among the consignments of the same source, or to the same addressee

abbrev pub arrivals_text : List Arrival → List Arrival → List Text
arrivals_text earlier [] = []
arrivals_text earlier (it ∷ later) =
    object (
    (codes "films", numbers_text it.films)
    ∷ (codes "from", decimal it.source)
    ∷ (codes "number", decimal (length (filter (λ (other : Arrival). other.source == it.source) earlier) + 1))
    ∷ (codes "received", flag_text it.received)
    ∷ [])
    ∷ arrivals_text (it ∷ earlier) later

abbrev pub sent_text : List Parcel → List Parcel → List Text
sent_text earlier [] = []
sent_text earlier (it ∷ later) =
    object (
    (codes "films", numbers_text it.films)
    ∷ (codes "number", decimal (length (filter (λ (other : Parcel). other.addressee == it.addressee) earlier) + 1))
    ∷ (codes "to", decimal it.addressee)
    ∷ [])
    ∷ sent_text (it ∷ earlier) later

abbrev pub transit_text : ℕ × ℕ × ℕ × List ℕ → Text
transit_text it = object ((codes "films", numbers_text it.3) ∷ (codes "from", decimal it.0) ∷ (codes "number", decimal it.2) ∷ (codes "to", decimal it.1) ∷ [])

-- ---- bodies

abbrev pub shown_text : Shown → Text
shown_text (CustomerIs number it) = customer_text number it
shown_text (FilmIs number it) = film_text number it
shown_text (InStockIs is) = object ((codes "in_stock", flag_text is) ∷ [])
shown_text (HolderIs customers) = object ((codes "customer", holder_text customers) ∷ [])
shown_text (CopiesAre numbers) = object ((codes "copies", numbers_text numbers) ∷ (codes "count", decimal (length numbers)) ∷ [])
shown_text (BalanceIs cents) = object ((codes "balance", signed_decimal cents) ∷ [])
shown_text (RowsAre texts) = array texts
shown_text (CustomersAre numbers) = object ((codes "count", decimal (length numbers)) ∷ (codes "customers", numbers_text numbers) ∷ [])
shown_text (ArrivalsAre arrivals) = array (arrivals_text [] arrivals)
shown_text (SentAre parcels) = array (sent_text [] parcels)
shown_text (HereAt b x) = object ((codes "branch", decimal b) ∷ (codes "copy", decimal x) ∷ (codes "place", quoted (codes "here")) ∷ [])
shown_text (UnderWayTo source addressee number) =
    object
    ((codes "from", decimal source) ∷ (codes "number", decimal number) ∷ (codes "place", quoted (codes "transit")) ∷ (codes "to", decimal addressee) ∷ [])
shown_text Gone = object ((codes "place", quoted (codes "gone")) ∷ [])
shown_text (TransitIs rows) = array (map transit_text rows)
shown_text (AuditIs sound made here transit gone) =
    object ((codes "gone", decimal gone) ∷ (codes "here", decimal here) ∷ (codes "made", decimal made)
    ∷ (codes "sound", flag_text sound) ∷ (codes "transit", decimal transit) ∷ [])

-- the line of a stock file's fault, where that is the problem
abbrev pub line_member : Problem → List (Text × Text)
line_member (Decision (BadCsv line)) = (codes "line", decimal line) ∷ []
line_member problem = []

abbrev pub problem_text : Problem → Text
problem_text problem = object (line_member problem ++ (codes "refused", quoted (problem_name problem)) ∷ [])

abbrev pub problem_answer : Problem → Answer
problem_answer problem = record { status = problem_status problem; body = problem_text problem }

abbrev pub accepted_answer : Text → Answer
accepted_answer text = record { status = 200; body = text }

abbrev pub answer_of : Reply → Answer
answer_of (Sorry refusal) = problem_answer (Decision refusal)
answer_of (Done text) = accepted_answer text
answer_of (Shows shown) = accepted_answer (shown_text shown)
