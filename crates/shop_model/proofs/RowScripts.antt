-- The words in which the worked rows are written: who asks what, and what is answered.
use Rattle.std.specs.Prelude.{◌≡◌, ℕ, List, [], ◌∷◌, map, Some}
use Rattle.std.specs.Fmt.{digits}
use Rattle.shop_model.specs.Calendar.{day_of, day_number, days_of_years, days_of_months, seconds_of}
use Rattle.shop_model.specs.Json.{escape_byte}
use Rattle.shop_model.specs.Values.{NewCustomer}
use Rattle.shop_model.proofs.Common.{if◌then◌else◌, codes, bytes_eq, Moment, Text, Person, Act, OfficeAct, Ask, OfficeAsk, Stock, Copies, BadLine, Rules}
use Rattle.shop_model.proofs.Common.{Request, Do, Look, Office, OfficeLook, Reply, Answer, answer_of, token_of, opening_books, Books, Event, Caller, run}
use Rattle.shop_model.proofs.Common.{last_books, office_look}

-- ---- moments

abbrev pub moment : ℕ → ℕ → ℕ → ℕ → ℕ → ℕ → Moment
moment year month day hour minute second = record { year = year; month = month; day = day; hour = hour; minute = minute; second = second }

-- the first of March 2026, at ten
abbrev pub ten : Moment
ten = moment 2026 3 1 10 0 0

-- midnight, at which a day of March 2026 begins
abbrev pub march : ℕ → Moment
march day = moment 2026 3 day 0 0 0

-- ---- stock files: what each text of a row says, as far as the row needs it

abbrev pub stock_in : List (Text × Stock) → Text → Stock
stock_in [] file = BadLine 1
stock_in (it ∷ files) file = if bytes_eq it.0 file then it.1 else stock_in files file

-- three copies of the first film and one of the second
abbrev pub four_copies : Text
four_copies = codes "film_id,copies\n1,3\n2,1"

abbrev pub three_copies : Text
three_copies = codes "film_id,copies\n1,3"

abbrev pub two_copies : Text
two_copies = codes "film_id,copies\n1,2"

abbrev pub one_copy : Text
one_copy = codes "film_id,copies\n1,1"

abbrev pub one_comedy : Text
one_comedy = codes "film_id,copies\n2,1"

abbrev pub two_and_unknown : Text
two_and_unknown = codes "film_id,copies\n1,2\n9,1"

-- a record of no copies, which a stock file may not have
abbrev pub none_on_third_line : Text
none_on_third_line = codes "film_id,copies\n1,2\n2,0"

abbrev pub header_alone : Text
header_alone = codes "film_id,copies"

abbrev pub stock : Text → Stock
stock = stock_in (
    (four_copies, Copies (1 ∷ 1 ∷ 1 ∷ 2 ∷ []))
    ∷ (three_copies, Copies (1 ∷ 1 ∷ 1 ∷ []))
    ∷ (two_copies, Copies (1 ∷ 1 ∷ []))
    ∷ (one_copy, Copies (1 ∷ []))
    ∷ (one_comedy, Copies (2 ∷ []))
    ∷ (two_and_unknown, Copies (1 ∷ 1 ∷ 9 ∷ []))
    ∷ (none_on_third_line, BadLine 3)
    ∷ (header_alone, BadLine 2)
    ∷ [])

abbrev pub limited : ℕ → ℕ → Rules
limited commands copies = record { commands = commands; copies = copies; stock_of = stock }

abbrev pub rules : Rules
rules = limited 1000000 1000000

-- ---- requests

abbrev pub sends : ℕ → Request → Event
sends digit request = record { token = Some (token_of digit); request = λ _. request }

-- a command of a branch, by a member of its staff
abbrev pub does_by : ℕ → ℕ → Text → Moment → Act → Event
does_by b staff key at act = sends b (Do (record { key = key; staff = staff; moment = at; act = act }))

-- in the opening rows the staff of a branch have its number
abbrev pub does : ℕ → Text → Moment → Act → Event
does b key at act = does_by b b key at act

abbrev pub asks : ℕ → Ask → Event
asks b ask = sends b (Look ask)

abbrev pub orders : Text → OfficeAct → Event
orders key act = sends 0 (Office (record { key = key; act = act }))

abbrev pub wants : OfficeAsk → Event
wants ask = sends 0 (OfficeLook ask)

abbrev pub named : Text → Person
named first = record { first = first; last = codes "SMITH"; address = codes "1 Main"; postal = []; phone = codes "555"; city = 1 }

abbrev pub newcomer : Text → NewCustomer
newcomer first = record { person = named first }

abbrev pub mary : NewCustomer
mary = newcomer (codes "MARY")

-- ---- answers

abbrev pub ok : Text → Answer
ok body = record { status = 200; body = body }

-- the refusal of a command or look
abbrev pub no : Text → Answer
no body = record { status = 409; body = body }

-- requests, each with what it is answered
abbrev pub Script : Type 0
Script = List (Event × Answer)

abbrev pub books_after : Rules → Script → Books
books_after rules script = last_books rules (map (λ (it : Event × Answer). it.0) script) opening_books

-- the requests are answered so over these books
abbrev pub PlaysOn : Rules → Books → Script → Type 0
PlaysOn rules books script =
    map (λ (it : Caller × Reply). answer_of it.1) (run rules office_look (map (λ (it : Event × Answer). it.0) script) books)
    ≡ map (λ (it : Event × Answer). it.1) script

-- and so on the opening rows, after the requests of another script
abbrev pub Plays : Rules → Script → Script → Type 0
Plays rules earlier script = PlaysOn rules (books_after rules earlier) script

-- what the rows compute with: to unfold this is to unfold those words
unfoldable pub computing : Unit {0}
unfolding digits escape_byte day_of day_number days_of_years days_of_months seconds_of
computing = tt
