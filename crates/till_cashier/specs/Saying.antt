-- What is printed of an answer to an act.
use Rattle.std.specs.Prelude.{◌≡◌, ◌==◌, ◌⊎◌, ◌/◌, ◌%◌, ⊤, ℕ, pos, Bool, true, false, if◌then◌else◌, [], ◌++◌, Option, None, Some, codes, decimal}
use Rattle.std.specs.List.{ends_with}
use Rattle.shop_model.specs.Answers.{Answer}
use Rattle.shop_model.specs.Calendar.{Moment, seconds_of}
use Rattle.shop_model.specs.Values.{Text, Act, AddCustomer, SetActive, Rent, TakeBack, Pay, Import, Dispatch, Receive, Scrap}
use Rattle.shop_types.specs.declared.refusal.Refusal.{Refusal}
use Rattle.till_requests.specs.SheetRows.{Row, row_in_sheet}
use Rattle.till_shows.specs.Lists.{named_in}
use Rattle.till_shows.specs.Looks.{reply_in}
use Rattle.till_shows.specs.Money.{money_text}
use Rattle.till_shows.specs.Refusals.{refusal_text}
use Rattle.till_shows.specs.Times.{day_text}
use Rattle.till_shows.specs.Refused.{HasRefusal, has_short_line}

-- the lines, the last one too ended by a line feed
abbrev pub ended : Text → Text
ended lines = if ends_with ◌==◌ lines (codes "\n") then lines else lines ++ codes "\n"

-- the program's status for an answer with that status: 0 if the server did what was asked for, and 1 if not
abbrev pub status_of : ℕ → ℕ
status_of status = if status == 200 then 0 else 1

-- ---- an answer by itself

-- no refusal is found in the answer
abbrev pub IsNoRefusal : Answer → Type 0
IsNoRefusal answer = (it : Refusal) → has_short_line it ≡ true → ¬ HasRefusal answer.status answer.body it

-- the text says what the refusal in the answer means
abbrev pub SaysRefusal : Answer → Text → Type 0
SaysRefusal answer text = (it : Refusal) × HasRefusal answer.status answer.body it × (text ≡ ended (refusal_text it))

-- The text says all of the answer: with `--json` its body as it is, else what its refusal means.
abbrev pub SaysAll : Bool → Answer → Text → Type 0
SaysAll true answer text = text ≡ ended answer.body
SaysAll false answer text = SaysRefusal answer text

-- All of the answer was added to the text, if it was to be said by itself. Else nothing was: the answer is no refusal, and there is no `--json`.
abbrev pub AddsAll : Bool → Answer → Bool → Text → Text → Type 0
AddsAll json answer true old new = (text : Text) × SaysAll json answer text × (new ≡ old ++ text)
AddsAll json answer false old new = (json ≡ false) × IsNoRefusal answer × (new ≡ old)

-- the text is the line of an accepted act's reply, and the end of that line
abbrev pub SaysReply : Answer → Text → Text → Type 0
SaysReply answer end text = IsNoRefusal answer × ((line : Text) × (reply_in answer.body ≡ Some line) × (text ≡ ended (line ++ end)))

-- The text says the outcome of an act: with `--json` the body as it is, else what a refusal means, or the reply's line with that end.
abbrev pub SaysOutcome : Bool → Answer → Text → Text → Type 0
SaysOutcome true answer end text = text ≡ ended answer.body
SaysOutcome false answer end text = SaysRefusal answer text ⊎ SaysReply answer end text

-- The text says an answer to head office: with `--json` the body as it is, else what a refusal means, or the body.
abbrev pub SaysOfficeAnswer : Bool → Answer → Text → Type 0
SaysOfficeAnswer true answer text = text ≡ ended answer.body
SaysOfficeAnswer false answer text = SaysRefusal answer text ⊎ (IsNoRefusal answer × (text ≡ ended answer.body))

-- ---- the end of an accepted act's line

-- a list has that name for the customer
abbrev pub IsListed : ℕ → Text → Type 0
IsListed customer name = (list : Text) × (named_in (codes "id") customer (codes "name") list ≡ Some (Some name))

-- a customer's name in some list, or the number
abbrev pub IsCalled : ℕ → Text → Type 0
IsCalled customer name = IsListed customer name ⊎ (name ≡ codes "customer " ++ decimal customer)

-- so is the customer of a rent or a payment called; of another act nothing is said
abbrev pub IsCalledIn : Act → Text → Type 0
IsCalledIn (Rent customer copy) name = IsCalled customer name
IsCalledIn (Pay customer rental amount) name = IsCalled customer name
IsCalledIn (AddCustomer it) name = ⊤
IsCalledIn (SetActive customer active) name = ⊤
IsCalledIn (TakeBack rental) name = ⊤
IsCalledIn (Import lot file) name = ⊤
IsCalledIn (Dispatch to copies) name = ⊤
IsCalledIn (Receive source number missing) name = ⊤
IsCalledIn (Scrap copy) name = ⊤

-- the title is the one that the sheet has of the copy
abbrev pub IsTitleOf : Text → ℕ → Option Text → Type 0
IsTitleOf sheet copy None = ⊤
IsTitleOf sheet copy (Some title) = (row : Row) × (row_in_sheet copy sheet ≡ Some (Some row)) × (row.title ≡ title)

-- so is the title of a rent; of another act nothing is said
abbrev pub IsTitleIn : Text → Act → Option Text → Type 0
IsTitleIn sheet (Rent customer copy) title = IsTitleOf sheet copy title
IsTitleIn sheet (Pay customer rental amount) title = ⊤
IsTitleIn sheet (AddCustomer it) title = ⊤
IsTitleIn sheet (SetActive customer active) title = ⊤
IsTitleIn sheet (TakeBack rental) title = ⊤
IsTitleIn sheet (Import lot file) title = ⊤
IsTitleIn sheet (Dispatch to copies) title = ⊤
IsTitleIn sheet (Receive source number missing) title = ⊤
IsTitleIn sheet (Scrap copy) title = ⊤

abbrev pub title_text : Option Text → Text
title_text None = []
title_text (Some title) = codes " (" ++ (title ++ codes ")")

-- 1 January 1970, day 0, was a Thursday
abbrev pub weekday_name : ℕ → Text
weekday_name day =
    if day == 0 then codes "Thursday"
    else (if day == 1 then codes "Friday"
    else (if day == 2 then codes "Saturday"
    else (if day == 3 then codes "Sunday"
    else (if day == 4 then codes "Monday"
    else (if day == 5 then codes "Tuesday" else codes "Wednesday")))))

abbrev pub weekday_text : Moment → Text
weekday_text m = weekday_name (seconds_of m / 86_400 % 7)

abbrev pub due_text : Option Moment → Text
due_text None = []
due_text (Some due) = codes ", due " ++ (weekday_text due ++ (codes " " ++ day_text due))

-- the end of an accepted act's line, with the customer's name, the film's title and the rental's last day
abbrev pub end_text : Act → Text → Option Text → Option Moment → Text
end_text (Rent customer copy) name title due = codes ": copy " ++ (decimal copy ++ (title_text title ++ (codes " to " ++ (name ++ due_text due))))
end_text (Pay customer rental amount) name title due = codes ": " ++ (money_text (pos amount) ++ (codes " from " ++ name))
end_text (AddCustomer it) name title due = codes ": " ++ (it.person.first ++ (codes " " ++ it.person.last))
end_text (SetActive customer active) name title due = []
end_text (TakeBack rental) name title due = []
end_text (Import lot file) name title due = []
end_text (Dispatch to copies) name title due = []
end_text (Receive source number missing) name title due = []
end_text (Scrap copy) name title due = []

-- that end, if the act was accepted
abbrev pub IsEnd : Bool → Act → Option Text → Option Moment → Text → Type 0
IsEnd true act title due end = (name : Text) × IsCalledIn act name × (end ≡ end_text act name title due)
IsEnd false act title due end = end ≡ []

-- the text says the outcome of the act, with the end of its line
abbrev pub TellsOutcome : Bool → Act → Option Text → Option Moment → Answer → Text → Type 0
TellsOutcome json act title due answer text =
    (end : Text) × (json ≡ false → IsEnd (answer.status == 200) act title due end) × SaysOutcome json answer end text
