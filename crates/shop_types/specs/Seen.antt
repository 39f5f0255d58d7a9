-- What the program's values mean in the definitions of the shop.
use Rattle.std.specs.Prelude.{ℕ, false, None}
use Rattle.shop_model.specs.Values as model
use Rattle.shop_model.specs.Machine as machine
use Rattle.shop_model.specs.Books as books
use Rattle.shop_model.specs.Refusals as named
use Rattle.shop_types.specs.declared.audit.Audit.{Audit}
use Rattle.shop_types.specs.declared.person.Person.{Person}
use Rattle.shop_types.specs.declared.person.Customer.{Customer}
use Rattle.shop_types.specs.declared.person.NewCustomer.{NewCustomer}
use Rattle.shop_types.specs.declared.rental.Rental.{Rental}
use Rattle.shop_types.specs.declared.rental.Terms.{Terms}
use Rattle.shop_types.specs.declared.payment.Payment.{Payment}
use Rattle.shop_types.specs.declared.custody.CopyState.{CopyState}
use Rattle.shop_types.specs.declared.custody.CopyState.TheVariants as state
use Rattle.shop_types.specs.declared.custody.LineState.{LineState}
use Rattle.shop_types.specs.declared.custody.LineState.TheVariants as line
use Rattle.shop_types.specs.declared.custody.Mark.{Mark}
use Rattle.shop_types.specs.declared.custody.Place.{Place}
use Rattle.shop_types.specs.declared.custody.Place.TheVariants as place
use Rattle.shop_types.specs.declared.parcel.ParcelLine.{ParcelLine}
use Rattle.shop_types.specs.declared.command.Act.{Act}
use Rattle.shop_types.specs.declared.command.Act.TheVariants as act
use Rattle.shop_types.specs.declared.command.Command.{Command}
use Rattle.shop_types.specs.declared.catalogue.City.{City}
use Rattle.shop_types.specs.declared.catalogue.Actor.{Actor}
use Rattle.shop_types.specs.declared.catalogue.Branch.{Branch}
use Rattle.shop_types.specs.declared.catalogue.Staff.{Staff}
use Rattle.shop_types.specs.declared.film.Film.{Film}
use Rattle.shop_types.specs.declared.rule.Rule.{Rule}
use Rattle.shop_types.specs.declared.rule.Rule.TheVariants as rule
use Rattle.shop_types.specs.declared.office.OfficeAct.{OfficeAct}
use Rattle.shop_types.specs.declared.office.OfficeAct.TheVariants as office
use Rattle.shop_types.specs.declared.office.OfficeCommand.{OfficeCommand}
use Rattle.shop_types.specs.declared.request.Ask.{Ask}
use Rattle.shop_types.specs.declared.request.Ask.TheVariants as ask
use Rattle.shop_types.specs.declared.request.View.{View}
use Rattle.shop_types.specs.declared.request.View.TheVariants as view
use Rattle.shop_types.specs.declared.request.OfficeAsk.{OfficeAsk}
use Rattle.shop_types.specs.declared.request.OfficeAsk.TheVariants as office_ask
use Rattle.shop_types.specs.declared.request.Request.{Request}
use Rattle.shop_types.specs.declared.request.Request.TheVariants as request
use Rattle.shop_types.specs.declared.request.Caller.{Caller}
use Rattle.shop_types.specs.declared.request.Caller.TheVariants as caller
use Rattle.shop_types.specs.declared.refusal.Refusal.{Refusal}
use Rattle.shop_types.specs.declared.refusal.Refusal.TheVariants as refusal
use Rattle.shop_types.specs.Films.{rating_text, features_text}

abbrev pub seen_person : Person → model.Person
seen_person person = record {
  first = person.first;
  last = person.last;
  address = person.address;
  postal = person.postal;
  phone = person.phone;
  city = person.city;
}

abbrev pub seen_new_customer : NewCustomer → model.NewCustomer
seen_new_customer it = record { person = seen_person it.person }

abbrev pub seen_customer : Customer → model.Customer
seen_customer customer = record {
  person = seen_person customer.person;
  active = customer.active;
  created = customer.created;
}

abbrev pub seen_rental : Rental → model.Rental
seen_rental rental = record {
  rented = rental.rented;
  copy = rental.copy;
  customer = rental.customer;
  returned = rental.returned;
  staff = rental.staff;
}

abbrev pub seen_terms : Terms → model.Terms
seen_terms terms = record { rate = terms.rate; period = terms.period; replacement = terms.replacement }

abbrev pub seen_payment : Payment → model.Payment
seen_payment payment = record {
  customer = payment.customer;
  staff = payment.staff;
  rental = payment.rental;
  amount = payment.amount;
  paid = payment.paid;
}

-- ---- a branch's requests

abbrev pub seen_act : Act → model.Act
seen_act (act.Customer it) = model.AddCustomer (seen_new_customer it)
seen_act (act.Active customer active) = model.SetActive customer active
seen_act (act.Rent customer copy) = model.Rent customer copy
seen_act (act.TakeBack rental) = model.TakeBack rental
seen_act (act.Pay customer rental amount) = model.Pay customer rental amount
seen_act (act.Import lot file) = model.Import lot file
seen_act (act.Dispatch to copies) = model.Dispatch to copies
seen_act (act.Receive from number missing) = model.Receive from number missing
seen_act (act.Scrap copy) = model.Scrap copy

abbrev pub seen_command : Command → model.Command
seen_command command = record {
  key = command.key;
  staff = command.staff;
  moment = command.at;
  act = seen_act command.act;
}

abbrev pub seen_ask : Ask → model.Ask
seen_ask (ask.Customer number) = model.OneCustomer number
seen_ask (ask.Film number) = model.OneFilm number
seen_ask (ask.InStock copy) = model.InStock copy
seen_ask (ask.HeldBy copy) = model.HeldBy copy
seen_ask (ask.FilmInStock film) = model.FilmInStock film
seen_ask (ask.FilmNotInStock film) = model.FilmNotInStock film
seen_ask (ask.Balance customer at) = model.Balance customer at
seen_ask (ask.Overdue at) = model.Overdue at
seen_ask (ask.Rewards at purchases cents) = model.Rewards at purchases cents
seen_ask ask.Arrivals = model.Arrivals
seen_ask ask.Sent = model.SentOff

abbrev pub seen_caller : Caller → books.Caller
seen_caller (caller.Branch number) = books.Counter number
seen_caller caller.Office = books.HeadOffice
seen_caller caller.Nobody = books.Nobody

-- ---- head office

abbrev pub seen_city : City → model.City
seen_city city = record { name = city.name; country = city.country }

abbrev pub seen_actor : Actor → model.Actor
seen_actor actor = record { first = actor.first; last = actor.last }

-- a new film isn't withdrawn
abbrev pub seen_film : Film → model.Film
seen_film film = record {
  title = film.title;
  description = film.description;
  language = film.language;
  category = film.category;
  period = film.period;
  rate = film.rate;
  replacement = film.replacement;
  minutes = film.minutes;
  rating = rating_text film.rating;
  features = features_text film.features;
  withdrawn = false;
}

-- a new branch has no manager
abbrev pub seen_branch : Branch → model.Branch
seen_branch branch = record {
  token = branch.token;
  address = branch.address;
  postal = branch.postal;
  phone = branch.phone;
  city = branch.city;
  manager = None;
}

-- who is new hasn't left
abbrev pub seen_staff : Staff → model.Staff
seen_staff staff = record { branch = staff.branch; person = seen_person staff.person; gone = false }

abbrev pub seen_rule : Rule → model.Rule
seen_rule rule.ByCode = model.ByCode
seen_rule rule.ByComment = model.ByComment

abbrev pub seen_office_act : OfficeAct → model.OfficeAct
seen_office_act (office.Country name) = model.AddCountry name
seen_office_act (office.City city) = model.AddCity (seen_city city)
seen_office_act (office.Language name) = model.AddLanguage name
seen_office_act (office.Category name) = model.AddCategory name
seen_office_act (office.Actor actor) = model.AddActor (seen_actor actor)
seen_office_act (office.Film film) = model.AddFilm (seen_film film)
seen_office_act (office.Price film rate) = model.PriceFilm film rate
seen_office_act (office.Withdraw film) = model.WithdrawFilm film
seen_office_act (office.Cast film actor) = model.AddCast (record { film = film; actor = actor })
seen_office_act (office.Branch branch) = model.AddBranch (seen_branch branch)
seen_office_act (office.Staff staff) = model.AddStaff (seen_staff staff)
seen_office_act (office.Leave staff) = model.StaffLeaves staff
seen_office_act (office.Manager branch staff) = model.SetManager branch staff
seen_office_act (office.Rule it) = model.ChooseRule (seen_rule it)

abbrev pub seen_office : OfficeCommand → model.OfficeCommand
seen_office command = record { key = command.key; act = seen_office_act command.act }

-- ---- requests

abbrev pub seen_view : View → model.View
seen_view view.CustomerList = model.CustomerList
seen_view view.StaffList = model.StaffList
seen_view view.FilmList = model.FilmList
seen_view view.ActorInfo = model.ActorInfo
seen_view view.SalesByStore = model.SalesByStore
seen_view view.SalesByFilmCategory = model.SalesByCategory

abbrev pub seen_office_ask : OfficeAsk → model.OfficeAsk
seen_office_ask office_ask.Sales = model.Sales
seen_office_ask (office_ask.Custody mark) = model.Custody mark.branch mark.copy
seen_office_ask office_ask.Transit = model.Transit
seen_office_ask office_ask.Audit = model.Audit

abbrev pub seen_request : Request → machine.Request
seen_request (request.Do command) = machine.Do (seen_command command)
seen_request (request.Look ask) = machine.Look (seen_ask ask)
seen_request (request.View it) = machine.Look (model.OneView (seen_view it))
seen_request (request.Office command) = machine.Office (seen_office command)
seen_request (request.OfficeLook ask) = machine.OfficeLook (seen_office_ask ask)

-- ---- marks and where their copies are

abbrev pub seen_mark : Mark → books.Mark
seen_mark mark = record { branch = mark.branch; copy = mark.copy }

abbrev pub seen_state : CopyState → model.CopyState
seen_state state.Here = model.Here
seen_state state.Sent = model.Sent
seen_state state.Scrapped = model.Scrapped

abbrev pub seen_line_state : LineState → books.LineState
seen_line_state line.UnderWay = books.UnderWay
seen_line_state line.Arrived = books.Arrived
seen_line_state line.Missing = books.Missing

-- the film and the mark of a line's copy
abbrev pub seen_parcel_line : ParcelLine → ℕ × books.Mark
seen_parcel_line line = (line.film, seen_mark line.mark)

abbrev pub seen_place : Place → machine.Shown
seen_place (place.Here branch copy) = machine.HereAt branch copy
seen_place (place.Transit from to number) = machine.UnderWayTo from to number
seen_place place.Gone = machine.Gone

abbrev pub seen_audit : Audit → machine.Shown
seen_audit audit = machine.AuditIs audit.sound audit.made audit.here audit.transit audit.gone

-- ---- refusals

-- the first is found where no message is read, the last three where one can't be answered; all others are decisions
abbrev pub seen_refusal : Refusal → named.Problem
seen_refusal refusal.BadHead = named.BadHead
seen_refusal refusal.TooLong = named.Decision named.TooLong
seen_refusal refusal.NoCounter = named.Decision named.NoCounter
seen_refusal refusal.NoRoute = named.Decision named.NoRoute
seen_refusal refusal.BadBody = named.Decision named.BadBody
seen_refusal refusal.KeyUsed = named.Decision named.KeyUsed
seen_refusal refusal.Full = named.Decision named.Full
seen_refusal refusal.MomentBack = named.Decision named.MomentBack
seen_refusal refusal.NoStaff = named.Decision named.NoStaff
seen_refusal refusal.NoCustomer = named.Decision named.NoCustomer
seen_refusal refusal.CustomerInactive = named.Decision named.CustomerInactive
seen_refusal refusal.NoCopy = named.Decision named.NoCopy
seen_refusal refusal.CopyNotHere = named.Decision named.CopyNotHere
seen_refusal refusal.CopyOut = named.Decision named.CopyOut
seen_refusal refusal.FilmWithdrawn = named.Decision named.FilmWithdrawn
seen_refusal refusal.SameMoment = named.Decision named.SameMoment
seen_refusal refusal.NoRental = named.Decision named.NoRental
seen_refusal refusal.RentalReturned = named.Decision named.RentalReturned
seen_refusal refusal.WrongCustomer = named.Decision named.WrongCustomer
seen_refusal refusal.NoFilm = named.Decision named.NoFilm
seen_refusal refusal.LotIn = named.Decision named.LotIn
seen_refusal (refusal.BadCsv fault) = named.Decision (named.BadCsv fault.line)
seen_refusal refusal.NoBranch = named.Decision named.NoBranch
seen_refusal refusal.OwnBranch = named.Decision named.OwnBranch
seen_refusal refusal.NoArrival = named.Decision named.NoArrival
seen_refusal refusal.ArrivalReceived = named.Decision named.ArrivalReceived
seen_refusal refusal.BadLines = named.Decision named.BadLines
seen_refusal refusal.BadThreshold = named.Decision named.BadThreshold
seen_refusal refusal.TokenTaken = named.Decision named.TokenTaken
seen_refusal refusal.NoSharedRow = named.Decision named.NoSharedRow
seen_refusal refusal.Already = named.Decision named.Already
seen_refusal refusal.Usage = named.Decision named.Usage
seen_refusal refusal.Memory = named.Memory
seen_refusal refusal.Size = named.Size
seen_refusal refusal.StoreFailed = named.StoreFailed
