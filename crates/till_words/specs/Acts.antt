-- What each word asks for, from the values of its options. It is none if a value isn't of its kind.
use Rattle.std.specs.Prelude.{ℕ, Bool, true, false, List, Option, Some, None, option_map, codes, if◌then◌else◌}
use Rattle.std.specs.Str.{bytes_eq}
use Rattle.clap.specs.Words.{Row, Text}
use Rattle.shop_types.specs.declared.person.Person.{Person}
use Rattle.shop_types.specs.declared.command.Act.{Act}
use Rattle.shop_types.specs.declared.command.Act.TheVariants as act
use Rattle.till_words.specs.declared.acts.Names.{Names}
use Rattle.till_words.specs.declared.acts.Contact.{Contact}
use Rattle.till_words.specs.declared.acts.Owner.{Owner}
use Rattle.till_words.specs.declared.words.Beginning.{Beginning}
use Rattle.till_words.specs.declared.words.PersonIn.{PersonIn}
use Rattle.till_words.specs.declared.words.TillLook.{TillLook}
use Rattle.till_words.specs.declared.words.TillLook.TheVariants as look
use Rattle.till_words.specs.declared.words.TillAct.{TillAct}
use Rattle.till_words.specs.declared.words.TillAct.TheVariants as till
use Rattle.word_tables.specs.Given.{with_value}
use Rattle.till_words.specs.Given.{optional_text_given, lot_given, flag_given, row_given, optional_row_given, amount_given}
use Rattle.word_tables.specs.Given.{text_given, token_given}
use Rattle.till_words.specs.Given.{numbers_given}
use Rattle.till_words.specs.Given.{any_numbers_given}
use Rattle.till_words.specs.Days.{drawer_of}

-- ---- at the counter

abbrev pub rent_of : List Row → Option Act
rent_of rows =
    with_value (row_given (codes "customer") rows) (λ customer.
    with_value (row_given (codes "copy") rows) (λ copy.
    Some (act.Rent customer copy)))

-- a return is of a copy or of a rental, and not of both
abbrev pub one_return : Option ℕ → Option ℕ → Option TillAct
one_return (Some copy) None = Some (till.ReturnCopy copy)
one_return None (Some rental) = Some (till.Do (act.TakeBack rental))
one_return _ _ = None

abbrev pub return_of : List Row → Option TillAct
return_of rows =
    with_value (optional_row_given (codes "copy") rows) (λ copy.
    with_value (optional_row_given (codes "rental") rows) (λ rental.
    one_return copy rental))

abbrev pub pay_of : List Row → Option Act
pay_of rows =
    with_value (row_given (codes "customer") rows) (λ customer.
    with_value (amount_given rows) (λ amount.
    with_value (optional_row_given (codes "rental") rows) (λ rental.
    Some (act.Pay customer rental amount))))

abbrev pub names_of : List Row → Option Names
names_of rows =
    with_value (text_given 1 45 (codes "first") rows) (λ first.
    with_value (text_given 1 45 (codes "last") rows) (λ last.
    Some (record { first = first; last = last })))

-- a customer's address, postal code and phone number
abbrev pub contact_of : List Row → Option Contact
contact_of rows =
    with_value (text_given 1 128 (codes "address") rows) (λ address.
    with_value (text_given 0 45 (codes "postal") rows) (λ postal.
    with_value (text_given 0 45 (codes "phone") rows) (λ phone.
    Some (record { address = address; postal = postal; phone = phone }))))

-- who joins in the city of that number
abbrev pub person_of : ℕ → List Row → Option Person
person_of city rows =
    with_value (names_of rows) (λ names.
    with_value (contact_of rows) (λ contact.
    Some (record {
      first = names.first;
      last = names.last;
      address = contact.address;
      postal = contact.postal;
      phone = contact.phone;
      city = city;
    })))

-- who joins in a city that is named
abbrev pub person_in : List Row → Option PersonIn
person_in rows =
    with_value (text_given 1 128 (codes "city") rows) (λ city.
    with_value (names_of rows) (λ names.
    with_value (contact_of rows) (λ contact.
    Some (record {
      first = names.first;
      last = names.last;
      address = contact.address;
      postal = contact.postal;
      phone = contact.phone;
      city = city;
    }))))

abbrev pub join_to : Option ℕ → List Row → Option TillAct
join_to (Some city) rows = option_map (λ person. till.Do (act.Customer (record { person = person }))) (person_of city rows)
join_to None rows = option_map till.JoinIn (person_in rows)

-- a city that isn't written as a number is a name
abbrev pub join_of : List Row → Option TillAct
join_of rows = join_to (row_given (codes "city") rows) rows

abbrev pub active_of : Bool → List Row → Option Act
active_of active rows = option_map (λ customer. act.Active customer active) (row_given (codes "customer") rows)

-- ---- the stock

abbrev pub import_of : List Row → Option TillAct
import_of rows =
    with_value (text_given 1 1000 (codes "file") rows) (λ file.
    with_value (lot_given rows) (λ lot.
    Some (till.Import file lot)))

abbrev pub dispatch_of : List Row → Option Act
dispatch_of rows =
    with_value (row_given (codes "to") rows) (λ to.
    with_value (numbers_given (codes "copies") rows) (λ copies.
    Some (act.Dispatch to copies)))

abbrev pub receive_of : List Row → Option Act
receive_of rows =
    with_value (row_given (codes "from") rows) (λ from.
    with_value (row_given (codes "number") rows) (λ number.
    with_value (any_numbers_given (codes "missing") rows) (λ missing.
    Some (act.Receive from number missing))))

-- ---- looks

-- a number means the row with this number; any other text is searched for
abbrev pub row_or_text : (ℕ → TillLook) → (Text → TillLook) → Option ℕ → List Row → Option TillLook
row_or_text one many (Some number) rows = Some (one number)
row_or_text one many None rows = option_map many (text_given 1 128 (codes "find") rows)

abbrev pub find_of : (ℕ → TillLook) → (Text → TillLook) → List Row → Option TillLook
find_of one many rows = row_or_text one many (row_given (codes "find") rows) rows

abbrev pub rewards_of : List Row → Option TillLook
rewards_of rows =
    with_value (row_given (codes "purchases") rows) (λ purchases.
    with_value (amount_given rows) (λ cents.
    Some (look.Rewards purchases cents)))

-- ---- the till itself

-- a member of staff, or head office, and not both
abbrev pub whose : Option ℕ → Bool → Option (Option ℕ)
whose (Some staff) false = Some (Some staff)
whose None true = Some None
whose _ _ = None

abbrev pub whose_of : List Row → Option (Option ℕ)
whose_of rows = with_value (optional_row_given (codes "staff") rows) (λ staff. whose staff (flag_given (codes "office") rows))

-- a member of staff's book has a zone; head office's may have none
abbrev pub zoned : Option ℕ → Option Text → Option Owner
zoned (Some staff) None = None
zoned (Some staff) (Some zone) = Some (record { staff = Some staff; zone = Some zone })
zoned None zone = Some (record { staff = None; zone = zone })

-- whose a book is, and its zone
abbrev pub owner_of : List Row → Option Owner
owner_of rows =
    with_value (whose_of rows) (λ staff.
    with_value (optional_text_given 1 60 (codes "zone") rows) (λ zone.
    zoned staff zone))

abbrev pub beginning_of : List Row → Option Beginning
beginning_of rows =
    with_value (token_given rows) (λ token.
    with_value (owner_of rows) (λ owner.
    with_value (text_given 1 128 (codes "address") rows) (λ address.
    Some (record { address = address; token = token; staff = owner.staff; zone = owner.zone }))))

-- ---- by their names

abbrev pub list_look_of : Text → List Row → Option TillLook
list_look_of name rows = if bytes_eq name (codes "overdue") then Some look.Overdue
    else (if bytes_eq name (codes "arrivals") then Some look.Arrivals
    else (if bytes_eq name (codes "sent") then Some look.Sent
    else (if bytes_eq name (codes "rewards") then rewards_of rows
    else (if bytes_eq name (codes "sales") then Some look.Sales
    else None))))

abbrev pub row_look_of : Text → List Row → Option TillLook
row_look_of name rows = if bytes_eq name (codes "in-stock") then option_map look.InStock (row_given (codes "copy") rows)
    else (if bytes_eq name (codes "held-by") then option_map look.HeldBy (row_given (codes "copy") rows)
    else (if bytes_eq name (codes "copies") then option_map look.Copies (row_given (codes "film") rows)
    else (if bytes_eq name (codes "balance") then option_map look.Balance (row_given (codes "customer") rows)
    else list_look_of name rows)))

abbrev pub look_of : Text → List Row → Option TillLook
look_of name rows = if bytes_eq name (codes "customer") then find_of look.Customer look.Customers rows
    else (if bytes_eq name (codes "film") then find_of look.Film look.Films rows
    else row_look_of name rows)

abbrev pub stock_act_of : Text → List Row → Option TillAct
stock_act_of name rows = if bytes_eq name (codes "import") then import_of rows
    else (if bytes_eq name (codes "dispatch") then option_map till.Do (dispatch_of rows)
    else (if bytes_eq name (codes "receive") then option_map till.Do (receive_of rows)
    else (if bytes_eq name (codes "scrap") then option_map (λ copy. till.Do (act.Scrap copy)) (row_given (codes "copy") rows)
    else option_map till.Look (look_of name rows))))

abbrev pub counter_act_of : Text → List Row → Option TillAct
counter_act_of name rows = if bytes_eq name (codes "rent") then option_map till.Do (rent_of rows)
    else (if bytes_eq name (codes "return") then return_of rows
    else (if bytes_eq name (codes "pay") then option_map till.Do (pay_of rows)
    else (if bytes_eq name (codes "join") then join_of rows
    else (if bytes_eq name (codes "bar") then option_map till.Do (active_of false rows)
    else (if bytes_eq name (codes "unbar") then option_map till.Do (active_of true rows)
    else stock_act_of name rows)))))

-- what a word of this name asks for; head office's words follow the word `office`
abbrev pub act_of : List Text → Text → List Row → Option TillAct
act_of office name rows = if bytes_eq name (codes "waiting") then Some till.Waiting
    else (if bytes_eq name (codes "send") then Some till.Send
    else (if bytes_eq name (codes "last") then option_map till.Last (row_given (codes "count") rows)
    else (if bytes_eq name (codes "day") then option_map till.Day (drawer_of rows)
    else (if bytes_eq name (codes "today") then option_map till.Today (text_given 10 10 (codes "date") rows)
    else (if bytes_eq name (codes "again") then Some (till.Again (flag_given (codes "late") rows))
    else (if bytes_eq name (codes "slip") then Some till.Slip
    else (if bytes_eq name (codes "help") then Some till.Help
    else (if bytes_eq name (codes "init") then option_map till.Init (beginning_of rows)
    else (if bytes_eq name (codes "zone") then option_map till.Zone (text_given 1 60 (codes "name") rows)
    else (if bytes_eq name (codes "office") then Some (till.Office office)
    else counter_act_of name rows))))))))))
