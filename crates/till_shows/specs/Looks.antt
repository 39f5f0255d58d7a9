-- The lines for looks and accepted commands, from the bodies of their replies.
use Rattle.std.specs.Prelude.{ℕ, zero, suc, ℤ, pos, negsuc, ◌==◌, Bool, true, false, List, [], ◌∷◌, ◌++◌, Option, Some, None, is_some, option_map}
use Rattle.std.specs.Prelude.{option_and_then, codes, decimal, if◌then◌else◌}
use Rattle.std.specs.Option.{option_or}
use Rattle.serde_json.specs.Data.{Data}
use Rattle.serde_json.specs.Find.{get, as_null, as_array}
use Rattle.shop_model.specs.Values.{Text}
use Rattle.shop_types.specs.Numbers.{is_row_number}
use Rattle.till_shows.specs.Bodies.{body_of, whole_number, numbers_in, number_at, cents_at, flag_at, numbers_at}
use Rattle.till_shows.specs.Entries.{not_text}
use Rattle.till_shows.specs.Money.{amount_text}
use Rattle.till_shows.specs.Numbers.{commas}

-- ---- looks

-- no customer, or one
abbrev pub who_text : Bool → Text
who_text true = codes "no"
who_text false = codes "a"

-- no customer has a copy that was sent or scrapped, and the server doesn't say which
abbrev pub unless_text : Bool → Text
unless_text true = codes ": it is here, unless it was sent off or scrapped"
unless_text false = []

abbrev pub stock_text : ℕ → Bool → Text
stock_text copy is_in = who_text is_in ++ (codes " customer has copy " ++ (decimal copy ++ unless_text is_in))

abbrev pub in_stock_in : ℕ → Text → Option Text
in_stock_in copy body = option_map (stock_text copy) (option_and_then (flag_at (codes "in_stock")) (body_of body))

-- the number as a row's number, if it can be one
abbrev pub row_number : ℕ → Option ℕ
row_number n = if is_row_number n then Some n else None

-- a customer's number, or nobody for null
abbrev pub customer_or_none : Data → Option (Option ℕ)
customer_or_none d = if is_some (as_null d) then Some None else option_map (λ n. Some n) (option_and_then row_number (whole_number d))

-- who has the copy, or nobody
abbrev pub holder_in : Text → Option (Option ℕ)
holder_in body = option_and_then customer_or_none (option_and_then (get (codes "customer")) (body_of body))

abbrev pub holder_text : ℕ → Option ℕ → Text
holder_text copy None = codes "nobody has copy " ++ decimal copy
holder_text copy (Some customer) = codes "customer " ++ (decimal customer ++ (codes " has copy " ++ decimal copy))

-- the text `what` and the numbers, or the text `none` if there are no numbers
abbrev pub counted_or : Text → Text → List ℕ → Text
counted_or none what [] = none
counted_or none what (n ∷ ns) = what ++ commas (n ∷ ns)

abbrev pub copies_of_film : ℕ → List ℕ → Text
copies_of_film film numbers = decimal film ++ (codes ": " ++ counted_or (codes "none") (codes "copies ") numbers)

abbrev pub film_in_stock_in : ℕ → Text → Option Text
film_in_stock_in film body =
    option_map (λ ns. codes "in stock of film " ++ copies_of_film film ns) (option_and_then (numbers_at (codes "copies")) (body_of body))

abbrev pub film_not_in_stock_in : ℕ → Text → Option Text
film_not_in_stock_in film body =
    option_map (λ ns. codes "out of film " ++ copies_of_film film ns) (option_and_then (numbers_at (codes "copies")) (body_of body))

-- who owes whom how much
abbrev pub balance_text : Text → ℤ → Text
balance_text name (pos zero) = name ++ codes " owes nothing"
balance_text name (pos (suc n)) = name ++ (codes " owes " ++ amount_text (suc n))
balance_text name (negsuc n) = codes "the branch owes " ++ (name ++ (codes " " ++ amount_text (suc n)))

abbrev pub balance_in : Text → Text → Option Text
balance_in name body = option_map (balance_text name) (option_and_then (cents_at (codes "balance")) (body_of body))

abbrev pub rewards_in : Text → Option Text
rewards_in body = option_map (counted_or (codes "no customers") (codes "customers ")) (option_and_then (numbers_at (codes "customers")) (body_of body))

-- ---- accepted commands

abbrev pub may_rent_text : Bool → ℕ → Text
may_rent_text active customer = codes "customer " ++ (decimal customer ++ (codes " may " ++ (not_text active ++ codes "rent")))

-- a customer who may rent or may not
abbrev pub may_rent_in : Data → Option Text
may_rent_in d = option_and_then (λ active. option_map (may_rent_text active) (number_at (codes "customer") d)) (flag_at (codes "active") d)

abbrev pub consignment_text : ℕ → ℕ → Text
consignment_text number to = codes "consignment " ++ (decimal number ++ (codes " to branch " ++ decimal to))

-- a consignment that was sent
abbrev pub consignment_in : Data → Option Text
consignment_in d = option_and_then (λ number. option_map (consignment_text number) (number_at (codes "to") d)) (number_at (codes "consignment") d)

abbrev pub arrived_text : ℕ → ℕ → Text
arrived_text count first = if count == 1 then codes "1 copy, number " ++ decimal first
    else decimal count ++ (codes " copies, the first of them " ++ decimal first)

-- the copies that came in: their numbers if the body lists them, or how many and the first number if the body counts them
abbrev pub copies_in : Data → Data → Option Text
copies_in d them =
    if is_some (as_array them) then option_map (counted_or (codes "no copies") (codes "copies ")) (numbers_in them)
    else option_and_then (λ count. option_map (arrived_text count) (number_at (codes "first") d)) (whole_number them)

-- the number in the member of this name, between two texts
abbrev pub number_line : Text → Text → Text → Data → Option Text
number_line name front behind d = option_map (λ n. front ++ (decimal n ++ behind)) (number_at name d)

-- the number of a rental, of a returned rental, of a payment, of a scrapped copy, or of a customer
abbrev pub numbered_in : Data → Option Text
numbered_in d =
    option_or (number_line (codes "rental") (codes "rental ") [] d)
    (option_or (number_line (codes "returned") (codes "rental ") (codes " returned") d)
    (option_or (number_line (codes "payment") (codes "payment ") [] d)
    (option_or (number_line (codes "scrapped") (codes "copy ") (codes " scrapped") d)
    (number_line (codes "customer") (codes "customer ") [] d))))

abbrev pub other_reply_in : Data → Option Data → Option Text
other_reply_in d None = numbered_in d
other_reply_in d (Some them) = copies_in d them

abbrev pub reply_of : Data → Option Text
reply_of d = option_or (may_rent_in d) (option_or (consignment_in d) (other_reply_in d (get (codes "copies") d)))

-- what the reply to an accepted command says
abbrev pub reply_in : Text → Option Text
reply_in body = option_and_then reply_of (body_of body)
