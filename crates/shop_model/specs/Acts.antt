-- What a branch's acts are: when two are the same, what each is refused for, what it changes, and what is replied. All refusals are our own, but that no
-- two rentals share moment, copy and customer, which is a unique key of the manual's script.
use Rattle.std.specs.Prelude.{ℕ, ◌==◌, ◌&&◌, Bool, true, false, List, Some, None, ◌+◌, ◌||◌, nat_lt, nat_le, not, if◌then◌else◌, [], ◌∷◌, length, filter}
use Rattle.std.specs.Prelude.{is_some, ◌++◌, map, flat_map, codes, decimal}
use Rattle.std.specs.Str.{bytes_eq}
use Rattle.shop_model.specs.Calendar.{Moment, same_moment}
use Rattle.shop_model.specs.Values.{Text, Film, Customer, Copy, Rental, Arrival, Parcel, Act, AddCustomer, SetActive, Rent, TakeBack, Pay, Import, Dispatch}
use Rattle.shop_model.specs.Values.{Receive, Scrap, Command, Stock, Copies, BadLine, Rules, new_customer, CopyState, Here, Sent, Scrapped}
use Rattle.std.specs.Option.{option_to_list}
use Rattle.std.specs.List.{list_any}
use Rattle.shop_model.specs.Rows.{at, lacks, is_empty, has_double, arrived, total, set_at, set_all, set_among}
use Rattle.shop_model.specs.Refusals.{Refusal, NoCustomer, CustomerInactive, NoCopy, CopyNotHere, CopyOut, FilmWithdrawn, SameMoment, NoRental, RentalReturned}
use Rattle.shop_model.specs.Refusals.{WrongCustomer, NoFilm, LotIn, BadCsv, NoBranch, OwnBranch, NoArrival, ArrivalReceived, BadLines, NoSharedRow, Already}
use Rattle.shop_model.specs.Shop.{Catalogue, Shop, same_flag, same_option, same_numbers, same_person}
use Rattle.shop_model.specs.Stock.{is_here, in_stock, terms_now}
use Rattle.shop_model.specs.Json.{flag_text, numbers_text}

-- ---- acts that are equal: as values, and a stock file byte for byte

abbrev pub same_act : Act → Act → Bool
same_act (AddCustomer n) (AddCustomer n') = same_person n.person n'.person
same_act (SetActive c active) (SetActive c' active') = c == c' && same_flag active active'
same_act (Rent c x) (Rent c' x') = c == c' && x == x'
same_act (TakeBack r) (TakeBack r') = r == r'
same_act (Pay c r amount) (Pay c' r' amount') = c == c' && same_option r r' && amount == amount'
same_act (Import lot file) (Import lot' file') = bytes_eq lot lot' && bytes_eq file file'
same_act (Dispatch a xs) (Dispatch a' xs') = a == a' && same_numbers xs xs'
same_act (Receive s n missing) (Receive s' n' missing') = s == s' && n == n' && same_numbers missing missing'
same_act (Scrap x) (Scrap x') = x == x'
same_act a b = false

abbrev pub same_command : Command → Command → Bool
same_command a b = bytes_eq a.key b.key && a.staff == b.staff && same_moment a.moment b.moment && same_act a.act b.act

-- ---- refusals, each with the test by which it holds, in the order of their numbers

abbrev pub is_film_withdrawn : Catalogue → ℕ → Bool
is_film_withdrawn catalogue film = list_any (λ (f : Film). f.withdrawn) (at film catalogue.films)

-- sent or scrapped
abbrev pub is_away : List Copy → ℕ → Bool
is_away copies x = list_any (λ copy. not (is_here copy)) (at x copies)

-- the consignment of that number from that source
abbrev pub arrival : ℕ → ℕ → Shop → List Arrival
arrival source number shop = at number (filter (λ arrival. arrival.source == source) shop.arrivals)

-- rising positions, each from above the first number to the second
abbrev pub are_lines : ℕ → ℕ → List ℕ → Bool
are_lines low high [] = true
are_lines low high (n ∷ ns) = nat_lt low n && nat_le n high && are_lines n high ns

-- how many copies come with an arrival: none where it is received, or the lines are bad
abbrev pub new_from : List ℕ → Arrival → ℕ
new_from missing a = if a.received || not (are_lines 0 (length a.films) missing) then 0 else length (arrived missing a.films)

abbrev pub new_in : Stock → ℕ
new_in (Copies films) = length films
new_in (BadLine line) = 0

-- how many copies a command makes
abbrev pub new_copies : Rules → Shop → Act → ℕ
new_copies rules shop (Import lot file) = new_in (rules.stock_of file)
new_copies rules shop (Receive source number missing) = total (new_from missing) (arrival source number shop)
new_copies rules shop act = 0

-- of a stock file that doesn't read, no film is looked at; a lot that is in comes before the fault of the file
abbrev pub import_refusals : Catalogue → Shop → Text → Stock → List (Refusal × Bool)
import_refusals catalogue shop lot (Copies films) =
    (FilmWithdrawn, list_any (is_film_withdrawn catalogue) films)
    ∷ (NoFilm, list_any (lacks catalogue.films) films)
    ∷ (LotIn, list_any (bytes_eq lot) shop.lots)
    ∷ []
import_refusals catalogue shop lot (BadLine line) = (LotIn, list_any (bytes_eq lot) shop.lots) ∷ (BadCsv line, true) ∷ []

-- what each command is refused for, beside what all commands are; where copies are listed, a test holds where it holds of one of them
abbrev pub act_refusals : Rules → ℕ → Catalogue → Shop → Moment → Act → List (Refusal × Bool)
act_refusals rules b catalogue shop moment (AddCustomer it) =
    (NoSharedRow, lacks catalogue.cities it.person.city)
    ∷ []
act_refusals rules b catalogue shop moment (SetActive c active) =
    (NoCustomer, lacks shop.customers c)
    ∷ (Already, list_any (λ (it : Customer). same_flag it.active active) (at c shop.customers))
    ∷ []
act_refusals rules b catalogue shop moment (Rent c x) =
    (NoCustomer, lacks shop.customers c)
    ∷ (CustomerInactive, list_any (λ (it : Customer). not it.active) (at c shop.customers))
    ∷ (NoCopy, lacks shop.copies x)
    ∷ (CopyNotHere, is_away shop.copies x)
    ∷ (CopyOut, not (in_stock x shop.rentals))
    ∷ (FilmWithdrawn, list_any (λ (it : Copy). is_film_withdrawn catalogue it.film) (at x shop.copies))
    ∷ (SameMoment, list_any (λ (it : Rental). same_moment it.rented moment && it.copy == x && it.customer == c) shop.rentals)
    ∷ []
act_refusals rules b catalogue shop moment (TakeBack r) =
    (NoRental, lacks shop.rentals r)
    ∷ (RentalReturned, list_any (λ (it : Rental). is_some it.returned) (at r shop.rentals))
    ∷ []
act_refusals rules b catalogue shop moment (Pay c rental amount) =
    (NoCustomer, lacks shop.customers c)
    ∷ (NoRental, list_any (lacks shop.rentals) (option_to_list rental))
    ∷ (WrongCustomer, list_any (λ r. list_any (λ (it : Rental). not (it.customer == c)) (at r shop.rentals)) (option_to_list rental))
    ∷ []
act_refusals rules b catalogue shop moment (Import lot file) = import_refusals catalogue shop lot (rules.stock_of file)
act_refusals rules b catalogue shop moment (Dispatch to xs) =
    (NoCopy, list_any (lacks shop.copies) xs)
    ∷ (CopyNotHere, list_any (is_away shop.copies) xs)
    ∷ (CopyOut, list_any (λ x. not (in_stock x shop.rentals)) xs)
    ∷ (NoBranch, lacks catalogue.branches to)
    ∷ (OwnBranch, to == b)
    ∷ (BadLines, is_empty xs || nat_lt 100 (length xs) || has_double xs)
    ∷ []
act_refusals rules b catalogue shop moment (Receive source number missing) =
    (NoArrival, is_empty (arrival source number shop))
    ∷ (ArrivalReceived, list_any (λ (it : Arrival). it.received) (arrival source number shop))
    ∷ (BadLines, list_any (λ (it : Arrival). not (are_lines 0 (length it.films) missing)) (arrival source number shop))
    ∷ []
act_refusals rules b catalogue shop moment (Scrap x) =
    (NoCopy, lacks shop.copies x)
    ∷ (CopyNotHere, is_away shop.copies x)
    ∷ (CopyOut, not (in_stock x shop.rentals))
    ∷ []

-- ---- what an accepted one changes, and what it replies

abbrev pub here : ℕ → Copy
here film = record { film = film; state = Here }

abbrev pub with_state : CopyState → Copy → Copy
with_state state copy = record copy { state = state }

abbrev pub films_in : Stock → List ℕ
films_in (Copies films) = films
films_in (BadLine line) = []

-- the films of those copies
abbrev pub films_at : List ℕ → List Copy → List ℕ
films_at xs copies = flat_map (λ x. map (λ copy. copy.film) (at x copies)) xs

-- the films that come in with a consignment
abbrev pub incoming : List ℕ → List Arrival → List ℕ
incoming missing arrivals = flat_map (λ (it : Arrival). arrived missing it.films) arrivals

-- What an accepted command changes. New rows go last, so each gets the next number. A rental gets the terms that its film has now. A consignment lists its
-- films in the order of the command.
abbrev pub acted : Rules → Catalogue → Command → Act → Shop → Shop
acted rules catalogue command (AddCustomer it) shop = record shop { customers = shop.customers ++ new_customer command.moment it ∷ [] }
acted rules catalogue command (SetActive c active) shop =
    record shop { customers = set_at c (λ it. record it { active = active }) shop.customers }
acted rules catalogue command (Rent c x) shop =
    record shop {
      rentals = shop.rentals ++ record { rented = command.moment; copy = x; customer = c; returned = None; staff = command.staff } ∷ [];
      terms = shop.terms ++ terms_now catalogue shop x;
    }
acted rules catalogue command (TakeBack r) shop =
    record shop { rentals = set_at r (λ it. record it { returned = Some command.moment }) shop.rentals }
acted rules catalogue command (Pay c rental amount) shop =
    record shop { payments = shop.payments ++ record { customer = c; staff = command.staff; rental = rental; amount = amount; paid = command.moment } ∷ [] }
acted rules catalogue command (Import lot file) shop =
    record shop { copies = shop.copies ++ map here (films_in (rules.stock_of file)); lots = shop.lots ++ lot ∷ [] }
acted rules catalogue command (Dispatch to xs) shop =
    record shop { copies = set_all xs (with_state Sent) shop.copies; sent = shop.sent ++ record { addressee = to; films = films_at xs shop.copies } ∷ [] }
acted rules catalogue command (Receive source number missing) shop =
    record shop {
      copies = shop.copies ++ map here (incoming missing (arrival source number shop));
      arrivals = set_among (λ it. it.source == source) number (λ it. record it { received = true }) shop.arrivals;
    }
acted rules catalogue command (Scrap x) shop =
    record shop { copies = set_at x (with_state Scrapped) shop.copies }

-- a consignment's number counts the consignments of the same sender to the same addressee
abbrev pub parcels_to : ℕ → Shop → List Parcel
parcels_to to shop = filter (λ it. it.addressee == to) shop.sent

abbrev pub numbers_from : {A : Type 0} → ℕ → List A → List ℕ
numbers_from n [] = []
numbers_from n (x ∷ xs) = n ∷ numbers_from (n + 1) xs

-- what it replies: the numbers of the new rows, or what was set (names and members are our own)
abbrev pub told : Rules → Act → Shop → List (Text × Text)
told rules (AddCustomer person) shop = (codes "customer", decimal (length shop.customers + 1)) ∷ []
told rules (SetActive c active) shop = (codes "active", flag_text active) ∷ (codes "customer", decimal c) ∷ []
told rules (Rent c x) shop = (codes "rental", decimal (length shop.rentals + 1)) ∷ []
told rules (TakeBack r) shop = (codes "returned", decimal r) ∷ []
told rules (Pay c rental amount) shop = (codes "payment", decimal (length shop.payments + 1)) ∷ []
told rules (Import lot file) shop = (codes "copies", decimal (length (films_in (rules.stock_of file)))) ∷ (codes "first", decimal (length shop.copies + 1)) ∷ []
told rules (Dispatch to xs) shop = (codes "consignment", decimal (length (parcels_to to shop) + 1)) ∷ (codes "to", decimal to) ∷ []
told rules (Receive source number missing) shop =
    (codes "copies", numbers_text (numbers_from (length shop.copies + 1) (incoming missing (arrival source number shop)))) ∷ []
told rules (Scrap x) shop = (codes "scrapped", decimal x) ∷ []
