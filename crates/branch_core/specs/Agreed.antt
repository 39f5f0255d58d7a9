-- Says when the rows that were found for a command agree with a catalogue and a shop.
use Rattle.std.specs.Prelude.{◌≡◌, ℕ, ◌==◌, ◌&&◌, ◌≤◌, Bool, false, Option, is_some, not, List, [], ◌∷◌, map, filter, length, option_map, IfSome, Result, Ok}
use Rattle.std.specs.Prelude.{Err, IfOk, Some, None}
use Rattle.std.specs.List.{All, list_any}
use Rattle.std.specs.Str.{bytes_eq}
use Rattle.shop_model.specs.Calendar.{Moment, same_moment}
use Rattle.shop_model.specs.Rows.{at, lacks, numbered}
use Rattle.shop_model.specs.Values.{Text, Customer, Copy, Arrival, Act, Command, Stock, Copies, BadLine, Rules}
use Rattle.shop_model.specs.Stock.{is_here, in_stock, terms_now}
use Rattle.shop_model.specs.Shop.{Kept, Catalogue, Shop, same_flag}
use Rattle.shop_model.specs.Acts.{same_command, is_film_withdrawn, is_away, arrival}
use Rattle.shop_model.specs.Books.{head}
use Rattle.shop_types.specs.declared.refusal.BadCsv.{BadCsv}
use Rattle.shop_types.specs.declared.parcel.ParcelLine.{ParcelLine}
use Rattle.shop_types.specs.Seen.{seen_terms}
use Rattle.shop_types.specs.Verdicts.{seen_kept, seen_post, post_of}
use Rattle.branch_core.specs.declared.film_copies.FilmCopy.{FilmCopy}
use Rattle.branch_core.specs.declared.found.StockFound.{StockFound}
use Rattle.branch_core.specs.declared.found.CopyFound.{CopyFound}
use Rattle.branch_core.specs.declared.found.RentalFound.{RentalFound}
use Rattle.branch_core.specs.declared.found.ListedFound.{ListedFound}
use Rattle.branch_core.specs.declared.found.ArrivalFound.{ArrivalFound}
use Rattle.branch_core.specs.declared.found.Found.{Found}
use Rattle.branch_core.specs.declared.found.Named.{Named}
use Rattle.branch_core.specs.declared.found.RowsFound.{RowsFound}
use Rattle.branch_core.specs.StockLists.{films_of}
use Rattle.shop_model.specs.Values as model

-- ---- the kept row

-- whether the kept command is the same, and its reply, for a command that came under its key
abbrev pub kept_for : Command → Kept → Bool × Text
kept_for command kept = (same_command kept.command command, kept.reply)

-- ---- the stock file

abbrev pub seen_stock : Result (List StockFound) BadCsv → Stock
seen_stock (Ok rows) = Copies (films_of rows)
seen_stock (Err fault) = BadLine fault.line

-- a row has at least one copy, and says of its film what the catalogue says
pub record RowAgrees (catalogue : Catalogue) (row : StockFound) : Type 0 where
  pub some : 1 ≤ row.copies
  pub there : row.is_there ≡ not (lacks catalogue.films row.film)
  pub withdrawn : row.is_withdrawn ≡ is_film_withdrawn catalogue row.film

-- ---- rows of a branch, where there is one of the number

-- whether the customer of the number may rent
abbrev pub active_at : ℕ → Shop → Option Bool
active_at c shop = head (map (λ (it : Customer). it.active) (at c shop.customers))

abbrev pub seen_copy : CopyFound → Bool × Bool × Bool
seen_copy copy = (copy.is_here, copy.is_withdrawn, copy.is_out)

-- whether the copy is here, whether its film is withdrawn, and whether the copy is out
abbrev pub copy_at : Catalogue → Shop → ℕ → Option (Bool × Bool × Bool)
copy_at catalogue shop x = head (map (λ (it : Copy). (is_here it, is_film_withdrawn catalogue it.film, not (in_stock x shop.rentals))) (at x shop.copies))

-- the terms of a copy that was found are the terms that its film has now
abbrev pub HasTermsNow : Catalogue → Shop → ℕ → Option CopyFound → Type 0
HasTermsNow catalogue shop x found = IfSome found (λ copy. terms_now catalogue shop x ≡ seen_terms copy.terms ∷ [])

-- whether there is a rental of the moment, of the copy and by the customer
abbrev pub has_rental : Moment → ℕ → ℕ → Shop → Bool
has_rental moment c x shop = list_any (λ (it : model.Rental). same_moment it.rented moment && it.copy == x && it.customer == c) shop.rentals

-- the customer of a rental, its copy, and whether the copy is back
abbrev pub seen_rental : RentalFound → ℕ × ℕ × Bool
seen_rental rental = (rental.customer, rental.copy, rental.is_returned)

abbrev pub rental_at : Shop → ℕ → Option (ℕ × ℕ × Bool)
rental_at shop r = head (map (λ (it : model.Rental). (it.customer, it.copy, is_some it.returned)) (at r shop.rentals))

-- ---- consignments

-- The result of a test of listed copies is known only if no earlier test holds. So not every copy of a long list has to be read.
pub record ListedAgrees (shop : Shop) (xs : List ℕ) (it : ListedFound) : Type 0 where
  pub unknown : it.has_unknown ≡ list_any (lacks shop.copies) xs
  pub away : it.has_unknown ≡ false → it.has_away ≡ list_any (is_away shop.copies) xs
  pub out : it.has_unknown ≡ false → it.has_away ≡ false → it.has_out ≡ list_any (λ x. not (in_stock x shop.rentals)) xs

-- whether a consignment is received, and the films of its lines
abbrev pub seen_arrival : ArrivalFound → Bool × List ℕ
seen_arrival it = (it.is_received, map (λ (line : ParcelLine). line.film) it.lines)

abbrev pub arrival_at : ℕ → ℕ → Shop → Option (Bool × List ℕ)
arrival_at source number shop = head (map (λ (it : Arrival). (it.received, it.films)) (arrival source number shop))

-- ---- the act

pub record RentAgrees (catalogue : Catalogue) (shop : Shop) (moment : Moment) (c x : ℕ) (it : RowsFound) : Type 0 where
  pub customer : it.customer ≡ active_at c shop
  pub copy : option_map seen_copy it.copy ≡ copy_at catalogue shop x
  pub terms : HasTermsNow catalogue shop x it.copy
  pub same : it.has_same ≡ has_rental moment c x shop

pub record ImportAgrees (rules : Rules) (catalogue : Catalogue) (shop : Shop) (lot file : Text) (it : RowsFound) : Type 0 where
  pub count : it.copies ≡ length shop.copies
  pub lot_in : it.has_lot ≡ list_any (bytes_eq lot) shop.lots
  pub reading : seen_stock it.stock ≡ rules.stock_of file
  pub rows : IfOk it.stock (All (RowAgrees catalogue))

pub record DispatchAgrees (catalogue : Catalogue) (shop : Shop) (to : ℕ) (xs : List ℕ) (it : RowsFound) : Type 0 where
  pub branch : it.has_branch ≡ not (lacks catalogue.branches to)
  pub listed : ListedAgrees shop xs it.listed

pub record ReceiveAgrees (shop : Shop) (source number : ℕ) (it : RowsFound) : Type 0 where
  pub count : it.copies ≡ length shop.copies
  pub arrival_is : option_map seen_arrival it.arrival ≡ arrival_at source number shop

abbrev pub nothing : Named
nothing = record { city = None; customer = None; copy = None; rental = None }

-- what stands for the rows of an act that names none
abbrev pub no_rows : RowsFound
no_rows = record {
  has_city = false;
  customer = None;
  copy = None;
  has_same = false;
  rental = None;
  copies = 0;
  has_lot = false;
  stock = Ok [];
  has_branch = false;
  listed = record { has_unknown = false; has_away = false; has_out = false; lines = None };
  arrival = None;
}

-- the single rows that an act names, if it names no other rows
abbrev pub named_rows : Act → Named
named_rows (model.AddCustomer who) = record nothing { city = Some who.person.city }
named_rows (model.SetActive c active) = record nothing { customer = Some c }
named_rows (model.TakeBack r) = record nothing { rental = Some r }
named_rows (model.Pay c rental amount) = record nothing { customer = Some c; rental = rental }
named_rows (model.Scrap x) = record nothing { copy = Some x }
named_rows act = nothing

pub record NamedAgree (catalogue : Catalogue) (shop : Shop) (names : Named) (it : RowsFound) : Type 0 where
  pub city : IfSome names.city (λ n. it.has_city ≡ not (lacks catalogue.cities n))
  pub customer : IfSome names.customer (λ c. it.customer ≡ active_at c shop)
  pub copy : IfSome names.copy (λ x. option_map seen_copy it.copy ≡ copy_at catalogue shop x)
  pub rental : IfSome names.rental (λ r. option_map seen_rental it.rental ≡ rental_at shop r)

-- what was found of the kinds of rows that an act names agrees with the catalogue and the shop
abbrev pub ActAgrees : Rules → Catalogue → Shop → Moment → Act → RowsFound → Type 0
ActAgrees rules catalogue shop moment (model.Rent c x) it = RentAgrees catalogue shop moment c x it
ActAgrees rules catalogue shop moment (model.Import lot file) it = ImportAgrees rules catalogue shop lot file it
ActAgrees rules catalogue shop moment (model.Dispatch to xs) it = DispatchAgrees catalogue shop to xs it
ActAgrees rules catalogue shop moment (model.Receive source number missing) it = ReceiveAgrees shop source number it
ActAgrees rules catalogue shop moment act it = NamedAgree catalogue shop (named_rows act) it

-- ---- all that was found

-- all that was found agrees with the catalogue and the shop
pub record Agrees (rules : Rules) (catalogue : Catalogue) (shop : Shop) (command : Command) (found : Found) : Type 0 where
  pub kept : option_map seen_kept found.kept ≡ head (map (kept_for command) (filter (λ (k : Kept). bytes_eq k.command.key command.key) shop.kept))
  pub keys : found.keys ≡ length shop.kept
  pub last : found.last ≡ shop.last
  pub staff : option_map seen_post found.staff ≡ head (map post_of (at command.staff catalogue.staff))
  pub act : ActAgrees rules catalogue shop command.moment command.act found.rows

-- ---- the copies of a film

-- a copy's number, whether it is here, and whether it is in stock
abbrev pub seen_film_copy : FilmCopy → ℕ × Bool × Bool
seen_film_copy copy = (copy.number, copy.is_here, copy.is_in_stock)

-- the film's copies, in order of number
abbrev pub AreOfFilm : ℕ → Shop → List FilmCopy → Type 0
AreOfFilm film shop copies =
    map seen_film_copy copies
    ≡ map (λ (it : ℕ × Copy). (it.0, is_here it.1, in_stock it.0 shop.rentals)) (filter (λ (it : ℕ × Copy). it.1.film == film) (numbered shop.copies))

-- the copy is here, and in stock or not, as the flag says
abbrev pub is_listed : Bool → ℕ × Bool × Bool → Bool
is_listed is_in copy = copy.1 && same_flag copy.2 is_in
