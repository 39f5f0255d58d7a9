-- The machine of one branch: a catalogue and a shop, to which only arrivals come from other branches.
use Rattle.std.specs.Prelude.{ℕ, nat_lt, ℤ, Bool, false, if◌then◌else◌, List, [], ◌∷◌, ◌++◌, map, Some}
use Rattle.shop_model.specs.Rows.{at}
use Rattle.shop_model.specs.Values.{Text, Film, Customer, Arrival, Parcel, Command, OfficeCommand, OfficeAsk, Ask}
use Rattle.shop_model.specs.Values.{OneCustomer, OneFilm, InStock, HeldBy, FilmInStock, FilmNotInStock, Balance, Overdue, Rewards, Arrivals, SentOff, OneView}
use Rattle.shop_model.specs.Values.{Rules}
use Rattle.shop_model.specs.Refusals.{Refusal, NoRoute, NoCustomer, NoCopy, NoFilm, BadThreshold}
use Rattle.shop_model.specs.Json.{object}
use Rattle.shop_model.specs.Shop.{Catalogue, Shop}
use Rattle.shop_model.specs.Stock.{in_stock, held_by, film_in_stock, film_not_in_stock, balance, rewarded}
use Rattle.shop_model.specs.Views.{overdue_text, overdue_list, view_rows}
use Rattle.shop_model.specs.Verdict.{Verdict, Again, Refused, Accepted, verdict, office_verdict}
use Rattle.shop_model.specs.Acts.{acted, told}
use Rattle.shop_model.specs.OfficeActs.{office_acted, office_told}

-- ---- branch commands

abbrev pub reply_text : Rules → Command → Shop → Text
reply_text rules command shop = object (told rules command.act shop)

-- an accepted command acts, is the last, and is kept with its reply
abbrev pub done : Rules → Catalogue → Command → Shop → Shop
done rules catalogue command shop =
    record (acted rules catalogue command command.act shop) {
      kept = shop.kept ++ record { command = command; reply = reply_text rules command shop } ∷ [];
      last = Some command.moment;
    }

-- ---- head office's commands

abbrev pub office_text : OfficeCommand → Catalogue → Text
office_text command catalogue = object (office_told command.act catalogue)

abbrev pub office_done : OfficeCommand → Catalogue → Catalogue
office_done command catalogue =
    record (office_acted command.act catalogue) { kept = catalogue.kept ++ record { command = command; reply = office_text command catalogue } ∷ [] }

-- ---- requests and replies

pub data Request : Type 0 where
  Unread : Refusal → Request  -- a text that is no request
  Do : Command → Request
  Look : Ask → Request
  Office : OfficeCommand → Request
  OfficeLook : OfficeAsk → Request

-- what a look shows: a row or list of the shop or the catalogue
pub data Shown : Type 0 where
  CustomerIs : ℕ → Customer → Shown
  FilmIs : ℕ → Film → Shown
  InStockIs : Bool → Shown
  HolderIs : List ℕ → Shown
  CopiesAre : List ℕ → Shown
  BalanceIs : ℤ → Shown
  RowsAre : List Text → Shown  -- a list, by the texts of its rows
  CustomersAre : List ℕ → Shown
  ArrivalsAre : List Arrival → Shown
  SentAre : List Parcel → Shown
  HereAt : ℕ → ℕ → Shown  -- branch, copy
  UnderWayTo : ℕ → ℕ → ℕ → Shown  -- source, addressee, number
  Gone : Shown
  TransitIs : List (ℕ × ℕ × ℕ × List ℕ) → Shown  -- source, addressee, number, films
  AuditIs : Bool → ℕ → ℕ → ℕ → ℕ → Shown  -- sound, made, here, under way, gone

pub data Reply : Type 0 where
  Sorry : Refusal → Reply
  Done : Text → Reply
  Shows : Shown → Reply

abbrev pub given : {A : Type 0} → Refusal → (A → Shown) → List A → Reply
given refusal show [] = Sorry refusal
given refusal show (x ∷ _) = Shows (show x)

-- the reply to a look: a row that isn't there is refused by its kind (our own; the manual's functions answer nothing or 0 then), and a threshold of 0
-- is refused, as in the manual. No key, staff or moment is looked at
abbrev pub look : ℕ → Catalogue → Shop → Ask → Reply
look b catalogue shop (OneCustomer c) = given NoCustomer (CustomerIs c) (at c shop.customers)
look b catalogue shop (OneFilm f) = given NoFilm (FilmIs f) (at f catalogue.films)
look b catalogue shop (InStock x) = given NoCopy (λ _. InStockIs (in_stock x shop.rentals)) (at x shop.copies)
look b catalogue shop (HeldBy x) = given NoCopy (λ _. HolderIs (held_by x shop.rentals)) (at x shop.copies)
look b catalogue shop (FilmInStock f) = given NoFilm (λ _. CopiesAre (film_in_stock f shop)) (at f catalogue.films)
look b catalogue shop (FilmNotInStock f) = given NoFilm (λ _. CopiesAre (film_not_in_stock f shop)) (at f catalogue.films)
look b catalogue shop (Balance c moment) = given NoCustomer (λ _. BalanceIs (balance catalogue.rule shop c moment)) (at c shop.customers)
look b catalogue shop (Overdue moment) = Shows (RowsAre (map overdue_text (overdue_list catalogue shop moment)))
look b catalogue shop (Rewards moment purchases cents) =
    if nat_lt 0 purchases then (if nat_lt 0 cents then Shows (CustomersAre (rewarded shop moment purchases cents)) else Sorry BadThreshold)
    else Sorry BadThreshold
look b catalogue shop Arrivals = Shows (ArrivalsAre shop.arrivals)
look b catalogue shop SentOff = Shows (SentAre shop.sent)
look b catalogue shop (OneView view) = Shows (RowsAre (view_rows b catalogue shop view))

-- a command that came again gets its kept reply, byte for byte
abbrev pub reply_by : Verdict → Text → Reply
reply_by (Again text) new = Done text
reply_by (Refused refusal) new = Sorry refusal
reply_by Accepted new = Done new

-- what a branch is answered; head office's requests have no route for it
abbrev pub reply_to : Rules → ℕ → Catalogue → Shop → Request → Reply
reply_to rules b catalogue shop (Unread refusal) = Sorry refusal
reply_to rules b catalogue shop (Do command) = reply_by (verdict rules b catalogue shop command) (reply_text rules command shop)
reply_to rules b catalogue shop (Look ask) = look b catalogue shop ask
reply_to rules b catalogue shop request = Sorry NoRoute

-- ---- the machine

-- one of two, by whether it is accepted
abbrev pub if_accepted : {A : Type 0} → Verdict → A → A → A
if_accepted (Again text) this that = that
if_accepted (Refused refusal) this that = that
if_accepted Accepted this that = this

pub record State : Type 0 where
  pub catalogue : Catalogue
  pub shop : Shop

-- what reaches a branch: accepted commands of head office, consignments that are sent to it, its own requests, and nothing else
pub data Input : Type 0 where
  FromOffice : OfficeCommand → Input
  Arrive : ℕ → List ℕ → Input  -- source, films
  Own : Request → Input

abbrev pub shop_after : Rules → ℕ → Catalogue → Shop → Request → Shop
shop_after rules b catalogue shop (Do command) = if_accepted (verdict rules b catalogue shop command) (done rules catalogue command shop) shop
shop_after rules b catalogue shop request = shop

abbrev pub catalogue_after : Rules → OfficeCommand → Catalogue → Catalogue
catalogue_after rules command catalogue = if_accepted (office_verdict rules catalogue command) (office_done command catalogue) catalogue

abbrev pub moved : Rules → ℕ → Input → State → State
moved rules b (FromOffice command) s = record s { catalogue = catalogue_after rules command s.catalogue }
moved rules b (Arrive source films) s = record s {
  shop = record s.shop { arrivals = s.shop.arrivals ++ record { source = source; films = films; received = false } ∷ [] };
}
moved rules b (Own request) s = record s { shop = shop_after rules b s.catalogue s.shop request }

abbrev pub answers : Rules → ℕ → Input → State → List Reply
answers rules b (Own request) s = reply_to rules b s.catalogue s.shop request ∷ []
answers rules b input s = []

abbrev pub replies : Rules → ℕ → List Input → State → List Reply
replies rules b [] s = []
replies rules b (input ∷ inputs) s = answers rules b input s ++ replies rules b inputs (moved rules b input s)

abbrev pub state_after : Rules → ℕ → List Input → State → State
state_after rules b [] s = s
state_after rules b (input ∷ inputs) s = state_after rules b inputs (moved rules b input s)
