-- Says that each row that another row of a catalogue or a shop names is there, and that what has to be different is different. The foreign keys of the sample
-- database say some of it. The rest is our own.
use Rattle.std.specs.Prelude.{◌≡◌, ℕ, ◌+◌, ◌≤◌, ◌==◌, ◌&&◌, nat_lt, nat_le, Bool, true, not, List, [], ◌∷◌, length}
use Rattle.std.specs.Option.{option_to_list}
use Rattle.std.specs.List.{list_any, list_all}
use Rattle.std.specs.Str.{bytes_eq}
use Rattle.shop_model.specs.Rows.{at, lacks}
use Rattle.shop_model.specs.Values.{Text, City, Film, Cast, Branch, Staff, Customer, Copy, Rental, Payment, Arrival, Parcel, Rules}
use Rattle.shop_model.specs.Shop.{Kept, OfficeKept, Catalogue, Shop}

abbrev pub has_row : {A : Type 0} → List A → ℕ → Bool
has_row xs n = not (lacks xs n)

-- no later one is the same as an earlier one
abbrev pub are_different : {A : Type 0} → (A → A → Bool) → List A → Bool
are_different same [] = true
are_different same (x ∷ xs) = not (list_any (same x) xs) && are_different same xs

-- ---- a branch's shop

-- staff of that branch, who may have left
abbrev pub is_staff_of : ℕ → List Staff → ℕ → Bool
is_staff_of b staff s = list_any (λ (it : Staff). it.branch == b) (at s staff)

-- the rental of a payment, where it names one, is there and is the same customer's
abbrev pub pays_for : List Rental → Payment → Bool
pays_for rentals payment = list_all (λ r. list_any (λ (it : Rental). it.customer == payment.customer) (at r rentals)) (option_to_list payment.rental)

-- a consignment has 1 to 100 lines
abbrev pub is_parcel : Parcel → Bool
is_parcel parcel = nat_lt 0 (length parcel.films) && nat_le (length parcel.films) 100

pub record IsLinkedShop (b : ℕ) (catalogue : Catalogue) (shop : Shop) : Type 0 where
  pub customer_cities : list_all (λ (it : Customer). has_row catalogue.cities it.person.city) shop.customers ≡ true
  pub copy_films : list_all (λ (it : Copy). has_row catalogue.films it.film) shop.copies ≡ true
  pub rental_copies : list_all (λ (it : Rental). has_row shop.copies it.copy) shop.rentals ≡ true
  pub rental_customers : list_all (λ (it : Rental). has_row shop.customers it.customer) shop.rentals ≡ true
  pub rental_staff : list_all (λ (it : Rental). is_staff_of b catalogue.staff it.staff) shop.rentals ≡ true
  pub payment_customers : list_all (λ (it : Payment). has_row shop.customers it.customer) shop.payments ≡ true
  pub payment_staff : list_all (λ (it : Payment). is_staff_of b catalogue.staff it.staff) shop.payments ≡ true
  pub payment_rentals : list_all (pays_for shop.rentals) shop.payments ≡ true
  pub arrival_films : list_all (λ (it : Arrival). list_all (has_row catalogue.films) it.films) shop.arrivals ≡ true
  pub parcels : list_all is_parcel shop.sent ≡ true
  pub lots : are_different (λ (earlier later : Text). bytes_eq later earlier) shop.lots ≡ true
  pub keys : are_different (λ (earlier later : Kept). bytes_eq earlier.command.key later.command.key) shop.kept ≡ true

-- ---- the catalogue

-- the rows of one catalogue name rows of another
pub record NamesRowsOf (named rows : Catalogue) : Type 0 where
  pub city_countries : list_all (λ (it : City). has_row named.countries it.country) rows.cities ≡ true
  pub film_languages : list_all (λ (it : Film). has_row named.languages it.language) rows.films ≡ true
  pub film_categories : list_all (λ (it : Film). has_row named.categories it.category) rows.films ≡ true
  pub cast_films : list_all (λ (it : Cast). has_row named.films it.film) rows.casts ≡ true
  pub cast_actors : list_all (λ (it : Cast). has_row named.actors it.actor) rows.casts ≡ true
  pub branch_cities : list_all (λ (it : Branch). has_row named.cities it.city) rows.branches ≡ true
  pub managers : (b : ℕ) → list_all (λ (it : Branch). list_all (is_staff_of b named.staff) (option_to_list it.manager)) (at b rows.branches) ≡ true
  pub staff_branches : list_all (λ (it : Staff). has_row named.branches it.branch) rows.staff ≡ true
  pub staff_cities : list_all (λ (it : Staff). has_row named.cities it.person.city) rows.staff ≡ true

-- each list is no more than three longer than that of kept keys: the chain that is shown begins with three rows of a kind at most
pub record HasSharedSizes (catalogue : Catalogue) : Type 0 where
  pub casts : length catalogue.casts ≤ length catalogue.kept + 3
  pub countries : length catalogue.countries ≤ length catalogue.kept + 3
  pub cities : length catalogue.cities ≤ length catalogue.kept + 3
  pub languages : length catalogue.languages ≤ length catalogue.kept + 3
  pub categories : length catalogue.categories ≤ length catalogue.kept + 3
  pub actors : length catalogue.actors ≤ length catalogue.kept + 3
  pub films : length catalogue.films ≤ length catalogue.kept + 3
  pub branches : length catalogue.branches ≤ length catalogue.kept + 3
  pub staff : length catalogue.staff ≤ length catalogue.kept + 3

-- no actor is cast twice in one film, and no two countries, languages or categories have one name
pub record HasNoDoubles (catalogue : Catalogue) : Type 0 where
  pub casts : are_different (λ (earlier later : Cast). earlier.film == later.film && earlier.actor == later.actor) catalogue.casts ≡ true
  pub countries : are_different (λ (earlier later : Text). bytes_eq later earlier) catalogue.countries ≡ true
  pub languages : are_different (λ (earlier later : Text). bytes_eq later earlier) catalogue.languages ≡ true
  pub categories : are_different (λ (earlier later : Text). bytes_eq later earlier) catalogue.categories ≡ true

pub record IsGoodCatalogue (rules : Rules) (catalogue : Catalogue) : Type 0 where
  pub names : NamesRowsOf catalogue catalogue
  pub sizes : HasSharedSizes catalogue
  pub single : HasNoDoubles catalogue
  pub keys_fit : length catalogue.kept ≤ rules.commands
  pub keys : are_different (λ (earlier later : OfficeKept). bytes_eq earlier.command.key later.command.key) catalogue.kept ≡ true
  pub tokens : are_different (λ (earlier later : Branch). bytes_eq earlier.token later.token) catalogue.branches ≡ true
  pub office_token : list_all (λ (it : Branch). not (bytes_eq it.token catalogue.office_token)) catalogue.branches ≡ true
