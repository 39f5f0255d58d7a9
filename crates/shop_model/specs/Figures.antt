-- Figures that agree with one another, by which a shopkeeper knows the definitions: of stock, of who has a copy, of what is overdue, of sales and of balances.
use Rattle.std.specs.Prelude.{◌≡◌, ℕ, ◌*◌, ◌==◌, ◌&&◌, ◌||◌, ℤ, pos, ◌+ℤ◌, ◌-ℤ◌, Bool, true, false, not, if◌then◌else◌, List, [], ◌∷◌, ◌++◌, codes, filter}
use Rattle.std.specs.Prelude.{flat_map, length, ◌+◌, Some}
use Rattle.std.specs.List.{list_any, AllByRecursion}
use Rattle.shop_model.specs.Rows.{at, is_empty, mem, has_double, numbered, total}
use Rattle.shop_model.specs.Calendar.{Moment, is_by}
use Rattle.shop_model.specs.Values.{Text, Film, Customer, Copy, Rental, Terms, Branch, Act, Rent, TakeBack, Pay, Import, Command, OfficeAct, ChooseRule}
use Rattle.shop_model.specs.Values.{OfficeCommand, Rules, Rule, ByCode, SalesByStore, Sales}
use Rattle.shop_model.specs.Shop.{Catalogue, Shop, Kept}
use Rattle.shop_model.specs.Stock.{is_here, keeps_out, in_stock, held_by, film_in_stock, film_not_in_stock, film_of, termed, late_days, balance, overdue}
use Rattle.shop_model.specs.Views.{overdue_row, StoreRow, sales_by_store, sales_by_category, view_rows}
use Rattle.shop_model.specs.Acts.{films_in}
use Rattle.shop_model.specs.Verdict.{verdict, Accepted}
use Rattle.shop_model.specs.Machine.{Office, Shows, RowsAre}
use Rattle.shop_model.specs.Books.{Books, Event, Mark, shop_of, book_done, office_after, last_books}
use Rattle.shop_model.specs.Links.{has_row}
use Rattle.shop_model.specs.Sound.{IsSound, made}
use Rattle.shop_model.specs.Office.{office_look}
use Rattle.shop_model.specs.Reentered.{kept_in}

-- ---- stock

-- the copy of that number is of that film, and is here
abbrev pub is_copy_here : ℕ → Shop → ℕ → Bool
is_copy_here film shop x = list_any (λ (copy : Copy). copy.film == film && is_here copy) (at x shop.copies)

-- The two lists split the copies of a film that are here. Each copy is in just one of them, and once. Which one depends on whether the copy is in stock.
pub record SplitsStock (film : ℕ) (shop : Shop) : Type 0 where
  pub stocked : (x : ℕ) → mem x (film_in_stock film shop) ≡ (is_copy_here film shop x && in_stock x shop.rentals)
  pub rented : (x : ℕ) → mem x (film_not_in_stock film shop) ≡ (is_copy_here film shop x && not (in_stock x shop.rentals))
  pub together : (x : ℕ) → (mem x (film_in_stock film shop) || mem x (film_not_in_stock film shop)) ≡ is_copy_here film shop x
  pub once : has_double (film_in_stock film shop ++ film_not_in_stock film shop) ≡ false

abbrev pub StockIsSplit : Type 0
StockIsSplit = (film : ℕ) (shop : Shop) → SplitsStock film shop

-- ---- holders

-- the copy has one rental without a return moment, and the customer of that rental is named
pub record IsHeld (x : ℕ) (shop : Shop) : Type 0 where
  pub rental : Rental
  pub only : filter (keeps_out x) shop.rentals ≡ rental ∷ []
  pub named : held_by x shop.rentals ≡ rental.customer ∷ []

-- somebody is named exactly if the copy isn't in stock
pub record TellsHolders (shop : Shop) : Type 0 where
  pub answers : (x : ℕ) → is_empty (held_by x shop.rentals) ≡ in_stock x shop.rentals
  pub holder : (x : ℕ) → in_stock x shop.rentals ≡ false → IsHeld x shop

abbrev pub HoldersAreTold : Type 0
HoldersAreTold = (rules : Rules) (books : Books) (b : ℕ) → IsSound rules books → TellsHolders (shop_of b books)

-- ---- what is overdue

-- The rental's copy is here, and is out with the rental's customer. The row of the rental names that customer and the copy's film.
pub record IsOutWithNamed (catalogue : Catalogue) (shop : Shop) (rental : Rental) : Type 0 where
  pub customer : Customer
  pub film : Film
  pub out : in_stock rental.copy shop.rentals ≡ false
  pub held : held_by rental.copy shop.rentals ≡ rental.customer ∷ []
  pub inside : list_any is_here (at rental.copy shop.copies) ≡ true
  pub who : at rental.customer shop.customers ≡ customer ∷ []
  pub what : film_of catalogue shop rental ≡ film ∷ []
  pub row : overdue_row catalogue shop rental
      ≡ record { customer = customer.person.last ++ codes ", " ++ customer.person.first; phone = customer.person.phone; title = film.title }

abbrev pub OverdueIsOut : Type 0
OverdueIsOut =
    (rules : Rules) (books : Books) (b : ℕ) (moment : Moment) → IsSound rules books
    → AllByRecursion (IsOutWithNamed books.catalogue (shop_of b books)) (overdue (shop_of b books) moment)

-- ---- sales

pub record SalesAgree (books : Books) : Type 0 where
  -- a branch's sales by category add up to its sales
  pub sums : (b : ℕ) → has_row books.catalogue.branches b ≡ true
      → total (λ (row : StoreRow). row.total) (sales_by_store b books.catalogue (shop_of b books))
      ≡ total (λ (row : Text × ℕ). row.1) (sales_by_category books.catalogue (shop_of b books))
  -- and head office is shown the branches' own rows
  pub rows : office_look Sales books
      ≡ Shows (RowsAre (flat_map (λ (it : ℕ × Branch). view_rows it.0 books.catalogue (shop_of it.0 books) SalesByStore) (numbered books.catalogue.branches)))

abbrev pub SalesAddUp : Type 0
SalesAddUp = (rules : Rules) (books : Books) → IsSound rules books → SalesAgree books

-- ---- balances

-- the rate of a copy's film as it is now
abbrev pub rate_of : Catalogue → Shop → ℕ → ℕ
rate_of catalogue shop x = total (λ (film : Film). film.rate) (flat_map (λ (copy : Copy). at copy.film catalogue.films) (at x shop.copies))

-- What an act adds to a customer's charges, as seen at a moment. A rent adds its film's rate, a return a dollar for each late day, any other act nothing.
abbrev pub charge : Catalogue → Shop → Moment → Act → ℕ → Moment → ℕ
charge catalogue shop now (Rent c x) customer moment = if c == customer && is_by now moment then rate_of catalogue shop x else 0
charge catalogue shop now (TakeBack r) customer moment =
    total (λ (it : Rental × Terms). if it.0.customer == customer && is_by it.0.rented moment then 100 * late_days it.0.rented (Some now) it.1.period else 0)
    (at r (termed shop))
charge catalogue shop now act customer moment = 0

-- What an act adds to what the customer has paid. A payment adds its amount, any other act nothing.
abbrev pub paid : Moment → Act → ℕ → Moment → ℕ
paid now (Pay c rental amount) customer moment = if c == customer && is_by now moment then amount else 0
paid now act customer moment = 0

-- an accepted command changes the balances of its own branch's customers by the charge less the payment, and changes no others
pub record ChangesBalances (rules : Rules) (b : ℕ) (command : Command) (books : Books) : Type 0 where
  pub own : (customer : ℕ) (moment : Moment) →
      balance ByCode (shop_of b (book_done rules b command books)) customer moment
      ≡ balance ByCode (shop_of b books) customer moment +ℤ
      (pos (charge books.catalogue (shop_of b books) command.moment command.act customer moment) -ℤ pos (paid command.moment command.act customer moment))
  pub others : (c : ℕ) (rule : Rule) (customer : ℕ) (moment : Moment) → (b == c) ≡ false
      → balance rule (shop_of c (book_done rules b command books)) customer moment ≡ balance rule (shop_of c books) customer moment

abbrev pub is_choice : OfficeAct → Bool
is_choice (ChooseRule rule) = true
is_choice act = false

abbrev pub balance_in : Books → ℕ → ℕ → Moment → ℤ
balance_in books b customer moment = balance books.catalogue.rule (shop_of b books) customer moment

pub record BalancesFollowActs : Type 0 where
  pub branch : (rules : Rules) (b : ℕ) (command : Command) (books : Books) → IsSound rules books
      → verdict rules b books.catalogue (shop_of b books) command ≡ Accepted
      → ChangesBalances rules b command books
  -- no command of head office but its choice of the rule changes any
  pub office : (rules : Rules) (command : OfficeCommand) (books : Books) (b customer : ℕ) (moment : Moment) → is_choice command.act ≡ false
      → balance_in (office_after rules (Office command) books) b customer moment ≡ balance_in books b customer moment

-- ---- copies

-- how many copies an act imports
abbrev pub imports : Rules → Act → ℕ
imports rules (Import lot file) = length (films_in (rules.stock_of file))
imports rules act = 0

-- how many copies were made at a branch, wherever they are now
abbrev pub made_at : ℕ → Books → ℕ
made_at b books = made (λ (mark : Mark). mark.branch == b) books

-- a branch has made as many copies as its accepted imports have rows, and nothing else makes a copy
abbrev pub CopiesAreOfImports : Type 0
CopiesAreOfImports =
    (rules : Rules) (events : List Event) (books : Books) (b : ℕ) → IsSound rules books
    → made_at b (last_books rules events books) ≡ made_at b books + total (λ (k : Kept). imports rules k.command.act) (kept_in rules b events books)
