-- Defines a counter's looks: the route of each, and what the parts of its path say. A look has nothing besides its path.
use Rattle.std.specs.Prelude.{ℕ, List, [], ◌∷◌, slice_get, Option, Some, None, option_map, option_and_then, codes, if◌then◌else◌}
use Rattle.std.specs.Str.{bytes_eq}
use Rattle.http_messages.specs.Items.{parts}
use Rattle.shop_types.specs.Numbers.{row_number_of}
use Rattle.shop_model.specs.Values.{Ask, OneCustomer, OneFilm, InStock, HeldBy, FilmInStock, FilmNotInStock, Balance, Overdue, Rewards, Arrivals, SentOff}
use Rattle.shop_model.specs.Values.{View, CustomerList, StaffList, FilmList, ActorInfo, SalesByStore, SalesByCategory}
use Rattle.counter_routes.specs.declared.looks.LookForm.{LookForm}
use Rattle.counter_routes.specs.declared.looks.LookForm.TheVariants as look
use Rattle.counter_routes.specs.declared.paths.Route.{Route}
use Rattle.counter_routes.specs.declared.paths.Route.TheVariants as route
use Rattle.counter_routes.specs.Bodies.{◌>>=◌}
use Rattle.counter_routes.specs.Imports.{moment_in}

-- the routes of GET requests
unfoldable pub get_entries : List (List ℕ × Route)
get_entries =
    (codes "/customer/{n}", route.Look look.Customer)
    ∷ (codes "/film/{n}", route.Look look.Film)
    ∷ (codes "/in-stock/{copy}", route.Look look.InStock)
    ∷ (codes "/held-by/{copy}", route.Look look.HeldBy)
    ∷ (codes "/film-in-stock/{film}", route.Look look.FilmInStock)
    ∷ (codes "/film-not-in-stock/{film}", route.Look look.FilmNotInStock)
    ∷ (codes "/balance/{customer}/{at}", route.Look look.Balance)
    ∷ (codes "/overdue/{at}", route.Look look.Overdue)
    ∷ (codes "/rewards/{at}/{purchases}/{cents}", route.Look look.Rewards)
    ∷ (codes "/arrivals", route.Look look.Arrivals)
    ∷ (codes "/sent", route.Look look.Sent)
    ∷ (codes "/views/{name}", route.View)
    ∷ []

-- the number of a row, which is the path's part after its second slash
abbrev pub number_in : List ℕ → Option ℕ
number_in target = option_and_then row_number_of (slice_get (parts target) 2)

-- what a path asks of the row whose number it has
abbrev pub ask_in : (ℕ → Ask) → List ℕ → Option Ask
ask_in ask target = option_map ask (number_in target)

-- The number from 0 to 4,294,967,295 that the bytes write in decimal: `0`, or digits with no leading zero. Each number has one text.
abbrev pub threshold_of : List ℕ → Option ℕ
threshold_of bytes = if bytes_eq bytes (codes "0") then Some 0 else row_number_of bytes

-- the threshold, which is the path's part after its first `n` slashes
abbrev pub threshold_in : List ℕ → ℕ → Option ℕ
threshold_in target n = option_and_then threshold_of (slice_get (parts target) n)

-- what a customer owes at a moment: the customer's number is after the second slash, and the moment after the third
unfoldable pub balance_in : List ℕ → Option Ask
balance_in target = do
  customer ← number_in target
  moment ← moment_in target 3
  Some (Balance customer moment)

-- what is overdue at the moment after the second slash
unfoldable pub overdue_in : List ℕ → Option Ask
overdue_in target = option_map Overdue (moment_in target 2)

-- who is rewarded: the moment is after the second slash, the purchases after the third, and the cents after the fourth
unfoldable pub rewards_in : List ℕ → Option Ask
rewards_in target = do
  moment ← moment_in target 2
  purchases ← threshold_in target 3
  cents ← threshold_in target 4
  Some (Rewards moment purchases cents)

-- what a path of that form asks
abbrev pub look_in : LookForm → List ℕ → Option Ask
look_in look.Customer target = ask_in OneCustomer target
look_in look.Film target = ask_in OneFilm target
look_in look.InStock target = ask_in InStock target
look_in look.HeldBy target = ask_in HeldBy target
look_in look.FilmInStock target = ask_in FilmInStock target
look_in look.FilmNotInStock target = ask_in FilmNotInStock target
look_in look.Balance target = balance_in target
look_in look.Overdue target = overdue_in target
look_in look.Rewards target = rewards_in target
look_in look.Arrivals target = Some Arrivals
look_in look.Sent target = Some SentOff

-- the view of that name, which is compared byte by byte
abbrev pub view_of : List ℕ → Option View
view_of name = if bytes_eq name (codes "customer_list") then Some CustomerList
    else (if bytes_eq name (codes "staff_list") then Some StaffList
    else (if bytes_eq name (codes "film_list") then Some FilmList
    else (if bytes_eq name (codes "actor_info") then Some ActorInfo
    else (if bytes_eq name (codes "sales_by_store") then Some SalesByStore
    else (if bytes_eq name (codes "sales_by_film_category") then Some SalesByCategory
    else None)))))

-- the view whose name is after the second slash
abbrev pub view_in : List ℕ → Option View
view_in target = option_and_then view_of (slice_get (parts target) 2)
