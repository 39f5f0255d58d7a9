-- The rows of the payments' join, and what they say of a branch's sales.
use Rattle.std.specs.Prelude.{ℕ, ◌==◌, Bool, List, [], ◌∷◌, map, flat_map, Option}
use Rattle.std.specs.Option.{option_to_list}
use Rattle.std.specs.List.{list_any}
use Rattle.sqlite.specs.Values.{or_null}
use Rattle.sqlite_value.specs.Order as sql
use Rattle.sql_rows.specs.Rows.{number_value}
use Rattle.shop_model.specs.Rows.{at}
use Rattle.shop_model.specs.Values.{Film, Rental, Payment}
use Rattle.shop_model.specs.Shop.{Catalogue, Shop}
use Rattle.shop_model.specs.Books.{Books, head, shop_of}
use Rattle.shop_model.specs.Stock.{film_of}

-- ---- rows

-- a payment, the number of its rental if there is one, and the category of the rental's film if there is one
pub record PaidLine : Type 0 where
  pub amount : ℕ
  pub rental : Option ℕ
  pub category : Option ℕ

abbrev pub shown_line : PaidLine → sql.Row
shown_line line = number_value line.amount ∷ or_null number_value line.rental ∷ or_null number_value line.category ∷ []

abbrev pub rentals_of : Shop → Payment → List Rental
rentals_of shop payment = flat_map (λ n. at n shop.rentals) (option_to_list payment.rental)

abbrev pub category_in : List Film → Option ℕ
category_in films = head (map (λ (film : Film). film.category) films)

abbrev pub paid_line : Catalogue → Shop → Payment → PaidLine
paid_line catalogue shop payment = record {
  amount = payment.amount;
  rental = head (flat_map (λ n. map (λ (_ : Rental). n) (at n shop.rentals)) (option_to_list payment.rental));
  category = category_in (flat_map (film_of catalogue shop) (rentals_of shop payment));
}

-- the branch's payments, in the order of their numbers
abbrev pub paid_lines : ℕ → Books → List PaidLine
paid_lines b books = map (paid_line books.catalogue (shop_of b books)) (shop_of b books).payments

-- ---- sales

-- the amount of a payment for a rental, and the category of the rental's film if there is one
pub record Sale : Type 0 where
  pub amount : ℕ
  pub category : Option ℕ

abbrev pub sale : Catalogue → Shop → Payment × Rental → Sale
sale catalogue shop it = record { amount = it.0.amount; category = category_in (film_of catalogue shop it.1) }

-- a payment whose rental isn't there is no sale
abbrev pub sale_in : PaidLine → List Sale
sale_in line = map (λ (_ : ℕ). record { amount = line.amount; category = line.category }) (option_to_list line.rental)

abbrev pub is_sale_of : ℕ → Sale → Bool
is_sale_of category it = list_any (λ c. c == category) (option_to_list it.category)
