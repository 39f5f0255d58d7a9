-- What holds of each branch's shop: of its rentals, its moments and its sizes.
use Rattle.std.specs.Prelude.{◌≡◌, ◌≤◌, ◌==◌, ◌&&◌, Bool, true, false, List, [], ◌∷◌, length, map, Option, Some, None}
use Rattle.std.specs.List.{list_all}
use Rattle.shop_model.specs.Calendar.{Moment, is_by, same_moment}
use Rattle.shop_model.specs.Values.{Customer, Rental, Payment, Rules}
use Rattle.shop_model.specs.Shop.{Shop}
use Rattle.shop_model.specs.Links.{are_different}

abbrev pub same_rental : Rental → Rental → Bool
same_rental r s = same_moment s.rented r.rented && s.copy == r.copy && s.customer == r.customer

-- no two share moment, copy and customer: a unique key of the manual's script
abbrev pub are_apart : List Rental → Bool
are_apart rentals = are_different same_rental rentals

-- not after the last moment, and where there is none, not at all
abbrev pub is_within : Option Moment → Moment → Bool
is_within None moment = false
is_within (Some last) moment = is_by moment last

abbrev pub returned_by : Option Moment → Moment → Option Moment → Bool
returned_by last rented None = true
returned_by last rented (Some returned) = is_by rented returned && is_within last returned

abbrev pub rental_by : Option Moment → Rental → Bool
rental_by last r = is_within last r.rented && returned_by last r.rented r.returned

abbrev pub rises : List Moment → Bool
rises [] = true
rises (m ∷ ms) = list_all (λ n. is_by m n) ms && rises ms

-- Moments rise with the numbers of their rows, no return is before its rental, and nothing is after the last moment. Each list except the copies is no longer
-- than the list of kept keys, since each of its rows came with a key.
pub record IsGoodShop (rules : Rules) (shop : Shop) : Type 0 where
  pub apart : are_apart shop.rentals ≡ true
  pub created : list_all (λ (c : Customer). is_within shop.last c.created) shop.customers ≡ true
  pub rented : list_all (rental_by shop.last) shop.rentals ≡ true
  pub paid : list_all (λ (p : Payment). is_within shop.last p.paid) shop.payments ≡ true
  pub rentals_rise : rises (map (λ r. r.rented) shop.rentals) ≡ true
  pub payments_rise : rises (map (λ p. p.paid) shop.payments) ≡ true
  pub keys : length shop.kept ≤ rules.commands
  pub copies : length shop.copies ≤ rules.copies
  pub customers_fit : length shop.customers ≤ length shop.kept
  pub rentals_fit : length shop.rentals ≤ length shop.kept
  pub payments_fit : length shop.payments ≤ length shop.kept
  pub lots_fit : length shop.lots ≤ length shop.kept
  pub sent_fit : length shop.sent ≤ length shop.kept
