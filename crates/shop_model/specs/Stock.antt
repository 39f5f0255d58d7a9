-- The manual's functions and procedures over one shop and the shared rows. Money is in cents.
use Rattle.std.specs.Prelude.{if◌then◌else◌, ℕ, ◌+◌, ◌-◌, ◌*◌, ◌==◌, ◌&&◌, nat_lt, nat_le, ℤ, pos, ◌-ℤ◌, Bool, true, false, not, List, []}
use Rattle.std.specs.Prelude.{length, map, filter, flat_map, zip, is_none, Option, Some, None}
use Rattle.std.specs.List.{list_any}
use Rattle.shop_model.specs.Rows.{at, numbered, total}
use Rattle.shop_model.specs.Calendar.{Moment, day_of, is_by, month_before}
use Rattle.shop_model.specs.Values.{Here, Sent, Scrapped, Copy, Film, Rental, Terms, Payment, Rule, ByCode, ByComment}
use Rattle.shop_model.specs.Shop.{Catalogue, Shop}

abbrev pub is_here : Copy → Bool
is_here copy = elim copy.state [ Here ↦ true | Sent ↦ false | Scrapped ↦ false ]

-- a rental of that copy that has no return moment
abbrev pub keeps_out : ℕ → Rental → Bool
keeps_out x rental = rental.copy == x && is_none rental.returned

-- `inventory_in_stock` of the manual: every rental of the copy has a return moment. It looks at rentals alone, whatever the copy's state is
abbrev pub in_stock : ℕ → List Rental → Bool
in_stock x rentals = not (list_any (keeps_out x) rentals)

-- `inventory_held_by_customer` of the manual: the customer of the copy's rental without a return moment, where there is one
abbrev pub held_by : ℕ → List Rental → List ℕ
held_by x rentals = map (λ rental. rental.customer) (filter (keeps_out x) rentals)

-- `film_in_stock` of the manual: the numbers, rising, of the copies of that film that are in stock; that they have to be here is our own
abbrev pub film_in_stock : ℕ → Shop → List ℕ
film_in_stock film shop =
    map (λ (it : ℕ × Copy). it.0) (filter (λ (it : ℕ × Copy). it.1.film == film && is_here it.1 && in_stock it.0 shop.rentals) (numbered shop.copies))

-- `film_not_in_stock` of the manual: those that are here and aren't in stock
abbrev pub film_not_in_stock : ℕ → Shop → List ℕ
film_not_in_stock film shop =
    map (λ (it : ℕ × Copy). it.0) (filter (λ (it : ℕ × Copy). it.1.film == film && is_here it.1 && not (in_stock it.0 shop.rentals)) (numbered shop.copies))

-- the film of a rental
abbrev pub film_of : Catalogue → Shop → Rental → List Film
film_of catalogue shop rental = flat_map (λ (copy : Copy). at copy.film catalogue.films) (at rental.copy shop.copies)

-- ---- terms

-- what a film is rented for
abbrev pub film_terms : Film → Terms
film_terms film = record { rate = film.rate; period = film.period; replacement = film.replacement }

-- the terms of a rental of that copy that begins now, read from the film's row as it is now
abbrev pub terms_now : Catalogue → Shop → ℕ → List Terms
terms_now catalogue shop x = map film_terms (flat_map (λ (copy : Copy). at copy.film catalogue.films) (at x shop.copies))

-- each rental with its terms
abbrev pub termed : Shop → List (Rental × Terms)
termed shop = zip shop.rentals shop.terms

-- ---- what is owed

-- the days by which a rental was returned after its period, by day numbers and not by hours; none where it isn't returned
abbrev pub late_days : Moment → Option Moment → ℕ → ℕ
late_days rented None period = 0
late_days rented (Some returned) period = day_of returned - day_of rented - period

-- what a rental adds to a balance by the manual's code: its rate, and a dollar for each late day. The return moment isn't compared with the moment that
-- is asked for
abbrev pub fee : Rental × Terms → ℕ
fee it = it.1.rate + 100 * late_days it.0.rented it.0.returned it.1.period

-- until when a rental lasted, as it is seen at a moment
abbrev pub end_at : Moment → Option Moment → Moment
end_at moment None = moment
end_at moment (Some returned) = if is_by returned moment then returned else moment

-- the days by which it had passed its period then, whether it was returned or not
abbrev pub days_past : Moment → Rental × Terms → ℕ
days_past moment it = late_days it.0.rented (Some (end_at moment it.0.returned)) it.1.period

-- what it adds by the comment of the manual's script: its rate, a dollar for each day past, and its replacement cost once where these are more than twice
-- its period (as the comment says; that what is past is seen at the moment that is asked for is our own)
abbrev pub comment_fee : Moment → Rental × Terms → ℕ
comment_fee moment it = it.1.rate + 100 * days_past moment it + (if nat_lt (2 * it.1.period) (days_past moment it) then it.1.replacement else 0)

abbrev pub fee_by : Rule → Moment → Rental × Terms → ℕ
fee_by ByCode moment it = fee it
fee_by ByComment moment it = comment_fee moment it

-- `get_customer_balance` of the manual, by either rule: the fees of the customer's rentals up to that moment, less the payments up to it
abbrev pub balance : Rule → Shop → ℕ → Moment → ℤ
balance rule shop customer moment =
    pos (total (fee_by rule moment) (filter (λ (it : Rental × Terms). it.0.customer == customer && is_by it.0.rented moment) (termed shop)))
    -ℤ pos (total (λ payment. payment.amount) (filter (λ payment. payment.customer == customer && is_by payment.paid moment) shop.payments))

-- overdue, as in the manual's example: not returned, and its period ended before that day
abbrev pub is_overdue : Moment → Rental × Terms → Bool
is_overdue moment it = is_none it.0.returned && nat_lt (day_of it.0.rented + it.1.period) (day_of moment)

-- all of them, in order of their numbers (our own)
abbrev pub overdue : Shop → Moment → List Rental
overdue shop moment = map (λ (it : Rental × Terms). it.0) (filter (is_overdue moment) (termed shop))

-- the payments of a customer on the days from the first to the last
abbrev pub paid_within : ℕ × ℕ → ℕ → List Payment → List Payment
paid_within days customer payments =
    filter (λ payment. payment.customer == customer && nat_le days.0 (day_of payment.paid) && nat_le (day_of payment.paid) days.1) payments

-- the customers, rising, with more payments than the one threshold and more cents than the other
abbrev pub rewarded_in : Option (ℕ × ℕ) → Shop → ℕ → ℕ → List ℕ
rewarded_in None shop purchases cents = []
rewarded_in (Some days) shop purchases cents =
    filter (λ customer.
    nat_lt purchases (length (paid_within days customer shop.payments))
    && nat_lt cents (total (λ payment. payment.amount) (paid_within days customer shop.payments)))
    (map (λ it. it.0) (numbered shop.customers))

-- `rewards_report` of the manual. Our own: which month it is, that both thresholds have to be passed, the order, and none in January 1970
abbrev pub rewarded : Shop → Moment → ℕ → ℕ → List ℕ
rewarded shop moment purchases cents = rewarded_in (month_before moment) shop purchases cents
