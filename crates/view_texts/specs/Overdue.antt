-- The rows of the join of the copies that are out, and which rows are in the list of overdue rentals.
use Rattle.std.specs.Prelude.{◌+◌, nat_lt, Bool, [], ◌∷◌, Option}
use Rattle.sqlite.specs.declared.types.Value.TheVariants.{Text}
use Rattle.sqlite.specs.Values.{or_null}
use Rattle.sqlite_value.specs.Order as sql
use Rattle.sql_rows.specs.Rows.{number_value}
use Rattle.shop_model.specs.Calendar.{Moment, IsMoment, day_of}
use Rattle.shop_model.specs.Rows.{at}
use Rattle.shop_model.specs.Values.{Film, Customer, Rental, Terms}
use Rattle.shop_model.specs.Shop.{Catalogue, Shop}
use Rattle.shop_model.specs.Books.{head}
use Rattle.shop_model.specs.Stock.{film_of}
use Rattle.shop_schema.specs.RowValues.{moment_value}

-- ---- what the join shows

abbrev pub renter_of : Shop → Rental → Option Customer
renter_of shop rental = head (at rental.customer shop.customers)

-- a rental's moment and period, its customer's names and telephone number, and its film's title: a customer or a film that isn't there is NULL
abbrev pub shown_out : Catalogue → Shop → Rental × Terms → sql.Row
shown_out catalogue shop it =
    moment_value it.0.rented ∷ number_value it.1.period ∷ or_null (λ (c : Customer). Text c.person.first) (renter_of shop it.0)
    ∷ or_null (λ (c : Customer). Text c.person.last) (renter_of shop it.0) ∷ or_null (λ (c : Customer). Text c.person.phone) (renter_of shop it.0)
    ∷ or_null (λ (film : Film). Text film.title) (head (film_of catalogue shop it.0)) ∷ []

-- ---- which rows are listed

-- the open rental's period ended before the day of the moment, so the rental is overdue
abbrev pub is_late : Moment → Rental × Terms → Bool
is_late moment it = nat_lt (day_of it.0.rented + it.1.period) (day_of moment)

abbrev pub IsReal : Rental × Terms → Type 0
IsReal it = IsMoment it.0.rented
