-- Defines books of version 1, and how they are migrated to version 2. In version 1 rentals have no terms, and balances depend on the films as they are now.
use Rattle.std.specs.Prelude.{◌≡◌, ℕ, ◌+◌, ◌*◌, ◌==◌, ◌&&◌, nat_lt, ℤ, pos, ◌-ℤ◌, Bool, List, [], map, filter, flat_map, is_none}
use Rattle.std.specs.List.{list_any}
use Rattle.shop_model.specs.Rows.{Row, total}
use Rattle.shop_model.specs.Calendar.{Moment, day_of, is_by}
use Rattle.shop_model.specs.Values.{Film, Rental, Terms, ByCode, Rules}
use Rattle.shop_model.specs.Shop.{Catalogue, Shop}
use Rattle.shop_model.specs.Stock.{film_of, terms_now, late_days, balance, overdue}
use Rattle.shop_model.specs.Books.{Books, shop_of}
use Rattle.shop_model.specs.Sound.{IsSound, IsSoundBy}

-- ---- version 1

abbrev pub HasNoTerms : Shop → Type 0
HasNoTerms shop = shop.terms ≡ []

-- sound as books of version 2 are, but for the terms
abbrev pub IsSoundWithoutTerms : Rules → Books → Type 0
IsSoundWithoutTerms = IsSoundBy HasNoTerms

-- what a rental added to a balance: its film's rate as it is now, and a dollar for each late day by its film's period as it is now
abbrev pub film_fee : Catalogue → Shop → Rental → ℕ
film_fee catalogue shop rental = total (λ (film : Film). film.rate + 100 * late_days rental.rented rental.returned film.period) (film_of catalogue shop rental)

abbrev pub film_balance : Catalogue → Shop → ℕ → Moment → ℤ
film_balance catalogue shop customer moment =
    pos (total (film_fee catalogue shop) (filter (λ rental. rental.customer == customer && is_by rental.rented moment) shop.rentals))
    -ℤ pos (total (λ payment. payment.amount) (filter (λ payment. payment.customer == customer && is_by payment.paid moment) shop.payments))

abbrev pub is_film_overdue : Catalogue → Shop → Moment → Rental → Bool
is_film_overdue catalogue shop moment rental =
    is_none rental.returned && list_any (λ (film : Film). nat_lt (day_of rental.rented + film.period) (day_of moment)) (film_of catalogue shop rental)

abbrev pub film_overdue : Catalogue → Shop → Moment → List Rental
film_overdue catalogue shop moment = filter (is_film_overdue catalogue shop moment) shop.rentals

-- ---- the migration

-- the terms of a branch's rental under its number, read from the film's row as it is now
abbrev pub row_terms : Books → Row Rental → List (Row Terms)
row_terms books row =
    map (λ it. record { branch = row.branch; number = row.number; it = it }) (terms_now books.catalogue (shop_of row.branch books) row.it.copy)

-- each rental gets its terms, and all else stays row for row
abbrev pub migrated : Books → Books
migrated books = record books { terms = flat_map (row_terms books) books.rentals }

-- the same books in version 1, in which rentals have no terms
abbrev pub without_terms : Books → Books
without_terms books = record books { terms = [] }

-- ---- its laws

-- books that are sound in version 1 become books that are sound
abbrev pub MigratedIsSound : Type 0
MigratedIsSound = (rules : Rules) (books : Books) → IsSoundWithoutTerms rules books → IsSound rules (migrated books)

-- sound books without their terms are sound in version 1, so only sound books of version 1 become sound books
abbrev pub SoundWithoutTerms : Type 0
SoundWithoutTerms = (rules : Rules) (books : Books) → IsSound rules books → IsSoundWithoutTerms rules (without_terms books)

-- balances and overdue rentals stay as they were in version 1, which used the manual's code for all balances
pub record KeepsBalances (books : Books) : Type 0 where
  pub balances : (b customer : ℕ) (moment : Moment)
      → balance books.catalogue.rule (shop_of b (migrated books)) customer moment ≡ film_balance books.catalogue (shop_of b books) customer moment
  pub overdue_same : (b : ℕ) (moment : Moment) → overdue (shop_of b (migrated books)) moment ≡ film_overdue books.catalogue (shop_of b books) moment

abbrev pub MigratedKeepsBalances : Type 0
MigratedKeepsBalances = (rules : Rules) (books : Books) → books.catalogue.rule ≡ ByCode → IsSoundWithoutTerms rules books → KeepsBalances books
