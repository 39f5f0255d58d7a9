-- The tables of head office's rows, as lists of the books.
use Rattle.shop_schema.proofs.Common.{refl, Text, City, Actor, Film, Cast, Branch, Staff, country_table, language_table, category_table, city_table}
use Rattle.shop_schema.proofs.Common.{actor_table, film_table, film_actor_table, staff_table, named_columns, city_columns, actor_columns, film_columns}
use Rattle.shop_schema.proofs.Common.{cast_columns, staff_columns}
use Rattle.shop_schema.proofs.Listed.{Part, Shared, Plain, listed}

abbrev pub countries : Shared Text
countries =
    listed 1 country_table named_columns (λ books. books.catalogue.countries)
    (λ xs books. record books { catalogue = record books.catalogue { countries = xs } })
    (record { place = refl; uncounted = refl; unstamped = refl }) refl (λ counts books. refl) (λ counts xs books. refl) (λ xs books. refl) (λ xs ys books. refl)

abbrev pub languages : Shared Text
languages =
    listed 2 language_table named_columns (λ books. books.catalogue.languages)
    (λ xs books. record books { catalogue = record books.catalogue { languages = xs } })
    (record { place = refl; uncounted = refl; unstamped = refl }) refl (λ counts books. refl) (λ counts xs books. refl) (λ xs books. refl) (λ xs ys books. refl)

abbrev pub categories : Shared Text
categories =
    listed 3 category_table named_columns (λ books. books.catalogue.categories)
    (λ xs books. record books { catalogue = record books.catalogue { categories = xs } })
    (record { place = refl; uncounted = refl; unstamped = refl }) refl (λ counts books. refl) (λ counts xs books. refl) (λ xs books. refl) (λ xs ys books. refl)

abbrev pub cities : Shared City
cities =
    listed 4 city_table city_columns (λ books. books.catalogue.cities) (λ xs books. record books { catalogue = record books.catalogue { cities = xs } })
    (record { place = refl; uncounted = refl; unstamped = refl }) refl (λ counts books. refl) (λ counts xs books. refl) (λ xs books. refl) (λ xs ys books. refl)

abbrev pub actors : Shared Actor
actors =
    listed 5 actor_table actor_columns (λ books. books.catalogue.actors) (λ xs books. record books { catalogue = record books.catalogue { actors = xs } })
    (record { place = refl; uncounted = refl; unstamped = refl }) refl (λ counts books. refl) (λ counts xs books. refl) (λ xs books. refl) (λ xs ys books. refl)

abbrev pub films : Shared Film
films =
    listed 6 film_table film_columns (λ books. books.catalogue.films) (λ xs books. record books { catalogue = record books.catalogue { films = xs } })
    (record { place = refl; uncounted = refl; unstamped = refl }) refl (λ counts books. refl) (λ counts xs books. refl) (λ xs books. refl) (λ xs ys books. refl)

abbrev pub casts : Plain Cast
casts =
    listed 7 film_actor_table cast_columns (λ books. books.catalogue.casts) (λ xs books. record books { catalogue = record books.catalogue { casts = xs } })
    (record { place = refl; uncounted = refl; unstamped = refl }) refl (λ counts books. refl) (λ counts xs books. refl) (λ xs books. refl) (λ xs ys books. refl)

abbrev pub staff : Shared Staff
staff =
    listed 9 staff_table staff_columns (λ books. books.catalogue.staff) (λ xs books. record books { catalogue = record books.catalogue { staff = xs } })
    (record { place = refl; uncounted = refl; unstamped = refl }) refl (λ counts books. refl) (λ counts xs books. refl) (λ xs books. refl) (λ xs ys books. refl)

-- the rows of the table `branch` have the last moments beside the branches
abbrev pub branches : Part Branch
branches =
    record {
      items = λ books. books.catalogue.branches;
      filled = λ xs books. record books { catalogue = record books.catalogue { branches = xs } };
      got = λ xs books. refl;
      again = λ xs ys books. refl;
    }
